use Rattle.std.proofs.Common.{◌≡◌, ℕ, ◌^◌, ◌<◌, ◌&&◌, ℤ, pos, ◌-ℤ◌, neg_ℤ, is_le, is_lt, int_cmp, refl, ◌∙◌, arith, w32, w64, SFits, to_z, of_z}
use Rattle.std.specs.Prelude.{int_le, int_lt}
use Rattle.std.proofs.lemmas.Int.{ints, to_z-of_z}
use Rattle.codec.specs.Judged.{within}
use Rattle.codec.proofs.numbers.is_within.Goals as goal

le_is : (x y : ℤ) → is_le (int_cmp x y) ≡ int_le x y
le_is x y = grind (arith, ints)

lt_is : (x y : ℤ) → is_lt (int_cmp x y) ≡ int_lt x y
lt_is x y = grind (arith, ints)

-- both tests, of n and b as wider numbers, over the numbers themselves
both : (m : ℕ) (a n b : ℤ) → SFits w32 a → m < 2 ^ 32 → n ≡ to_z w32 (of_z w32 a) → b ≡ pos m →
    (is_le (int_cmp (to_z w64 (of_z w64 (pos 0 -ℤ to_z w64 (of_z w64 b)))) (to_z w64 (of_z w64 n))) && is_lt (int_cmp (to_z w64 (of_z w64 n)) (to_z w64 (of_z w64 b)))) ≡ within m a
unfolding within
both m a n b f h e g =
    let p : n ≡ a = simp to_z-of_z at e in
    let fn : SFits w64 n = omega (arith, ints) in
    let fb : SFits w64 b = omega (arith, ints) in
    let fz : SFits w64 (pos 0 -ℤ b) = omega (arith, ints) in
    let z : pos 0 -ℤ pos m ≡ neg_ℤ (pos m) = omega (arith, ints) in
    simp (to_z-of_z, le_is, lt_is) (rw (p, g, z) refl)

pub returns : goal.returns
returns c = c.contains.ensures.value ∙ both _ _ _ _ c.ranges.number c.ranges.bound.fits c.from.ensures c.from-bound.ensures
