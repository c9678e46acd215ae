-- A row of a view at a corner, and a coordinate of a point: the numbers on the way, by their bits and back.
-- Assumes nothing.
use Rattle.std.proofs.Common.{◌≡◌, ℕ, ◌+◌, ◌/◌, ◌^◌, ◌<◌, ◌≤◌, ℤ, pos, ◌+ℤ◌, ◌*ℤ◌, sym, ap, ◌∙◌, subst, le_trans, arith, w32, w64, SFits, to_z, of_z}
use lib.Signed.{mag}
use mir.Syntax.{w128}
use Rattle.std.proofs.lemmas.Int.{ints, to_z-of_z}
use Rattle.fixed_point.specs.Whole.{down}
use Rattle.fixed_point.proofs.Bounds.{plain_mul, mul_mag, add_mag, down_mag, down_less}

-- a number of 128 bits, by its bits and back
abbrev pub kept : ℤ → ℤ
kept z = to_z w128 (of_z w128 z)

-- four products of two numbers of 32 bits, summed from the left
pub record Sums (p q r s : ℤ) : Type 0 where
  pub two : SFits w128 (kept p +ℤ kept q)
  pub three : SFits w128 (kept (kept p +ℤ kept q) +ℤ kept r)
  pub four : SFits w128 (kept (kept (kept p +ℤ kept q) +ℤ kept r) +ℤ kept s)
  pub is : kept (kept (kept (kept p +ℤ kept q) +ℤ kept r) +ℤ kept s) ≡ ((p +ℤ q) +ℤ r) +ℤ s
  pub small : mag (((p +ℤ q) +ℤ r) +ℤ s) < 2 ^ 65

pub sums : (p q r s : ℤ) → mag p ≤ 2 ^ 62 → mag q ≤ 2 ^ 62 → mag r ≤ 2 ^ 62 → mag s ≤ 2 ^ 62 → Sums p q r s
sums p q r s hp hq hr hs =
    let fp : SFits w128 p = omega (arith, ints) in
    let fq : SFits w128 q = omega (arith, ints) in
    let fr : SFits w128 r = omega (arith, ints) in
    let fs : SFits w128 s = omega (arith, ints) in
    let two : SFits w128 (p +ℤ q) = omega (arith, ints) in
    let three : SFits w128 ((p +ℤ q) +ℤ r) = omega (arith, ints) in
    let four : SFits w128 (((p +ℤ q) +ℤ r) +ℤ s) = omega (arith, ints) in
    record {
      two = simp to_z-of_z two;
      three = simp to_z-of_z three;
      four = simp to_z-of_z four;
      is = simp to_z-of_z;
      small =
          add_mag ((p +ℤ q) +ℤ r) s (2 ^ 64 + 2 ^ 63) (2 ^ 63)
          (add_mag (p +ℤ q) r (2 ^ 64) (2 ^ 63) (add_mag p q (2 ^ 63) (2 ^ 63) (omega arith) (omega arith)) (omega arith)) (omega arith);
    }

-- the sum's whole part fits 64 bits
pub floor_is : (d p q r s : ℤ) → Sums p q r s → d ≡ down (kept (kept (kept (kept p +ℤ kept q) +ℤ kept r) +ℤ kept s)) 65536 →
    (d ≡ down (((p +ℤ q) +ℤ r) +ℤ s) 65536) × (mag d < 2 ^ 49)
floor_is d p q r s h e =
    let is : d ≡ down (((p +ℤ q) +ℤ r) +ℤ s) 65536 = e ∙ ap (λ z. down z 65536) h.is in
    let m : mag d ≡ mag (((p +ℤ q) +ℤ r) +ℤ s) / 65536 = ap mag is ∙ down_mag (((p +ℤ q) +ℤ r) +ℤ s) 65536 in
    (is, divided (mag d) (mag (((p +ℤ q) +ℤ r) +ℤ s)) m h.small)
  where
    divided : (a b : ℕ) → a ≡ b / 65536 → b < 2 ^ 65 → a < 2 ^ 49
    divided a b e h = omega arith

-- a number of fewer bits, by its bits at both widths and back
pub narrow_64 : (d : ℤ) → mag d < 2 ^ 49 → SFits w64 (kept d) × (to_z w64 (of_z w64 (kept d)) ≡ d)
narrow_64 d h =
    let f : SFits w128 d = omega (arith, ints) in
    let g : SFits w64 d = omega (arith, ints) in
    (simp to_z-of_z g, simp to_z-of_z)

-- the middle and a scaled quotient
pub record Moved (z m : ℤ) (scale away : ℕ) (p d f : ℤ) : Type 0 where
  pub fits : SFits w128 (kept f +ℤ kept d)
  pub is : kept (kept f +ℤ kept d) ≡ m +ℤ down (z *ℤ pos scale) away

pub moved : (z m : ℤ) (scale away : ℕ) (s p d f : ℤ) → SFits w64 z → SFits w32 m → scale < 2 ^ 32 →
    s ≡ pos scale → p ≡ to_z w64 (of_z w64 z) *ℤ to_z w64 (of_z w64 s) → d ≡ down (kept p) away → f ≡ to_z w32 (of_z w32 m) → Moved z m scale away p d f
moved z m scale away s p d f fz fm hs es ep ed ef =
    let hs' : mag s < 2 ^ 32 = rw es hs in
    let fs : SFits w64 s = record { sfits = omega arith } in
    let ep' = plain_mul w64 p z s fz fs ep in
    let hp : mag p ≤ 2 ^ 95 = subst (λ i. mag i ≤ 2 ^ 95) (sym ep') (mul_mag z s (2 ^ 63) (2 ^ 32) fz.sfits hs') in
    let fp : SFits w128 p = record { sfits = omega arith } in
    let ed' : d ≡ down p away = simp to_z-of_z at ed in
    let hd : mag d ≤ 2 ^ 95 = subst (λ i. mag i ≤ 2 ^ 95) (sym ed') (le_trans (down_less p away) hp) in
    let fd : SFits w128 d = record { sfits = omega arith } in
    let ef' : f ≡ m = simp to_z-of_z at ef in
    let hm : mag f < 2 ^ 31 = subst (λ i. mag i < 2 ^ 31) (sym ef') fm.sfits in
    let ff : SFits w128 f = record { sfits = omega arith } in
    let all : SFits w128 (f +ℤ d) = both f d hm hd in
    let is : f +ℤ d ≡ m +ℤ down (z *ℤ pos scale) away = (λ i. ef' i +ℤ ed' i) ∙ ap (λ i. m +ℤ down i away) (ep' ∙ ap (λ i. z *ℤ i) es) in
    record { fits = simp to_z-of_z all; is = simp to_z-of_z is }
  where
    both : (f d : ℤ) → mag f < 2 ^ 31 → mag d ≤ 2 ^ 95 → SFits w128 (f +ℤ d)
    both f d h k = omega (arith, ints)
