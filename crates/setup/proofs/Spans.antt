-- The dots of a row or a column between the least and the greatest of three coordinates.
-- Assumes nothing.
use Rattle.std.proofs.Common.{◌≡◌, ℕ, ◌<◌, ◌≤◌, min, max, Bool, ◌&&◌, ltb, leb, ℤ, pos, ◌+ℤ◌, sym, ap, ◌∙◌, subst, arith, w32, SFits, to_z, of_z}
use lib.Signed.{lt_z, le_z, mag}
use Rattle.std.specs.Int.{int_min, int_max}
use Rattle.std.proofs.lemmas.Int.{ints, to_z-of_z}
use Rattle.std.proofs.lemmas.Bool.{cond_both}
use Rattle.std.proofs.lemmas.Bool.Decides.{nat_tests}
use Rattle.fixed_point.proofs.Bounds.{mag_of}
use Rattle.setup.specs.Boxes.{between}

-- a number by its bits and back, and the next one
pub same_small : (x : ℤ) → mag x < 524288 → to_z w32 (of_z w32 x) ≡ x
same_small x h = let f : SFits w32 x = omega (arith, ints) in to_z-of_z w32 x f

pub record Next (x : ℤ) : Type 0 where
  pub fits : SFits w32 (to_z w32 (of_z w32 x) +ℤ pos 1)
  pub is : to_z w32 (of_z w32 (to_z w32 (of_z w32 x) +ℤ pos 1)) ≡ x +ℤ pos 1
  pub small : mag (to_z w32 (of_z w32 (to_z w32 (of_z w32 x) +ℤ pos 1))) ≤ 524288

pub next : (x : ℤ) → mag x < 524288 → Next x
next x h =
    let f : SFits w32 x = omega (arith, ints) in
    let g : SFits w32 (x +ℤ pos 1) = omega (arith, ints) in
    let k = mag_of (x +ℤ pos 1) 524289 (omega (arith, ints)) (omega (arith, ints)) in
    record { fits = simp to_z-of_z g; is = simp to_z-of_z; small = simp to_z-of_z (omega arith) }

-- one of two, and of three, small numbers is small
module _ (f : ℤ → ℤ → ℤ) (kept : (x y : ℤ) → mag x < 524288 → mag y < 524288 → mag (f x y) < 524288) where
  of_two : (x y r : ℤ) → mag x < 524288 → mag y < 524288 → r ≡ f (to_z w32 (of_z w32 x)) (to_z w32 (of_z w32 y)) → (r ≡ f x y) × (mag r < 524288)
  of_two x y r hx hy e =
      let q = e ∙ (λ i. f (same_small x hx i) (same_small y hy i)) in
      (q, subst (λ (z : ℤ). mag z < 524288) (sym q) (kept x y hx hy))

  of_three : (x y z l m : ℤ) → mag x < 524288 → mag y < 524288 → mag z < 524288 → l ≡ f (to_z w32 (of_z w32 x)) (to_z w32 (of_z w32 y)) →
      m ≡ f (to_z w32 (of_z w32 l)) (to_z w32 (of_z w32 z)) → (m ≡ f (f x y) z) × (mag m < 524288)
  of_three x y z l m hx hy hz e g =
      let p = of_two x y l hx hy e in
      let q = of_two l z m p.1 hz g in
      (q.0 ∙ ap (λ (i : ℤ). f i z) p.0, q.1)

pub least : (x y z l m : ℤ) → mag x < 524288 → mag y < 524288 → mag z < 524288 → l ≡ int_min (to_z w32 (of_z w32 x)) (to_z w32 (of_z w32 y)) →
    m ≡ int_min (to_z w32 (of_z w32 l)) (to_z w32 (of_z w32 z)) → (m ≡ int_min (int_min x y) z) × (mag m < 524288)
least = of_three int_min (λ x y h g. cond_both (lt_z y x) y x (λ (z : ℤ). mag z < 524288) (λ _. g) (λ _. h))

pub greatest : (x y z l m : ℤ) → mag x < 524288 → mag y < 524288 → mag z < 524288 → l ≡ int_max (to_z w32 (of_z w32 x)) (to_z w32 (of_z w32 y)) →
    m ≡ int_max (to_z w32 (of_z w32 l)) (to_z w32 (of_z w32 z)) → (m ≡ int_max (int_max x y) z) × (mag m < 524288)
greatest = of_three int_max (λ x y h g. cond_both (lt_z y x) x y (λ (z : ℤ). mag z < 524288) (λ _. h) (λ _. g))

-- p dots have their middles before l, and q have them before g or on it
within : (from to p q i : ℕ) (m l g : ℤ) → ltb i p ≡ lt_z m l → ltb i q ≡ lt_z m (g +ℤ pos 1) →
    (leb (max from p) i && ltb i (min to q)) ≡ ((leb from i && ltb i to) && (le_z l m && le_z m g))
within from to p q i m l g e f = grind (arith, ints, nat_tests)

-- the same with the numbers that the code has
module _ (from to p q u v : ℕ) (l g k h : ℤ) (el : l ≡ k) (eg : g ≡ h) (sl : mag l < 524288) (sg : mag g < 524288) (eu : u ≡ max from p) (ev : v ≡ min to q) where
  pub span_is : (i : ℕ) (m : ℤ) → ltb i p ≡ lt_z m (to_z w32 (of_z w32 l)) → ltb i q ≡ lt_z m (to_z w32 (of_z w32 (to_z w32 (of_z w32 g) +ℤ pos 1))) →
      (leb u i && ltb i v) ≡ ((leb from i && ltb i to) && (le_z k m && le_z m h))
  span_is i m e f =
      let a = within from to p q i m l g (e ∙ ap (lt_z m) (same_small l sl)) (f ∙ ap (lt_z m) (next g sg).is) in
      cc

-- what `span` promises of numbers by their bits, over the numbers themselves
pub spanned : (p b : Bool) (x y z m : ℤ) → mag x < 524288 → mag y < 524288 → mag z < 524288 →
    p ≡ (b && between (to_z w32 (of_z w32 x)) (to_z w32 (of_z w32 y)) (to_z w32 (of_z w32 z)) m) → p ≡ (b && between x y z m)
spanned p b x y z m hx hy hz e = e ∙ (λ i. b && between (same_small x hx i) (same_small y hy i) (same_small z hz i) m)

-- two spans are a box
pub crossed : (p q : Bool) (a b c d : Bool) → p ≡ (a && b) → q ≡ (c && d) → p && q ≡ ((a && c) && (b && d))
crossed p q a b c d e f = grind arith
