-- A place that a triangle covers lies in its box.
-- Assumes nothing.
use Rattle.std.proofs.Common.{◌≡◌, true, [], ◌∷◌, ℤ, pos, ◌+ℤ◌, ◌-ℤ◌, ◌*ℤ◌, neg_ℤ, ◌≤ℤ◌, ◌<ℤ◌, arith}
use lib.Signed.{le_z}
use Rattle.std.specs.Int.{int_min, int_max}
use Rattle.std.proofs.lemmas.Int.{ints, clamps, by_lt_z}
use Rattle.std.proofs.lemmas.Bool.{and_parts, and_from}
use Rattle.fixed_point.proofs.Ring.{v, k, ◌⊕◌, ◌⊖◌, ◌⊗◌, ⊝, solve}
use Rattle.fixed_point.proofs.Signs.{mul_nonneg}
use Rattle.meaning.specs.declared.geometry.Place.{Place}
use Rattle.meaning.specs.declared.points.Point.{Point}
use Rattle.meaning.specs.Meaning.{edge, turns, covers}
use Rattle.meaning.proofs.Sides.{coordinates, X, Y, E}
use Rattle.meaning.proofs.Depths.{not_below, sum_at}
use Rattle.setup.specs.Boxes.{between, boxed}

-- the weights a, b and c are not below 0, nor all 0
module _ (a b c : ℤ) (ha : pos 0 ≤ℤ a) (hb : pos 0 ≤ℤ b) (hc : pos 0 ≤ℤ c) (some : pos 0 <ℤ ((a +ℤ b) +ℤ c)) where
  -- what is above 0 has a multiple not below the weight
  multiple : (w p : ℤ) → pos 0 ≤ℤ w → pos 0 <ℤ p → w ≤ℤ (w *ℤ p)
  multiple w p hw hp =
      last (w *ℤ (p -ℤ pos 1)) (w *ℤ p) (mul_nonneg w (p -ℤ pos 1) hw (omega (arith, ints)))
      (solve (w ∷ p ∷ []) (v 0 ⊗ (v 1 ⊖ k (pos 1))) ((v 0 ⊗ v 1) ⊖ v 0) tt)
    where
      last : (x y : ℤ) → pos 0 ≤ℤ x → x ≡ y -ℤ w → w ≤ℤ y
      last x y h e = omega (arith, ints)

  -- so that a mean of numbers above 0 is not 0
  not_above : (p q r : ℤ) → ((a *ℤ p) +ℤ (b *ℤ q)) +ℤ (c *ℤ r) ≡ pos 0 → (pos 0 <ℤ p) × (pos 0 <ℤ q) × (pos 0 <ℤ r) → ⊥
  not_above p q r e h = last (a *ℤ p) (b *ℤ q) (c *ℤ r) e (multiple a p ha h.0) (multiple b q hb h.1) (multiple c r hc h.2)
    where
      last : (x y z : ℤ) → (x +ℤ y) +ℤ z ≡ pos 0 → a ≤ℤ x → b ≤ℤ y → c ≤ℤ z → ⊥
      last x y z e f g h = omega (arith, ints)

  not_below_all : (p q r : ℤ) → ((a *ℤ p) +ℤ (b *ℤ q)) +ℤ (c *ℤ r) ≡ pos 0 → (p <ℤ pos 0) × (q <ℤ pos 0) × (r <ℤ pos 0) → ⊥
  not_below_all p q r e h =
      not_above (neg_ℤ p) (neg_ℤ q) (neg_ℤ r)
      (last _ _ (solve (a ∷ b ∷ c ∷ p ∷ q ∷ r ∷ []) (((v 0 ⊗ ⊝ (v 3)) ⊕ (v 1 ⊗ ⊝ (v 4))) ⊕ (v 2 ⊗ ⊝ (v 5))) (⊝ (((v 0 ⊗ v 3) ⊕ (v 1 ⊗ v 4)) ⊕ (v 2 ⊗ v 5))) tt) e)
      (omega (arith, ints))
    where
      last : (x y : ℤ) → x ≡ neg_ℤ y → y ≡ pos 0 → x ≡ pos 0
      last x y e f = omega (arith, ints)

  -- a weighted mean lies between the least and the greatest
  pub mean_between : (x y z m : ℤ) → ((a *ℤ (x -ℤ m)) +ℤ (b *ℤ (y -ℤ m))) +ℤ (c *ℤ (z -ℤ m)) ≡ pos 0 → between x y z m ≡ true
  mean_between x y z m e =
      and_from _ _
      (by_lt_z m (int_min (int_min x y) z) (λ h. absurd (not_above (x -ℤ m) (y -ℤ m) (z -ℤ m) e (omega (arith, ints, clamps)))) (at_most (int_min (int_min x y) z) m))
      (by_lt_z (int_max (int_max x y) z) m (λ h. absurd (not_below_all (x -ℤ m) (y -ℤ m) (z -ℤ m) e (omega (arith, ints, clamps)))) (at_most m (int_max (int_max x y) z)))
    where
      at_most : (x y : ℤ) → x ≤ℤ y → le_z x y ≡ true
      at_most x y h = grind (arith, ints)

module _ (a b c m : Place) where
  mean_x : ((edge b c m *ℤ (a.x -ℤ m.x)) +ℤ (edge c a m *ℤ (b.x -ℤ m.x))) +ℤ (edge a b m *ℤ (c.x -ℤ m.x)) ≡ pos 0
  unfolding edge
  mean_x = solve (coordinates (a ∷ b ∷ c ∷ m ∷ [])) (((E 1 2 3 ⊗ (X 0 ⊖ X 3)) ⊕ (E 2 0 3 ⊗ (X 1 ⊖ X 3))) ⊕ (E 0 1 3 ⊗ (X 2 ⊖ X 3))) (k (pos 0)) tt

  mean_y : ((edge b c m *ℤ (a.y -ℤ m.y)) +ℤ (edge c a m *ℤ (b.y -ℤ m.y))) +ℤ (edge a b m *ℤ (c.y -ℤ m.y)) ≡ pos 0
  unfolding edge
  mean_y = solve (coordinates (a ∷ b ∷ c ∷ m ∷ [])) (((E 1 2 3 ⊗ (Y 0 ⊖ Y 3)) ⊕ (E 2 0 3 ⊗ (Y 1 ⊖ Y 3))) ⊕ (E 0 1 3 ⊗ (Y 2 ⊖ Y 3))) (k (pos 0)) tt

pub covered_boxed : (a b c : Point) (m : Place) → pos 0 <ℤ turns a b c → covers a b c m ≡ true → boxed a.at b.at c.at m ≡ true
unfolding turns covers
covered_boxed a b c m turn in-it =
    let s = and_parts _ _ in-it in
    let t = and_parts _ _ s.1 in
    let wa = not_below _ _ _ t.0 in
    let wb = not_below _ _ _ t.1 in
    let wc = not_below _ _ _ s.0 in
    let some : pos 0 <ℤ ((edge b.at c.at m +ℤ edge c.at a.at m) +ℤ edge a.at b.at m) = rw (sum_at a.at b.at c.at m) turn in
    and_from _ _
    (mean_between _ _ _ wa wb wc some a.at.x b.at.x c.at.x m.x (mean_x a.at b.at c.at m))
    (mean_between _ _ _ wa wb wc some a.at.y b.at.y c.at.y m.y (mean_y a.at b.at c.at m))
