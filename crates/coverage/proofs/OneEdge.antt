-- The sides of an edge from dot to dot.
-- Assumes nothing.
use Rattle.std.proofs.Common.{◌≡◌, ℕ, ◌+◌, ◌*◌, ◌^◌, ◌<◌, ◌≤◌, Bool, true, false, cond, ◌&&◌, ◌||◌, [], ◌∷◌, ℤ, pos, ◌+ℤ◌, ◌-ℤ◌, ◌*ℤ◌, ◌≤ℤ◌, ◌<ℤ◌, ap, ◌∙◌, arith}
use lib.Signed.{lt_z, le_z, mag}
use borrow.Author.Differences.{ints}
use Rattle.std.proofs.lemmas.Bool.{and_parts}
use Rattle.fixed_point.specs.Whole.{sameZ}
use Rattle.fixed_point.proofs.Ring.{Expr, v, k, ◌⊕◌, ◌⊖◌, ◌⊗◌, solve}
use Rattle.fixed_point.proofs.Bounds.{mul_mag, sub_mag}
use Rattle.fixed_point.proofs.Signs.{mul_nonneg}
use Rattle.meaning.specs.declared.geometry.Place.{Place}
use Rattle.meaning.specs.Meaning.{edge, owns, inside, middle}
use Rattle.meaning.specs.Fits.{PlaceFits}
use Rattle.coverage.specs.Steps.{across_gain, down_gain, least_side, past_one}

at_most : (a b : ℤ) → le_z a b ≡ true → a ≤ℤ b
at_most a b h = grind (arith, ints)

is_less : (a b : ℤ) → lt_z a b ≡ true → a <ℤ b
is_less a b h = grind (arith, ints)

is_not_above : (a b : ℤ) → a <ℤ b → le_z b a ≡ false
is_not_above a b h = grind (arith, ints)

-- `edge` over coordinates, and its mirror for the solver
abbrev area : ℤ → ℤ → ℤ → ℤ → ℤ → ℤ → ℤ
area px py qx qy x y = ((qx -ℤ px) *ℤ (y -ℤ py)) -ℤ ((qy -ℤ py) *ℤ (x -ℤ px))

abbrev A : Expr → Expr → Expr
A x y = ((v 2 ⊖ v 0) ⊗ (y ⊖ v 1)) ⊖ ((v 3 ⊖ v 1) ⊗ (x ⊖ v 0))

-- 256 to the right, and 256 down
right : (px py qx qy x y : ℤ) → area px py qx qy (x +ℤ pos 256) y ≡ area px py qx qy x y +ℤ (pos 256 *ℤ (py -ℤ qy))
right px py qx qy x y = solve (px ∷ py ∷ qx ∷ qy ∷ x ∷ y ∷ []) (A (v 4 ⊕ k (pos 256)) (v 5)) (A (v 4) (v 5) ⊕ (k (pos 256) ⊗ (v 1 ⊖ v 3))) tt

under : (px py qx qy x y : ℤ) → area px py qx qy x (y +ℤ pos 256) ≡ area px py qx qy x y +ℤ (pos 256 *ℤ (qx -ℤ px))
under px py qx qy x y = solve (px ∷ py ∷ qx ∷ qy ∷ x ∷ y ∷ []) (A (v 4) (v 5 ⊕ k (pos 256))) (A (v 4) (v 5) ⊕ (k (pos 256) ⊗ (v 2 ⊖ v 0))) tt

-- any way to the right
further : (px py qx qy x z y : ℤ) → area px py qx qy z y ≡ area px py qx qy x y -ℤ ((z -ℤ x) *ℤ (qy -ℤ py))
further px py qx qy x z y = solve (px ∷ py ∷ qx ∷ qy ∷ x ∷ y ∷ z ∷ []) (A (v 6) (v 5)) (A (v 4) (v 5) ⊖ ((v 6 ⊖ v 4) ⊗ (v 3 ⊖ v 1))) tt

next_middle : (i : ℕ) → pos (256 * (i + 1) + 128) ≡ pos (256 * i + 128) +ℤ pos 256
next_middle i = omega (arith, ints)

module _ (p q : Place) where
  pub edge_across : (i j : ℕ) → edge p q (middle (i + 1) j) ≡ edge p q (middle i j) +ℤ across_gain p q
  unfolding edge middle
  edge_across i j = ap (λ (x : ℤ). area p.x p.y q.x q.y x (pos (256 * j + 128))) (next_middle i) ∙ right p.x p.y q.x q.y (pos (256 * i + 128)) (pos (256 * j + 128))

  pub edge_down : (i j : ℕ) → edge p q (middle i (j + 1)) ≡ edge p q (middle i j) +ℤ down_gain p q
  unfolding edge middle
  edge_down i j = ap (λ (y : ℤ). area p.x p.y q.x q.y (pos (256 * i + 128)) y) (next_middle j) ∙ under p.x p.y q.x q.y (pos (256 * i + 128)) (pos (256 * j + 128))

  -- dots are not that far away
  pub edge_fits : PlaceFits p → PlaceFits q → (i j : ℕ) → i ≤ 65536 → j ≤ 65536 → mag (edge p q (middle i j)) < 2 ^ 48
  unfolding edge middle
  edge_fits fp fq i j hi hj =
      let qx = sub_mag q.x p.x (2 ^ 19) (2 ^ 19) fq.x fp.x in
      let qy = sub_mag q.y p.y (2 ^ 19) (2 ^ 19) fq.y fp.y in
      let mx = sub_mag (pos (256 * i + 128)) p.x (2 ^ 25) (2 ^ 19) (omega arith) fp.x in
      let my = sub_mag (pos (256 * j + 128)) p.y (2 ^ 25) (2 ^ 19) (omega arith) fp.y in
      let a = mul_mag (q.x -ℤ p.x) (pos (256 * j + 128) -ℤ p.y) (2 ^ 20) (2 ^ 26) qx (omega arith) in
      let b = mul_mag (q.y -ℤ p.y) (pos (256 * i + 128) -ℤ p.x) (2 ^ 20) (2 ^ 26) qy (omega arith) in
      sub_mag ((q.x -ℤ p.x) *ℤ (pos (256 * j + 128) -ℤ p.y)) ((q.y -ℤ p.y) *ℤ (pos (256 * i + 128) -ℤ p.x)) (2 ^ 47) (2 ^ 47) (omega arith) (omega arith)

  -- what is least for a place inside
  pub inside_is : (m : Place) → inside p q m ≡ le_z (least_side p q) (edge p q m)
  unfolding inside sameZ
  inside_is m = go (edge p q m) (owns p q)
    where
      go : (z : ℤ) (o : Bool) → (lt_z (pos 0) z || ((le_z z (pos 0) && le_z (pos 0) z) && o)) ≡ le_z (cond o (pos 0) (pos 1)) z
      go z true = grind (arith, ints)
      go z false = grind (arith, ints)

  -- along a row that does not come nearer to the edge every dot is outside
  pub outside_on : (i j : ℕ) → past_one (across_gain p q) (least_side p q) (edge p q (middle i j)) ≡ true → (a : ℕ) → i ≤ a → inside p q (middle a j) ≡ false
  unfolding edge middle
  outside_on i j h a ia =
      let g = and_parts (lt_z (edge p q (middle i j)) (least_side p q)) (le_z (across_gain p q) (pos 0)) h in
      inside_is (middle a j)
      ∙ lower _ _ _ (least_side p q) g.0 (further p.x p.y q.x q.y (pos (256 * i + 128)) (pos (256 * a + 128)) (pos (256 * j + 128)))
      (mul_nonneg (pos (256 * a + 128) -ℤ pos (256 * i + 128)) (q.y -ℤ p.y) (omega (arith, ints)) (falls q.y p.y g.1))
    where
      falls : (qy py : ℤ) → le_z (pos 256 *ℤ (py -ℤ qy)) (pos 0) ≡ true → pos 0 ≤ℤ (qy -ℤ py)
      falls qy py g = let n : (pos 256 *ℤ (py -ℤ qy)) ≤ℤ pos 0 = at_most (pos 256 *ℤ (py -ℤ qy)) (pos 0) g in omega (arith, ints)

      lower : (z y g l : ℤ) → lt_z z l ≡ true → y ≡ z -ℤ g → pos 0 ≤ℤ g → le_z l y ≡ false
      lower z y g l h e n = let m : z <ℤ l = is_less z l h in is_not_above y l (omega (arith, ints))
