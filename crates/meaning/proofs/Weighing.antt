-- The weights that the code computes are those of the definition.
-- Assumes nothing.
use Rattle.std.proofs.Common.{◌≡◌, ℕ, ◌+◌, ◌^◌, ◌<◌, ◌≤◌, true, false, ℤ, pos, negsuc, nat_abs, ◌≤ℤ◌, ◌<ℤ◌, sym, refl, ap, ◌∙◌, subst, arith, SFits, to_z, of_z}
use lib.Signed.{le_z, lt_z, mag}
use mir.Syntax.{w128}
use Rattle.std.proofs.lemmas.Int.{ints, to_z-of_z}
use Rattle.std.proofs.lemmas.Bool.{and_parts, and_from}
use Rattle.meaning.specs.declared.geometry.Place.{Place}
use Rattle.meaning.specs.declared.points.Point.{Point}
use Rattle.meaning.specs.Meaning.{edge, inside, turns, covers}
use Rattle.meaning.specs.Weights.{holds}
use Rattle.meaning.proofs.Sides.{is_above}
use Rattle.meaning.proofs.Depths.{not_below, weights}

-- the size of a number that is not below 0, by its bits and back
size_is : (n : ℕ) (s e : ℤ) → SFits w128 s → s ≡ e → n ≡ nat_abs (to_z w128 (of_z w128 s)) → pos 0 ≤ℤ e → n ≡ mag e
size_is n s e f q r h = r ∙ ap nat_abs (to_z-of_z w128 s f ∙ q) ∙ whole e h
  where
    whole : (z : ℤ) → pos 0 ≤ℤ z → nat_abs z ≡ mag z
    whole (pos n) h = refl
    whole (negsuc n) h = absurd h.le

above : (t e : ℤ) → SFits w128 t → t ≡ e → le_z (to_z w128 (of_z w128 t)) (pos 0) ≡ false → pos 0 <ℤ e
above t e f q h = let k : le_z e (pos 0) ≡ false = ap (λ (z : ℤ). le_z z (pos 0)) (sym (to_z-of_z w128 t f ∙ q)) ∙ h in omega (arith, ints)

sides : (a b c : Point) (m : Place) → covers a b c m ≡ true → (pos 0 ≤ℤ edge b.at c.at m) × (pos 0 ≤ℤ edge c.at a.at m) × (pos 0 ≤ℤ edge a.at b.at m)
unfolding covers
sides a b c m h =
    let s = and_parts (inside a.at b.at m) _ h in
    let t = and_parts (inside b.at c.at m) _ s.1 in
    (not_below _ _ _ t.0, not_below _ _ _ t.1, not_below _ _ _ s.0)

-- the four numbers, at a place that the triangle holds
pub record Computed (a b c : Point) (m : Place) (wa wb wc area : ℕ) : Type 0 where
  pub held : holds a b c m ≡ true
  pub some : 0 < area
  pub sum : wa + wb + wc ≡ area
  pub small : area ≤ 2 ^ 67
  pub a_is : wa ≡ mag (edge b.at c.at m)
  pub b_is : wb ≡ mag (edge c.at a.at m)
  pub c_is : wc ≡ mag (edge a.at b.at m)
  pub area_is : area ≡ mag (turns a b c)

pub computed : (a b c : Point) (m : Place) (t p q r : ℤ) (wa wb wc area : ℕ) → SFits w128 t → SFits w128 p → SFits w128 q → SFits w128 r →
    t ≡ turns a b c → mag t ≤ 2 ^ 66 → le_z (to_z w128 (of_z w128 t)) (pos 0) ≡ false → covers a b c m ≡ true →
    p ≡ edge b.at c.at m → q ≡ edge c.at a.at m → r ≡ edge a.at b.at m →
    wa ≡ nat_abs (to_z w128 (of_z w128 p)) → wb ≡ nat_abs (to_z w128 (of_z w128 q)) → wc ≡ nat_abs (to_z w128 (of_z w128 r)) → area ≡ nat_abs (to_z w128 (of_z w128 t)) →
    Computed a b c m wa wb wc area
computed a b c m t p q r wa wb wc area ft fp fq fr et bt lt in-it ep eq er ea eb ec es =
    let turn = above t (turns a b c) ft et lt in
    let s = sides a b c m in-it in
    let w = weights a b c m turn in-it in
    let ia = size_is wa p (edge b.at c.at m) fp ep ea s.0 in
    let ib = size_is wb q (edge c.at a.at m) fq eq eb s.1 in
    let ic = size_is wc r (edge a.at b.at m) fr er ec s.2 in
    let it = size_is area t (turns a b c) ft et es (least (turns a b c) turn) in
    let top : mag (turns a b c) ≤ 2 ^ 66 = subst (λ (z : ℤ). mag z ≤ 2 ^ 66) et bt in
    record {
      held = and_from (lt_z (pos 0) (turns a b c)) (covers a b c m) (is_above (turns a b c) turn) in-it;
      some = omega (arith, w);
      sum = omega (arith, w);
      small = omega arith;
      a_is = ia;
      b_is = ib;
      c_is = ic;
      area_is = it;
    }
  where
    least : (z : ℤ) → pos 0 <ℤ z → pos 0 ≤ℤ z
    least z h = omega (arith, ints)
