use Rattle.std.proofs.Common.{◌≡◌, true, false, ℤ, pos, ◌<ℤ◌, sym, ap, ◌∙◌, arith, SFits, to_z, of_z, rules}
use lib.Signed.{lt_z}
use mir.Syntax.{w128}
use Rattle.std.proofs.lemmas.Int.{ints, to_z-of_z}
use Rattle.meaning.specs.Meaning.{turns}
use Rattle.setup.proofs.Standing.{on_clock, on_against, on_flat}
use Rattle.setup.proofs.triangle.ReadyTriangle.clockwise.Goals as goal

-- the sign of the area, from tests of its bits
module _ (z t : ℤ) (f : SFits w128 z) (e : z ≡ t) where
  none : of_z w128 z ≡ 0 → t ≡ pos 0
  none h = sym (to_z-of_z w128 z f ∙ e) ∙ ap (to_z w128) h

  below : lt_z (to_z w128 (of_z w128 z)) (pos 0) ≡ true → t <ℤ pos 0
  below h = let k : lt_z t (pos 0) ≡ true = ap (λ (i : ℤ). lt_z i (pos 0)) (sym (to_z-of_z w128 z f ∙ e)) ∙ h in omega (arith, ints)

  above : (of_z w128 z ≡ 0 → ⊥) → lt_z (to_z w128 (of_z w128 z)) (pos 0) ≡ false → pos 0 <ℤ t
  above g h = last t (λ k. g (ap (of_z w128) (e ∙ k))) (ap (λ (i : ℤ). lt_z i (pos 0)) (sym (to_z-of_z w128 z f ∙ e)) ∙ h)
    where
      last : (t : ℤ) → (t ≡ pos 0 → ⊥) → lt_z t (pos 0) ≡ false → pos 0 <ℤ t
      last t g h = grind (arith, ints)

pub returns-then-area-eq0 : goal.returns-then-area-eq0
returns-then-area-eq0 c =
    let t = c.args.triangle in
    on_flat c.args.pen t c.none.result (none c.turn-area.result (turns t.a t.b t.c) (search rules) c.turn-area.ensures.value c.if-area-eq0.true) c.none.ensures

pub returns-then-area-lt0 : goal.returns-then-area-lt0
returns-then-area-lt0 c =
    let t = c.args.triangle in
    on_against c.args.pen t c.boxed.result c.requires (below c.turn-area.result (turns t.a t.b t.c) (search rules) c.turn-area.ensures.value c.if-area-lt0.true)
    (rw c.turned.ensures at c.boxed.ensures)

pub returns-else-area-lt0 : goal.returns-else-area-lt0
returns-else-area-lt0 c =
    let t = c.args.triangle in
    on_clock c.args.pen t c.boxed-else-area-lt0.result c.requires
    (above c.turn-area.result (turns t.a t.b t.c) (search rules) c.turn-area.ensures.value c.if-area-eq0.false c.if-area-lt0.false) c.boxed-else-area-lt0.ensures
