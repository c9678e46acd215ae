use Rattle.std.proofs.Common.{◌≡◌, Bool, cond, ℤ, pos, sym, ap, Option, ap₂, ◌∙◌, SFits, rules}
use mir.Syntax.{w128}
use lib.Signed.{lt_z}
use Rattle.std.proofs.lemmas.Int.{to_z-of_z}
use Rattle.meaning.specs.declared.geometry.Place.{Place}
use Rattle.meaning.specs.declared.pen.Pen.{Pen}
use Rattle.meaning.specs.declared.state.Dot.{Dot}
use Rattle.meaning.specs.declared.triangle.Triangle.{Triangle}
use Rattle.meaning.specs.Meaning.{Image, turns, painted}
use Rattle.meaning.specs.Textures.{image_if}
use Rattle.meaning.specs.Weights.{holds}
use Rattle.meaning.proofs.Painting.{outside, against, with_clock}
use Rattle.meaning.proofs.triangle.Triangle.paint.Goals as goal

pub returns-then-not-contains : goal.returns-then-not-contains
returns-then-not-contains c = outside (image_if c.args.brush.texture) c.args.brush.pen c.args.self.a c.args.self.b c.args.self.c c.args.i c.args.j c.args.dot (sym c.if-not-contains.ensures)

-- the sign of the turn, over the number itself
sign : (z t : ℤ) (b : Bool) → SFits w128 z → z ≡ t → lt_z (mir.Val.to_z w128 (mir.Val.of_z w128 z)) (pos 0) ≡ b → lt_z t (pos 0) ≡ b
sign z t b f e h = ap (λ (i : ℤ). lt_z i (pos 0)) (sym (to_z-of_z w128 z f ∙ e)) ∙ h

-- what a dot becomes whose middle a triangle may cover
abbrev made : Option Image → Pen → Dot → Triangle → Place → Dot
made t p d x m = cond (holds x.a x.b x.c m) (painted t p x.a x.b x.c m d) d

pub returns-then-turn-lt0 : goal.returns-then-turn-lt0
returns-then-turn-lt0 c =
    let t = image_if c.args.brush.texture in
    let p = c.args.brush.pen in
    c.paint_if_covered.ensures
    ∙ ap₂ (made t p c.args.dot) c.turned.ensures c.middle_of-place.ensures
    ∙ against t p c.args.self.a c.args.self.b c.args.self.c c.args.i c.args.j c.args.dot (sym c.if-not-contains.ensures)
    (sign c.turn.result (turns c.args.self.a c.args.self.b c.args.self.c) _ (search rules) c.turn.ensures.value c.if-turn-lt0.true)

pub returns-else-turn-lt0 : goal.returns-else-turn-lt0
returns-else-turn-lt0 c =
    let t = image_if c.args.brush.texture in
    let p = c.args.brush.pen in
    c.paint_if_covered-else-turn-lt0.ensures
    ∙ ap (made t p c.args.dot c.args.self) c.middle_of-place.ensures
    ∙ with_clock t p c.args.self.a c.args.self.b c.args.self.c c.args.i c.args.j c.args.dot (sym c.if-not-contains.ensures)
    (sign c.turn.result (turns c.args.self.a c.args.self.b c.args.self.c) _ (search rules) c.turn.ensures.value c.if-turn-lt0.false)
