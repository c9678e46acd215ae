use Rattle.std.proofs.Common.{sym}
use Rattle.std.proofs.lemmas.Bool.{cond-true, cond-false}
use Rattle.meaning.specs.Textures.{image_if}
use Rattle.meaning.proofs.Painting.{painted_not, painted_so}
use Rattle.meaning.proofs.fragment.Fragment.paint.Goals as goal

pub returns-then-not-is_passed : goal.returns-then-not-is_passed
returns-then-not-is_passed c =
    painted_not (image_if c.args.brush.texture) c.args.brush.pen c.args.self.triangle.a c.args.self.triangle.b c.args.self.triangle.c c.args.self.place c.args.dot
    c.depth-depth.result c.depth-depth.ensures c.if-not-is_passed.ensures

pub returns-then-pen : goal.returns-then-pen
returns-then-pen c =
    painted_so (image_if c.args.brush.texture) c.args.brush.pen c.args.self.triangle.a c.args.self.triangle.b c.args.self.triangle.c c.args.self.place c.args.dot
    c.depth-depth.result c.depth-depth.ensures c.colour.result c.mix_colours-colour.result c.depth-depth.result
    c.if-not-is_passed.ensures c.colour.ensures c.mix_colours-colour.ensures (sym (cond-true _ _ _ c.if-pen.true))

pub returns-else-pen : goal.returns-else-pen
returns-else-pen c =
    painted_so (image_if c.args.brush.texture) c.args.brush.pen c.args.self.triangle.a c.args.self.triangle.b c.args.self.triangle.c c.args.self.place c.args.dot
    c.depth-depth.result c.depth-depth.ensures c.colour.result c.mix_colours-colour.result c.args.dot.depth
    c.if-not-is_passed.ensures c.colour.ensures c.mix_colours-colour.ensures (sym (cond-false _ _ _ c.if-pen.false))
