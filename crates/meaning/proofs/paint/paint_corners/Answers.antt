use Rattle.std.proofs.Common.{◌∙◌}
use Rattle.meaning.specs.Meaning.{triple_at}
use Rattle.meaning.specs.Textures.{image_if}
use Rattle.meaning.proofs.Painting.{hidden, shown}
use Rattle.meaning.proofs.paint.paint_corners.Goals as goal

pub returns-in-Some : goal.returns-in-Some
unfolding triple_at
returns-in-Some c =
    c.paint.ensures ∙ shown (image_if c.args.brush.texture) c.args.brush.pen c.args.i c.args.j c.args.dot c.in-Some.triangle _ _ _ c.in-Some.ensures

pub returns-in-None : goal.returns-in-None
unfolding triple_at
returns-in-None c = hidden (image_if c.args.brush.texture) c.args.brush.pen c.args.i c.args.j c.args.dot _ _ _ c.in-None.ensures
