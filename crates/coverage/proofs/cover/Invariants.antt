use Rattle.meaning.specs.Meaning.{middle}
use Rattle.meaning.specs.Textures.{image_if}
use Rattle.reference.specs.Changes.{Changes}
use Rattle.coverage.specs.Walks.{SeenFrom, above, before, painting}
use Rattle.coverage.proofs.cover.Given as goal

abbrev pub invariant-rows : goal.invariant-rows
invariant-rows l =
    SeenFrom l.outline.triangle (middle l.frame.left l.j) l.first
    × Changes l.size.width (above l.frame l.j) (painting (image_if l.brush.texture) l.brush.pen l.outline.triangle) l.initial.colours l.initial.depths l.colours l.depths

abbrev pub invariant-loop-i : goal.invariant-loop-i
invariant-loop-i l =
    SeenFrom l.outline.triangle (middle l.i l.j) l.sides
    × Changes l.size.width (before l.frame l.i l.j) (painting (image_if l.brush.texture) l.brush.pen l.outline.triangle) l.initial.colours l.initial.depths l.colours l.depths
