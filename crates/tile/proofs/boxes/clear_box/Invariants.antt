use lib.ListN.{get_or}
use Rattle.reference.specs.Boxes.{in_box, Colours, Depths}
use Rattle.tile.proofs.boxes.clear_box.Given as goal

abbrev pub invariant-loop-j : goal.invariant-loop-j
invariant-loop-j l =
    Colours l.width (in_box l.left l.top l.right l.j) (λ i j c. get_or l.dot.colour c 0) l.initial.colours l.colours
    × Depths l.width (in_box l.left l.top l.right l.j) (λ i j. l.dot.depth) l.initial.depths l.depths
