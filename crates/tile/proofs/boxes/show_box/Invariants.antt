use Rattle.reference.proofs.Rows.{Copied}
use Rattle.tile.proofs.boxes.show_box.Given as goal

abbrev pub invariant-loop-j : goal.invariant-loop-j
invariant-loop-j l = Copied l.width l.first l.left l.top l.right l.j l.colours l.initial.shown l.shown
