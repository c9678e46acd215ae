use Rattle.std.proofs.Common.{◌+◌}
use Rattle.reference.specs.Boxes.{in_box}
use Rattle.reference.specs.Dots.{Drawn}
use Rattle.reference.proofs.dots.mean_row.Given as goal

abbrev pub invariant-loop-i : goal.invariant-loop-i
invariant-loop-i l =
    Drawn (in_box 0 l.j l.i (l.j + 1)) l.initial.canvas l.canvas
