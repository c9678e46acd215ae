use Rattle.reference.specs.Boxes.{in_box}
use Rattle.reference.specs.Dots.{Drawn}
use Rattle.reference.proofs.dots.DotByDotDraws.draw.Given as goal

abbrev pub invariant-loop-j : goal.invariant-loop-j
invariant-loop-j l =
    Drawn (in_box 0 0 l.initial.canvas.file.summary.size.width l.j) l.initial.canvas l.canvas
