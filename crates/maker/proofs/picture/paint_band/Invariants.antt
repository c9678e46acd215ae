use Rattle.std.proofs.Common.{◌≤◌, min}
use Rattle.maker.specs.Tiles.{Painted}
use Rattle.maker.proofs.picture.paint_band.Given as goal

abbrev pub invariant-loop-left : goal.invariant-loop-left
invariant-loop-left l =
    (l.band.left ≤ l.left)
    × Painted (record { left = l.band.left; top = l.band.top; right = min l.left l.band.right; bottom = l.band.bottom }) l.initial.canvas l.canvas
