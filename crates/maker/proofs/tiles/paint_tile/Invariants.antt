use Rattle.std.proofs.Common.{◌+◌, ◌≤◌, List, length}
use Rattle.meaning.specs.Meaning.{Image}
use Rattle.codec.specs.Taken.{commands_of, to_come}
use Rattle.reference.specs.declared.canvas.Canvas.{Canvas}
use Rattle.reference.specs.Dots.{SameCanvas}
use Rattle.maker.specs.Tiles.{Midway}
use Rattle.maker.proofs.tiles.paint_tile.Given as goal

abbrev pub invariant-loop-command : goal.invariant-loop-command
invariant-loop-command l =
    let f = l.initial.canvas.file in
    (goal.iterator-loop-command).can_next l.command-iterator
    × (goal.iterator-loop-command).is_finite l.command-iterator
    × (l.context.shown + length (to_come l.command-iterator) ≤ 65535)
    × SameCanvas l.initial.canvas l.canvas
    × ((ts : List Image) (start : Canvas) → Midway ts f.summary.size (commands_of f) l.tile start (commands_of f) l.initial.context l.initial.canvas →
    Midway ts f.summary.size (commands_of f) l.tile start (to_come l.command-iterator) l.context l.canvas)
