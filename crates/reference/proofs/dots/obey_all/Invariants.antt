use Rattle.std.proofs.Common.{◌+◌, ◌≤◌, List, length}
use Rattle.meaning.specs.Meaning.{Image}
use Rattle.codec.specs.Taken.{commands_of, to_come}
use Rattle.reference.proofs.EachDot.{SoFar}
use Rattle.reference.proofs.dots.obey_all.Given as goal

abbrev pub invariant-loop-command : goal.invariant-loop-command
invariant-loop-command l =
    (goal.iterator-loop-command).can_next l.command-iterator
    × (goal.iterator-loop-command).is_finite l.command-iterator
    × (l.number + length (to_come l.command-iterator) ≤ 65535)
    × ((ts : List Image) → SoFar ts l.file.summary.size (commands_of l.file) l.i l.j l.initial.shown (to_come l.command-iterator) l.state l.number l.shown)
