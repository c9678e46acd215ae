use Rattle.std.proofs.Common.{◌≡◌, ◌+◌, ◌*◌, ◌≤◌, length}
use Rattle.codec.specs.Shows.{shows, triangle_count}
use Rattle.codec.specs.Taken.{commands_of, to_come}
use Rattle.codec.proofs.taken.TakenFile.counts.Given as goal

abbrev pub invariant-loop-command : goal.invariant-loop-command
invariant-loop-command l =
    (goal.iterator-loop-command).can_next l.command-iterator
    × (goal.iterator-loop-command).is_finite l.command-iterator
    × (l.counts.shows + length (to_come l.command-iterator) ≤ 65535)
    × (l.counts.triangles + 65535 * length (to_come l.command-iterator) ≤ 65535 * 65535)
    × (l.counts.shows + shows (to_come l.command-iterator) ≡ shows (commands_of l.self))
    × (l.counts.triangles + triangle_count (to_come l.command-iterator) ≡ triangle_count (commands_of l.self))
