use Rattle.std.proofs.Common.{arith}
use Rattle.std.proofs.lemmas.Int.{ints}
use Rattle.meaning.specs.Meaning.{in_bounds}
use Rattle.meaning.proofs.projection.bounded.Goals as goal

pub returns-then-at-lt524288 : goal.returns-then-at-lt524288
unfolding in_bounds
returns-then-at-lt524288 c = record { within = grind (arith, ints); is = omega (arith, ints) }

pub returns-else-at-geminus524288 : goal.returns-else-at-geminus524288
unfolding in_bounds
returns-else-at-geminus524288 c = grind (arith, ints)
