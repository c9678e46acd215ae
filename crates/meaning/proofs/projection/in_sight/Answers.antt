use Rattle.std.proofs.Common.{arith}
use Rattle.std.proofs.lemmas.Int.{ints}
use Rattle.meaning.specs.Meaning.{is_in_sight}
use Rattle.meaning.proofs.projection.in_sight.Goals as goal

pub returns-then-away-le16777215 : goal.returns-then-away-le16777215
unfolding is_in_sight
returns-then-away-le16777215 c = record { seen = grind (arith, ints); is = omega (arith, ints); near = omega (arith, ints); far = omega (arith, ints) }

pub returns-else-away-ge256 : goal.returns-else-away-ge256
unfolding is_in_sight
returns-else-away-ge256 c = grind (arith, ints)
