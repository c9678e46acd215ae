use Rattle.std.proofs.Common.{arith}
use Rattle.std.proofs.lemmas.Int.{ints}
use Rattle.fixed_point.specs.Whole.{sameZ}
use Rattle.meaning.specs.Meaning.{owns}
use Rattle.meaning.proofs.geometry.is_owner.Goals as goal

pub returns-then-q-p : goal.returns-then-q-p
unfolding owns sameZ
returns-then-q-p c = grind (arith, ints)

pub returns-then-q-p-2 : goal.returns-then-q-p-2
unfolding owns sameZ
returns-then-q-p-2 c = grind (arith, ints)

pub returns-else-q-p-2 : goal.returns-else-q-p-2
unfolding owns sameZ
returns-else-q-p-2 c = grind (arith, ints)
