use Rattle.std.proofs.Common.{arith}
use Rattle.std.proofs.lemmas.Int.{ints}
use Rattle.fixed_point.specs.Whole.{sameZ}
use Rattle.meaning.specs.Meaning.{inside}
use Rattle.meaning.proofs.geometry.is_inside.Goals as goal

pub returns-then-side-gt0 : goal.returns-then-side-gt0
unfolding inside sameZ
returns-then-side-gt0 c = grind (arith, ints)

pub returns-then-side-eq0 : goal.returns-then-side-eq0
unfolding inside sameZ
returns-then-side-eq0 c = grind (arith, ints)

pub returns-else-side-eq0 : goal.returns-else-side-eq0
unfolding inside sameZ
returns-else-side-eq0 c = grind (arith, ints)
