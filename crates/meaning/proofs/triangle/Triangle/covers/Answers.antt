use Rattle.std.proofs.Common.{arith}
use Rattle.meaning.specs.Meaning.{covers}
use Rattle.meaning.proofs.triangle.Triangle.covers.Goals as goal

pub returns-then-is_inside-2 : goal.returns-then-is_inside-2
unfolding covers
returns-then-is_inside-2 c = grind arith

pub returns-else-is_inside-2 : goal.returns-else-is_inside-2
unfolding covers
returns-else-is_inside-2 c = grind arith
