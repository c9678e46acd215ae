use Rattle.std.proofs.Common.{rules}
use Rattle.std.proofs.lemmas.Int.{to_z-of_z}
use Rattle.coverage.proofs.outline.Outline.is_passed.Goals as goal

pub returns-then-is_past-2 : goal.returns-then-is_past-2
returns-then-is_past-2 c = search (rules, to_z-of_z)

pub returns-else-is_past-2 : goal.returns-else-is_past-2
returns-else-is_past-2 c = search (rules, to_z-of_z)
