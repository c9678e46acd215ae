use Rattle.meaning.proofs.Both.{both_sides_lem}
use Rattle.meaning.proofs.laws.both_sides.Goals as goal

pub returns : goal.returns
returns c = both_sides_lem
