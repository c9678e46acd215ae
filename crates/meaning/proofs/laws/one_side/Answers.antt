use Rattle.meaning.proofs.Sides.{one_side}
use Rattle.meaning.proofs.laws.one_side.Goals as goal

pub returns : goal.returns
returns c = one_side
