use Rattle.meaning.proofs.Depths.{left_out}
use Rattle.meaning.proofs.laws.left_out.Goals as goal

pub returns : goal.returns
returns c = left_out
