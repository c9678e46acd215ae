use Rattle.meaning.proofs.Once.{once}
use Rattle.meaning.proofs.laws.cut_once.Goals as goal

pub returns : goal.returns
returns c = once
