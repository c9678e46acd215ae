use Rattle.meaning.proofs.Obeying.{obeys}
use Rattle.meaning.proofs.laws.as_read.Goals as goal

pub returns : goal.returns
returns c = obeys
