use Rattle.meaning.proofs.Frame.{framed}
use Rattle.meaning.proofs.laws.framed.Goals as goal

pub returns : goal.returns
returns c = framed
