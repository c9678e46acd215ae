use Rattle.meaning.proofs.Small.{small}
use Rattle.meaning.proofs.laws.no_number_too_large.Goals as goal

pub returns : goal.returns
returns c = small
