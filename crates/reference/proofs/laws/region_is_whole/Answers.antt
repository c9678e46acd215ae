use Rattle.reference.proofs.Wholes.{whole}
use Rattle.reference.proofs.laws.region_is_whole.Goals as goal

pub returns : goal.returns
returns c = whole
