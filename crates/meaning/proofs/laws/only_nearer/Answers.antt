use Rattle.meaning.proofs.Depths.{nearer, all_nearer}
use Rattle.meaning.proofs.laws.only_nearer.Goals as goal

pub returns : goal.returns
returns c = record { one = nearer; all = all_nearer }
