use Rattle.reference.proofs.Wholes.{pictures_cut, many_pictures}
use Rattle.reference.proofs.laws.pictures_are_cut.Goals as goal

pub returns : goal.returns
returns c = record { cut = pictures_cut; many = many_pictures }
