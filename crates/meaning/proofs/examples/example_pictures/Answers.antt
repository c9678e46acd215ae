use Rattle.meaning.proofs.Pictures.{pictures}
use Rattle.meaning.proofs.examples.example_pictures.Goals as goal

pub returns : goal.returns
returns c = pictures
