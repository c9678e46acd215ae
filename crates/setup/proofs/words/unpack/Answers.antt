use Rattle.setup.specs.Words.{triangle_in}
use Rattle.setup.proofs.words.unpack.Goals as goal

pub returns : goal.returns
unfolding triangle_in
returns c = cc
