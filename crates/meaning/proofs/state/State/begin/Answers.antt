use Rattle.std.proofs.Common.{refl}
use Rattle.meaning.specs.Meaning.{begin}
use Rattle.meaning.proofs.state.State.begin.Goals as goal

pub returns : goal.returns
unfolding begin
returns c = refl
