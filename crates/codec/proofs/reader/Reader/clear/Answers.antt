use Rattle.std.proofs.Common.{refl}
use Rattle.codec.specs.Judged.{a_clear}
use Rattle.codec.proofs.Chains.{some_on, given}
use Rattle.codec.proofs.reader.Reader.clear.Goals as goal

pub returns : goal.returns
unfolding a_clear
returns c = some_on _ c.in_ok-colour.was c.array.ensures (some_on _ c.in_ok-depth.was c.number.ensures.reads (given refl))
