use Rattle.codec.specs.Judged.{a_texture}
use Rattle.codec.proofs.Loops.{Loop}
use Rattle.codec.proofs.reader.Reader.textures.Given as goal

abbrev pub invariant-loop : goal.invariant-loop
invariant-loop l = Loop a_texture l.many l.counter l.initial.self l.self
