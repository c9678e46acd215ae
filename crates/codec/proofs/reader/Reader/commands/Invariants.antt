use Rattle.codec.specs.Judged.{a_command}
use Rattle.codec.specs.Kinds.{built_yet}
use Rattle.codec.proofs.Loops.{Loop}
use Rattle.codec.proofs.reader.Reader.commands.Given as goal

abbrev pub invariant-loop : goal.invariant-loop
invariant-loop l = Loop (a_command built_yet l.size l.textures) l.many l.counter l.initial.self l.self
