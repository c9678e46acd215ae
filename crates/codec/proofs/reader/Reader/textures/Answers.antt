use Rattle.codec.proofs.Loops.{loop_more, loop_stop, loop_reads}
use Rattle.codec.proofs.reader.Reader.textures.Goals as goal

pub returns-in_err-texture : goal.returns-in_err-texture
returns-in_err-texture c = loop_stop c.loop.invariant c.texture.ensures c.loop-test.true c.in_err-texture.was c.from_residual.ensures.1

pub loop-preserved : goal.loop-preserved
loop-preserved c = loop_more c.loop.invariant c.texture.ensures c.loop-test.true c.in_ok-texture.was

pub returns : goal.returns
returns c = loop_reads c.loop.invariant c.loop-test.false c.loop.auto.counter-end
