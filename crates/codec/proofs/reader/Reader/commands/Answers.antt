use Rattle.codec.proofs.Loops.{some_more, some_stop, loop_reads}
use Rattle.codec.proofs.reader.Reader.commands.Goals as goal

pub returns-in_err-command : goal.returns-in_err-command
returns-in_err-command c = some_stop c.loop.invariant c.command.ensures c.loop-test.true c.in_err-command.was c.from_residual.ensures.1

pub loop-preserved : goal.loop-preserved
loop-preserved c = some_more c.loop.invariant c.command.ensures c.loop-test.true c.in_ok-command.was

pub returns : goal.returns
returns c = loop_reads c.loop.invariant c.loop-test.false c.loop.auto.counter-end
