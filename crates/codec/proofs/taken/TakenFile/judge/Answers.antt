use Rattle.codec.proofs.Walks.{there}
use Rattle.codec.proofs.taken.TakenFile.judge.Goals as goal

pub invariant_of-result : goal.invariant_of-result
invariant_of-result c = record { there = there c.args.file.now c.in_ok-summary.summary _ c.in_ok-summary.ensures }
