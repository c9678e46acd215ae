use Rattle.std.proofs.Common.{◌≡◌, [], length, arith, rules}
use Rattle.codec.specs.Verdicts.{command}
use Rattle.codec.specs.Walk.{coming, listed}
use Rattle.codec.specs.Taken.{commands_of}
use Rattle.codec.proofs.Walks.{times_long}
use Rattle.codec.proofs.taken.TakenFile.commands.Goals as goal

pub invariant_of-result-2 : goal.invariant_of-result-2
unfolding coming listed
invariant_of-result-2 c = record { coming = c.args.self.there.is }

pub returns-clause-few : goal.returns-clause-few
unfolding coming listed
returns-clause-few c =
    let f = c.args.self in
    let long : length (commands_of f) ≡ f.summary.commands = times_long (command f.summary) f.summary.commands _ _ (commands_of f) [] f.there.is in
    search (rules, arith)
