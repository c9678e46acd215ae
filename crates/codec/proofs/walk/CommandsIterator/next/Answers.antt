use Rattle.std.proofs.Common.{◌-◌, length, Ok, ap, arith, rules}
use Rattle.codec.specs.Reader.{Headed, ReadsSome}
use Rattle.codec.specs.Verdicts.{command}
use Rattle.codec.specs.Taken.{to_come}
use Rattle.codec.proofs.BuiltKinds.{next_built}
use Rattle.codec.proofs.Walks.{none_comes, one_comes, others_come}
use Rattle.codec.proofs.walk.CommandsIterator.next.Goals as goal

pub returns-then-self-eq0-clause-steps : goal.returns-then-self-eq0-clause-steps
returns-then-self-eq0-clause-steps c =
    let s = c.args.self.now in
    let e = none_comes s.summary s.left s.reader (to_come s) s.coming (omega arith) in (e, e)

pub unwrap-command-requires : goal.unwrap-command-requires
unwrap-command-requires c =
    let s = c.args.self.now in
    one_comes s.summary s.left s.reader (to_come s) s.coming (s.left - 1) (omega arith) c.command.result c.command.new.self c.command.ensures

pub invariant_of-self : goal.invariant_of-self
invariant_of-self c =
    let s = c.args.self.now in
    record { coming = (others_come s.summary s.left s.reader (to_come s) s.coming (s.left - 1) (omega arith) c.unwrap-command.result c.command.new.self (rw (← c.unwrap-command.ensures) c.command.ensures)).coming }

pub returns-clause-steps : goal.returns-clause-steps
returns-clause-steps c =
    let s = c.args.self.now in
    let h : ReadsSome Headed (command s.summary) s.reader (Ok c.unwrap-command.result) c.command.new.self = rw (← c.unwrap-command.ensures) c.command.ensures in
    let o = others_come s.summary s.left s.reader (to_come s) s.coming (s.left - 1) (omega arith) c.unwrap-command.result c.command.new.self h in
    (next_built s.summary s.reader c.unwrap-command.result c.command.new.self h, (o.next, o.head, o.both))

pub returns-clause-goes : goal.returns-clause-goes
returns-clause-goes c =
    let s = c.args.self.now in
    let o = others_come s.summary s.left s.reader (to_come s) s.coming (s.left - 1) (omega arith) c.unwrap-command.result c.command.new.self (rw (← c.unwrap-command.ensures) c.command.ensures) in
    let e = ap length o.both in
    search rules
