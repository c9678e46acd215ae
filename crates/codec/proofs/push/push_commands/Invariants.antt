use Rattle.std.proofs.Common.{◌≡◌, ◌++◌, drop, vec_items}
use Rattle.codec.specs.File.{all, command_bytes}
use Rattle.codec.specs.Writing.{instructions}
use Rattle.codec.proofs.push.push_commands.Given as goal

abbrev pub invariant-loop-command : goal.invariant-loop-command
invariant-loop-command l =
    vec_items l.out ++ all command_bytes (instructions (drop l.command-index l.commands)) ≡ vec_items l.initial.out ++ all command_bytes (instructions l.commands)
