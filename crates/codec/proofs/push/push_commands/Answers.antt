use Rattle.std.proofs.Common.{ℕ, List, vec_items, refl}
use Rattle.std.specs.Option.{option_to_list}
use Rattle.meaning.specs.declared.command.Command.{Command}
use Rattle.codec.specs.File.{all, command_bytes}
use Rattle.codec.specs.Writing.{instruction_of, instructions, command_part}
use Rattle.codec.proofs.Appending.{part_more, part_end, all_append}
use Rattle.codec.proofs.push.push_commands.Goals as goal

abbrev left : List Command → List ℕ
left l = all command_bytes (instructions l)

pub loop-command-preserved : goal.loop-command-preserved
unfolding instructions
loop-command-preserved c =
    part_more left command_part (λ x l. all_append command_bytes (option_to_list (instruction_of x)) (instructions l)) c.args.commands.now c.loop-command.command-index _
    (vec_items c.loop-command.out) _ _ c.loop-command-test.true c.in_ok-push_command.ensures c.loop-command.invariant

pub returns : goal.returns
unfolding all instructions
returns c = part_end left refl c.args.commands.now c.loop-command.command-index (vec_items c.loop-command.out) _ c.loop-command-test.false c.loop-command.invariant
