use Rattle.std.proofs.Common.{Ok, refl, ap, ◌∙◌, inl, inr}
use Rattle.meaning.specs.declared.command.Command.TheVariants.{Pen}
use Rattle.meaning.specs.Numbers.{kind_code}
use Rattle.codec.specs.Judged.{a_command, of_kind}
use Rattle.codec.specs.Kinds.{built_yet}
use Rattle.codec.proofs.Chains.{some_on, some_out, given, renamed, refused_too}
use Rattle.codec.proofs.Judging.{both_pass, first_stops, second_fails}
use Rattle.codec.proofs.reader.Reader.command.Goals as goal

pub returns-in_err-code : goal.returns-in_err-code
unfolding a_command
returns-in_err-code c = some_out _ refl c.from_residual.ensures.1 (first_stops 4 1 _ _ built_yet c.code.ensures c.in_err-code.was)

pub returns-in_err-pen-in-Pen : goal.returns-in_err-pen-in-Pen
unfolding a_command of_kind
returns-in_err-pen-in-Pen c =
    some_on _ refl (both_pass 4 1 _ _ built_yet c.code.ensures (c.in_ok-code.was ∙ ap Ok c.in-Pen.is) refl)
    (refused_too c.in_err-pen-in-Pen.was c.from_residual-in_err-pen-in-Pen.ensures.1 c.pen.ensures)

pub returns-in_ok-pen-in-Pen : goal.returns-in_ok-pen-in-Pen
unfolding a_command of_kind
returns-in_ok-pen-in-Pen c =
    some_on _ refl (both_pass 4 1 _ _ built_yet c.code.ensures (c.in_ok-code.was ∙ ap Ok c.in-Pen.is) refl)
    (renamed (Pen c.in_ok-pen-in-Pen.field-0) c.in_ok-pen-in-Pen.was refl c.pen.ensures)

pub returns-in-Clear : goal.returns-in-Clear
unfolding a_command of_kind
returns-in-Clear c = some_on _ refl (both_pass 4 1 _ _ built_yet c.code.ensures (c.in_ok-code.was ∙ ap Ok c.in-Clear.is) refl) c.clear.ensures

pub returns-in-Show : goal.returns-in-Show
unfolding a_command of_kind
returns-in-Show c = some_on _ refl (both_pass 4 1 _ _ built_yet c.code.ensures (c.in_ok-code.was ∙ ap Ok c.in-Show.is) refl) (given refl)

pub returns-in-Look : goal.returns-in-Look
unfolding a_command
returns-in-Look c =
    some_out _ refl refl
    (second_fails 4 1 _ _ built_yet c.code.ensures kind_code c.in_ok-code.was (elim c.in-Look.is [ inl e ↦ rw e refl | inr e ↦ rw e refl ]) _ refl refl)
