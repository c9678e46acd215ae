use Rattle.std.proofs.Common.{◌≡◌, ◌-◌, ◌++◌, vec_items}
use Rattle.output.specs.Text.{rows_text}
use Rattle.output.proofs.push_rows.Given as goal

abbrev pub invariant-loop : goal.invariant-loop
invariant-loop l = vec_items l.out ++ rows_text (l.end - l.counter) l.stride l.rest ≡ vec_items l.initial.out ++ rows_text l.end l.stride l.dots
