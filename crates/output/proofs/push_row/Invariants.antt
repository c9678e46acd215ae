use Rattle.std.proofs.Common.{◌≡◌, ◌++◌, drop, vec_items}
use Rattle.output.specs.Text.{row_text}
use Rattle.output.proofs.push_row.Given as goal

abbrev pub invariant-loop-k : goal.invariant-loop-k
invariant-loop-k l = vec_items l.out ++ row_text l.k (drop l.k l.row) ≡ vec_items l.initial.out ++ row_text 0 l.row
