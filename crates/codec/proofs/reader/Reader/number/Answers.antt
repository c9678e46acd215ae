use Rattle.std.proofs.Common.{sym}
use Rattle.codec.specs.Judged.{number}
use Rattle.codec.proofs.Judging.{judge_out, judge_bad, judge_good}
use Rattle.codec.proofs.reader.Reader.number.Goals as goal

pub returns-in_err-array-clause-reads : goal.returns-in_err-array-clause-reads
unfolding number
returns-in_err-array-clause-reads g c = judge_out _ _ _ _ c.array.ensures c.in_err-array.was c.from_residual.ensures.1

pub returns-then-not-is_between-clause-reads : goal.returns-then-not-is_between-clause-reads
unfolding number
returns-then-not-is_between-clause-reads g c =
    judge_bad _ _ _ _ c.array.ensures c.in_ok-array.was _ c.refuse.ensures.number c.refuse.ensures.place
    (rw (← c.from_bytes-value.ensures) (sym c.if-not-is_between.ensures))

pub returns-clause-reads : goal.returns-clause-reads
unfolding number
returns-clause-reads g c =
    judge_good _ _ _ _ c.array.ensures c.in_ok-array.was _ (sym c.from_bytes-value.ensures) (sym c.if-not-is_between.ensures)
