use Rattle.std.proofs.Common.{vec_items}
use Rattle.output.proofs.Lines.{row_more, row_end}
use Rattle.output.proofs.push_row.Goals as goal

pub loop-k-preserved : goal.loop-k-preserved
loop-k-preserved c =
    row_more c.args.row.now (vec_items c.loop-k.out) (vec_items c.push_gap.new.out) (vec_items c.push_byte.new.out) _ c.loop-k.k c.loop-k-test.true
    c.in_ok-push_gap.ensures c.in_ok-push_byte.ensures c.loop-k.invariant

pub returns : goal.returns
returns c = row_end c.args.row.now (vec_items c.loop-k.out) (vec_items c.push.new.self) _ c.loop-k.k c.loop-k-test.false c.in_ok-push.ensures.items c.loop-k.invariant
