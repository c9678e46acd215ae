use Rattle.std.proofs.Common.{ℕ, ◌*◌, ◌++◌, vec_items, ap, ◌∙◌}
use Rattle.output.specs.Text.{rows_text}
use Rattle.output.proofs.Pictures.{rows_more, rows_end}
use Rattle.output.proofs.push_rows.Goals as goal

pub loop-preserved : goal.loop-preserved
loop-preserved c =
    rows_more c.loop.rest.now c.split_at.result.0.now c.split_at.result.1.now (vec_items c.loop.out) (vec_items c.push_row.new.out) _ (3 * c.from-stride.result)
    c.min.result c.args.size.height c.loop.counter c.loop-test.true c.min.ensures c.split_at.ensures.front c.split_at.ensures.back
    c.in_ok-push_row.ensures c.loop.invariant

pub returns : goal.returns
returns c =
    rows_end c.loop.rest.now (vec_items c.loop.out) _ (3 * c.from-stride.result) c.args.size.height c.loop.counter c.loop-test.false c.loop.invariant
    ∙ ap (λ (w : ℕ). vec_items c.args.out.now ++ rows_text c.args.size.height (3 * w) c.args.dots.now) c.from-stride.ensures
