use Rattle.std.proofs.Common.{◌≡◌, ◌+◌, ◌*◌, ◌<◌, pos, arith}
use lib.Signed.{mag}
use Rattle.std.specs.Int.{int_min, int_max}
use Rattle.setup.proofs.Spans.{same_small, next, least, greatest, span_is}
use Rattle.setup.proofs.bounds.span.Goals as goal
use Rattle.setup.proofs.bounds.span.Goals.{After-max-greatest, at-overflow_add-greatest, at-middles_before-requires-2, at-returns}

low : (c : goal.After-max-greatest) → (c.min-least.result ≡ int_min (int_min c.args.x c.args.y) c.args.z) × (mag c.min-least.result < 524288)
low c = least c.args.x c.args.y c.args.z c.min.result c.min-least.result c.requires.x c.requires.y c.requires.z c.min.ensures.value c.min-least.ensures.value

high : (c : goal.After-max-greatest) → (c.max-greatest.result ≡ int_max (int_max c.args.x c.args.y) c.args.z) × (mag c.max-greatest.result < 524288)
high c = greatest c.args.x c.args.y c.args.z c.max.result c.max-greatest.result c.requires.x c.requires.y c.requires.z c.max.ensures.value c.max-greatest.ensures.value

pub middles_before-requires : goal.middles_before-requires
middles_before-requires c = let h = (low c).1 in rw (same_small c.min-least.result h) (omega arith)

pub overflow_add-greatest : goal.overflow_add-greatest
overflow_add-greatest c = (next c.max-greatest.result (high (at-overflow_add-greatest c).After-max-greatest).1).fits

pub middles_before-requires-2 : goal.middles_before-requires-2
middles_before-requires-2 c = (next c.max-greatest.result (high (at-middles_before-requires-2 c).After-max-greatest).1).small

pub returns : goal.returns
returns c i =
    let a = c.args in
    let l = low (at-returns c).After-max-greatest in
    let g = high (at-returns c).After-max-greatest in
    span_is a.from a.to c.middles_before.result c.middles_before-2.result c.max-2.result c.min-2.result c.min-least.result c.max-greatest.result
    (int_min (int_min a.x a.y) a.z) (int_max (int_max a.x a.y) a.z) l.0 g.0 l.1 g.1 c.max-2.ensures c.min-2.ensures
    i (pos (256 * i + 128)) (c.middles_before.ensures i) (c.middles_before-2.ensures i)
