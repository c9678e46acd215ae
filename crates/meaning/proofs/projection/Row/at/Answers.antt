use Rattle.std.proofs.Common.{◌≡◌, ◌^◌, ◌<◌, pos, ◌+ℤ◌, ◌*ℤ◌, arith, w32, rules}
use lib.Signed.{mag}
use Rattle.fixed_point.proofs.Bounds.{plain_mul}
use Rattle.fixed_point.specs.Whole.{down}
use Rattle.meaning.specs.Meaning.{along}
use Rattle.meaning.proofs.Rows.{sums, floor_is, narrow_64}
use Rattle.meaning.proofs.projection.Row.at.Goals as goal

pub overflow_add-sum-2 : goal.overflow_add-sum-2
overflow_add-sum-2 c = (sums c.term.result c.term-2.result c.term-3.result (pos 0) c.term.ensures.bound c.term-2.ensures.bound c.term-3.ensures.bound (omega arith)).three

pub overflow_add-sum-3 : goal.overflow_add-sum-3
overflow_add-sum-3 c =
    (sums c.term.result c.term-2.result c.term-3.result c.term-4.result c.term.ensures.bound c.term-2.ensures.bound c.term-3.ensures.bound c.term-4.ensures.bound).four

whole : (c : goal.After-floor) →
    (c.floor.result ≡ down (((c.term.result +ℤ c.term-2.result) +ℤ c.term-3.result) +ℤ c.term-4.result) 65536) × (mag c.floor.result < 2 ^ 49)
whole c =
    floor_is c.floor.result c.term.result c.term-2.result c.term-3.result c.term-4.result
    (sums c.term.result c.term-2.result c.term-3.result c.term-4.result c.term.ensures.bound c.term-2.ensures.bound c.term-3.ensures.bound c.term-4.ensures.bound)
    c.floor.ensures

pub overflow_cast-result : goal.overflow_cast-result
overflow_cast-result c = (narrow_64 c.floor.result (whole c).1).0

pub returns : goal.returns
unfolding along
returns c =
    let n = (narrow_64 c.floor.result (whole c).1).1 in
    let d = (whole c).0 in
    let p = plain_mul w32 c.term.result c.args.self.x c.args.corner.x (search rules) (search rules) c.term.ensures.value in
    let q = plain_mul w32 c.term-2.result c.args.self.y c.args.corner.y (search rules) (search rules) c.term-2.ensures.value in
    let r = plain_mul w32 c.term-3.result c.args.self.z c.args.corner.z (search rules) (search rules) c.term-3.ensures.value in
    let s : c.term-4.result ≡ c.args.self.one *ℤ pos 256 = plain_mul w32 c.term-4.result c.args.self.one (pos 256) (search rules) (record { sfits = omega arith }) c.term-4.ensures.value in
    cc
