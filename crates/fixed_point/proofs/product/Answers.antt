use Rattle.std.proofs.Common.{◌*◌, ◌≤◌, sym, subst, arith, rules}
use lib.Signed.{mag}
use mir.Syntax.{w128}
use Rattle.std.proofs.lemmas.Int.{ints}
use Rattle.fixed_point.proofs.Bounds.{mul_mag, product_is}
use Rattle.fixed_point.proofs.product.Goals as goal

pub returns : goal.returns
returns c =
    let e = product_is w128 c.args.a c.args.b c.from.result c.from-2.result (search rules) (search rules) (omega (arith, ints)) (omega (arith, ints)) (search rules) in
    record { value = e; bound = λ m n h k. subst (λ z. mag z ≤ m * n) (sym e) (mul_mag c.args.a c.args.b m n h k) }
