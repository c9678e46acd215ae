use Rattle.std.proofs.Common.{◌≡◌, ◌^◌, ◌<◌, ◌≤◌, ℤ, ◌-ℤ◌, ◌*ℤ◌, sym, ◌∙◌, subst, le_of_lt, arith, w32, w64, SFits, to_z, of_z, rules}
use lib.Signed.{mag}
use mir.Syntax.{w128}
use Rattle.std.proofs.lemmas.Int.{ints, to_z-of_z}
use Rattle.fixed_point.proofs.Bounds.{plain_sub, plain_mul, mul_mag, sub_mag}
use Rattle.meaning.specs.Meaning.{edge}
use Rattle.meaning.proofs.geometry.side.Goals as goal

-- a product of two differences, over the numbers themselves
part : (r d e a b x y : ℤ) → SFits w32 a → SFits w32 b → SFits w32 x → SFits w32 y → SFits w64 d → SFits w64 e →
    d ≡ to_z w32 (of_z w32 a) -ℤ to_z w32 (of_z w32 b) → e ≡ to_z w32 (of_z w32 x) -ℤ to_z w32 (of_z w32 y) → r ≡ to_z w64 (of_z w64 d) *ℤ to_z w64 (of_z w64 e) →
    (r ≡ (a -ℤ b) *ℤ (x -ℤ y)) × (mag r ≤ 2 ^ 64)
part r d e a b x y fa fb fx fy fd fe p q s =
    let p' = plain_sub w32 d a b fa fb p in
    let q' = plain_sub w32 e x y fx fy q in
    let s' = plain_mul w64 r d e fd fe s in
    let hd : mag d < 2 ^ 32 = subst (λ z. mag z < 2 ^ 32) (sym p') (sub_mag a b (2 ^ 31) (2 ^ 31) fa.sfits fb.sfits) in
    let he : mag e < 2 ^ 32 = subst (λ z. mag z < 2 ^ 32) (sym q') (sub_mag x y (2 ^ 31) (2 ^ 31) fx.sfits fy.sfits) in
    (cc, subst (λ z. mag z ≤ 2 ^ 64) (sym s') (mul_mag d e (2 ^ 32) (2 ^ 32) hd he))

right : (c : goal.After-product-left) →
    (c.product-right.result ≡ (c.args.q.x -ℤ c.args.p.x) *ℤ (c.args.m.y -ℤ c.args.p.y)) × (mag c.product-right.result ≤ 2 ^ 64)
right c = part c.product-right.result c.difference.result c.difference-2.result c.args.q.x c.args.p.x c.args.m.y c.args.p.y (search rules) (search rules) (search rules) (search rules) (search rules) (search rules) c.difference.ensures.value c.difference-2.ensures.value c.product-right.ensures.value

left : (c : goal.After-product-left) →
    (c.product-left.result ≡ (c.args.q.y -ℤ c.args.p.y) *ℤ (c.args.m.x -ℤ c.args.p.x)) × (mag c.product-left.result ≤ 2 ^ 64)
left c = part c.product-left.result c.difference-3.result c.difference-4.result c.args.q.y c.args.p.y c.args.m.x c.args.p.x (search rules) (search rules) (search rules) (search rules) (search rules) (search rules) c.difference-3.ensures.value c.difference-4.ensures.value c.product-left.ensures.value

-- the difference of two such, by its bits and back
record Apart (r l : ℤ) : Type 0 where
  pub fits : SFits w128 (to_z w128 (of_z w128 r) -ℤ to_z w128 (of_z w128 l))
  pub is : to_z w128 (of_z w128 (to_z w128 (of_z w128 r) -ℤ to_z w128 (of_z w128 l))) ≡ r -ℤ l
  pub small : mag (r -ℤ l) ≤ 2 ^ 66

apart : (r l : ℤ) → mag r ≤ 2 ^ 64 → mag l ≤ 2 ^ 64 → Apart r l
apart r l h k =
    let fr : SFits w128 r = omega (arith, ints) in
    let fl : SFits w128 l = omega (arith, ints) in
    let f : SFits w128 (r -ℤ l) = omega (arith, ints) in
    record { fits = simp to_z-of_z f; is = simp to_z-of_z; small = le_of_lt (sub_mag r l (2 ^ 65) (2 ^ 65) (omega arith) (omega arith)) }

pub overflow_sub-result : goal.overflow_sub-result
overflow_sub-result c = (apart c.product-right.result c.product-left.result (right c).1 (left c).1).fits

pub returns : goal.returns
unfolding edge
returns c =
    let a = apart c.product-right.result c.product-left.result (right c).1 (left c).1 in
    let r = (right c).0 in
    let l = (left c).0 in
    record { value = a.is ∙ (λ i. r i -ℤ l i); bound = subst (λ z. mag z ≤ 2 ^ 66) (sym a.is) a.small }
