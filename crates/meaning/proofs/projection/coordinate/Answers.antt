use Rattle.std.proofs.Common.{◌≡◌, false, ℤ, subst, arith, MatchOption}
use Rattle.std.proofs.lemmas.Int.{ints}
use Rattle.meaning.specs.Meaning.{in_bounds, projected}
use Rattle.meaning.specs.Parts.{Bounded}
use Rattle.meaning.proofs.Rows.{Moved, moved}
use Rattle.meaning.proofs.projection.coordinate.Goals as goal

way : (c : goal.After-from-2) → Moved c.args.z c.args.middle c.args.scale c.args.away c.product.result c.in_ok-moved.moved c.from-2.result
way c =
    moved c.args.z c.args.middle c.args.scale c.args.away c.from.result c.product.result c.in_ok-moved.moved c.from-2.result
    c.ranges.z c.ranges.middle c.ranges.scale.fits (omega (arith, ints)) c.product.ensures.value c.in_ok-moved.ensures.value.1 c.from-2.ensures

pub overflow_add-from : goal.overflow_add-from
overflow_add-from c = (way c).fits

pub returns : goal.returns
unfolding projected
returns c =
    let w = moved c.args.z c.args.middle c.args.scale c.args.away c.from.result c.product.result c.in_ok-moved.moved c.from-2.result
    c.ranges.z c.ranges.middle c.ranges.scale.fits (omega (arith, ints)) c.product.ensures.value c.in_ok-moved.ensures.value.1 c.from-2.ensures in
    subst (λ (z : ℤ). MatchOption c.bounded.result (in_bounds z ≡ false) (λ x. Bounded z x)) w.is c.bounded.ensures
