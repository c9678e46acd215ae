use Rattle.std.proofs.Common.{◌≡◌, ℕ, ◌^◌, ◌<◌, ℤ, sym, ap, ◌∙◌, subst, arith, w64, SFits, to_z, of_z, rules}
use lib.Signed.{mag}
use mir.Syntax.{w128}
use Rattle.std.proofs.lemmas.Int.{ints, to_z-of_z}
use Rattle.meaning.specs.declared.geometry.Place.{Place}
use Rattle.meaning.specs.Meaning.{edge, middle}
use Rattle.meaning.specs.Fits.{PlaceFits}
use Rattle.coverage.proofs.OneEdge.{edge_fits}
use Rattle.coverage.proofs.outline.side_at.Goals as goal

-- at the width of the meaning's numbers, and then at half of it
record Narrow (r e : ℤ) : Type 0 where
  pub fits : SFits w64 (to_z w128 (of_z w128 r))
  pub is : to_z w64 (of_z w64 (to_z w128 (of_z w128 r))) ≡ e

narrow : (p q m : Place) (i j : ℕ) (r : ℤ) → PlaceFits p → PlaceFits q → i < 65536 → j < 65536 → m ≡ middle i j → SFits w128 r → r ≡ edge p q m → Narrow r (edge p q (middle i j))
narrow p q m i j r fp fq hi hj e f d =
    let g : r ≡ edge p q (middle i j) = d ∙ ap (edge p q) e in
    let h : mag r < 2 ^ 48 = subst (λ (z : ℤ). mag z < 2 ^ 48) (sym g) (edge_fits p q fp fq i j (omega arith) (omega arith)) in
    let k : SFits w64 r = omega (arith, ints) in
    record { fits = simp to_z-of_z k; is = simp to_z-of_z g }

all : (c : goal.After-side) → Narrow c.side.result (edge c.args.p c.args.q (middle c.args.i c.args.j))
all c = narrow _ _ _ _ _ _ c.requires.0 c.requires.1 c.ranges.i.fits c.ranges.j.fits c.middle_of.ensures (search rules) c.side.ensures.value

pub overflow_cast-result : goal.overflow_cast-result
overflow_cast-result c = (all c).fits

pub returns : goal.returns
returns c = (all c).is
