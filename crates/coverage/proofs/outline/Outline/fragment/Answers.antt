use Rattle.std.proofs.Common.{◌≡◌, ℕ, ◌^◌, ◌<◌, true, ℤ, pos, nat_abs, ◌≤ℤ◌, arith, w64, SFits, to_z, of_z, rules}
use lib.Signed.{lt_z, mag}
use Rattle.std.proofs.lemmas.Int.{ints}
use Rattle.std.proofs.lemmas.Bool.{and_parts, and_from}
use Rattle.meaning.specs.declared.geometry.Place.{Place}
use Rattle.meaning.specs.Meaning.{edge, inside, turns, covers, middle}
use Rattle.meaning.proofs.Sides.{is_above}
use Rattle.meaning.proofs.Depths.{not_below, weights}
use Rattle.meaning.proofs.Weighing.{Computed}
use Rattle.meaning.specs.declared.triangle.Triangle.{Triangle}
use Rattle.setup.specs.Ready.{Sound}
use Rattle.coverage.specs.declared.per_edge.PerEdge.{PerEdge}
use Rattle.coverage.specs.Walks.{SeenFrom}
use Rattle.coverage.proofs.outline.Outline.fragment.Goals as goal

-- n is a number without its sign
abbrev Unsigned : ℕ → ℤ → Type 0
Unsigned n z = n ≡ nat_abs (to_z w64 (of_z w64 z))

-- a side that is not below 0 is a weight
weight : (n : ℕ) (z e : ℤ) → SFits w64 z → z ≡ e → pos 0 ≤ℤ e → Unsigned n z → n ≡ mag e
weight n z e f q h r = omega (arith, ints)

share : (t : Triangle) (i j : ℕ) (m : Place) (s : PerEdge) (wa wb wc area : ℕ) → m ≡ middle i j → Sound t → SeenFrom t (middle i j) s → covers t.a t.b t.c (middle i j) ≡ true →
    area ≡ mag (turns t.a t.b t.c) → SFits w64 s.ab → SFits w64 s.bc → SFits w64 s.ca → Unsigned wa s.bc → Unsigned wb s.ca → Unsigned wc s.ab →
    wa < 2 ^ 64 → wb < 2 ^ 64 → wc < 2 ^ 64 → Computed t.a t.b t.c m wa wb wc area
unfolding covers
share t i j m s wa wb wc area d o x h e fab fbc fca ua ub uc ha hb hc =
    let p = and_parts (inside t.a.at t.b.at (middle i j)) _ h in
    let q = and_parts (inside t.b.at t.c.at (middle i j)) _ p.1 in
    let w = weights t.a t.b t.c (middle i j) o.clockwise h in
    let ia = weight wa s.bc (edge t.b.at t.c.at (middle i j)) fbc x.bc (not_below _ _ _ q.0) ua in
    let ib = weight wb s.ca (edge t.c.at t.a.at (middle i j)) fca x.ca (not_below _ _ _ q.1) ub in
    let ic = weight wc s.ab (edge t.a.at t.b.at (middle i j)) fab x.ab (not_below _ _ _ p.0) uc in
    rw d
    (record {
      held = and_from (lt_z (pos 0) (turns t.a t.b t.c)) (covers t.a t.b t.c (middle i j)) (is_above (turns t.a t.b t.c) o.clockwise) h;
      some = omega arith;
      sum = omega arith;
      small = omega arith;
      a_is = ia;
      b_is = ib;
      c_is = ic;
      area_is = e;
    })

pub invariant_of-weights : goal.invariant_of-weights
invariant_of-weights c =
    let w = share c.args.self.triangle c.args.i c.args.j c.middle_of.result c.args.sides _ _ _ _ c.middle_of.ensures c.args.self.sound c.requires.seen c.requires.covered c.args.self.whole
    (search rules) (search rules) (search rules) (search rules) (search rules) (search rules) (omega arith) (omega arith) (omega arith) in
    record { some = w.some; sum = w.sum; fits = w.small }

pub invariant_of-result : goal.invariant_of-result
invariant_of-result c =
    let w = share c.args.self.triangle c.args.i c.args.j c.middle_of.result c.args.sides _ _ _ _ c.middle_of.ensures c.args.self.sound c.requires.seen c.requires.covered c.args.self.whole
    (search rules) (search rules) (search rules) (search rules) (search rules) (search rules) (omega arith) (omega arith) (omega arith) in
    record { weighs = record { held = w.held; a_is = w.a_is; b_is = w.b_is; c_is = w.c_is; area_is = w.area_is } }
