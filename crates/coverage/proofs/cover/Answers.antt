use Rattle.std.proofs.Common.{◌+◌, ◌≤◌, sym, ◌∙◌, subst, arith, w16, Fits, rules}
use Rattle.meaning.specs.Meaning.{middle}
use Rattle.meaning.specs.Textures.{image_if}
use Rattle.coverage.specs.Walks.{SeenFrom, plus, painting}
use Rattle.coverage.proofs.Triangles.{seen_fit, seen_across, seen_down, covers_is, past_all, stays}
use Rattle.coverage.proofs.Regions.{dot_more, dot_skipped, row_more, all_above}
use Rattle.coverage.proofs.cover.Goals as goal
use Rattle.coverage.proofs.cover.Goals.{then-holds, else-holds+else-is_passed}

pub plus-first-requires : goal.plus-first-requires
plus-first-requires c =
    let o = c.of-outline.result in
    let f = c.args.frame in
    let j = c.rows.j in
    let x : Fits w16 f.left = search rules in
    let y : Fits w16 f.bottom = search rules in
    seen_fit o.triangle o.sound f.left (j + 1) (plus c.rows.first o.down) (omega arith) (omega arith) (seen_down o.triangle o.gains f.left j c.rows.first c.rows.invariant.0)

pub fragment-fragment-requires : goal.fragment-fragment-requires
fragment-fragment-requires c =
    let o = c.of-outline.result in
    record {
      seen = c.loop-i.invariant.0;
      covered = covers_is o.triangle o.gains (middle c.loop-i.i c.rows.j) c.loop-i.sides c.loop-i.invariant.0 ∙ sym c.if-holds.ensures;
    }

pub plus-sides-requires : goal.plus-sides-requires
plus-sides-requires c =
    let o = c.of-outline.result in
    let i = c.loop-i.i in
    let j = c.rows.j in
    let x : Fits w16 c.args.frame.right = search rules in
    let y : Fits w16 c.args.frame.bottom = search rules in
    seen_fit o.triangle o.sound (i + 1) j (plus c.loop-i.sides o.across) (omega arith) (omega arith) (seen_across o.triangle o.gains i j c.loop-i.sides c.loop-i.invariant.0)

pub loop-i-preserved : goal.loop-i-preserved
loop-i-preserved c =
    let a = c.args in
    let o = c.of-outline.result in
    let i = c.loop-i.i in
    let j = c.rows.j in
    let s = c.loop-i.sides in
    let g = painting (image_if a.brush.texture) a.brush.pen o.triangle in (
      subst (SeenFrom o.triangle (middle (i + 1) j)) (sym c.plus-sides.ensures) (seen_across o.triangle o.gains i j s c.loop-i.invariant.0),
      elim c.if-holds.branch [
        | then-holds w ↦
            let f = w.fragment-fragment.ensures in
            rw (w.colours-is, w.depths-is)
            (dot_more a.size.width a.frame g c.rows.colours c.rows.depths c.loop-i.colours c.loop-i.depths i j w.paint_dot.new.colours w.paint_dot.new.depths
            c.loop-i.auto.i c.loop-i-test.true c.rows.auto.j c.rows-test.true c.loop-i.invariant.1 (simp f.triangle_is at w.paint_dot.ensures))
        | else-holds+else-is_passed w ↦
            rw (w.colours-is, w.depths-is)
            (dot_skipped a.size.width a.frame g c.rows.colours c.rows.depths c.loop-i.colours c.loop-i.depths i j
            (λ d. stays (image_if a.brush.texture) a.brush.pen o.triangle (middle i j) d (covers_is o.triangle o.gains (middle i j) s c.loop-i.invariant.0 ∙ sym w.if-holds.ensures)) c.loop-i.invariant.1)
      ],
    )

pub rows-preserved-then-is_passed : goal.rows-preserved-then-is_passed
rows-preserved-then-is_passed c =
    let a = c.args in
    let o = c.of-outline.result in
    let i = c.loop-i.i in
    let j = c.rows.j in (
      subst (SeenFrom o.triangle (middle a.frame.left (j + 1))) (sym c.plus-first.ensures) (seen_down o.triangle o.gains a.frame.left j c.rows.first c.rows.invariant.0),
      row_more a.size.width a.frame (painting (image_if a.brush.texture) a.brush.pen o.triangle) a.colours.now a.depths.now c.rows.colours c.rows.depths i j c.loop-i.colours c.loop-i.depths
          (λ n below _ d. stays (image_if a.brush.texture) a.brush.pen o.triangle (middle n j) d (past_all o.triangle o.gains i j c.loop-i.sides c.loop-i.invariant.0 (sym c.if-is_passed.ensures) n below)) c.rows.invariant.1 c.loop-i.invariant.1,
    )

pub rows-preserved : goal.rows-preserved
rows-preserved c =
    let a = c.args in
    let o = c.of-outline.result in
    let i = c.loop-i.i in
    let j = c.rows.j in
    let end : a.frame.right ≤ i = c.loop-i-test.false in (
      subst (SeenFrom o.triangle (middle a.frame.left (j + 1))) (sym c.plus-first.ensures) (seen_down o.triangle o.gains a.frame.left j c.rows.first c.rows.invariant.0),
      row_more a.size.width a.frame (painting (image_if a.brush.texture) a.brush.pen o.triangle) a.colours.now a.depths.now c.rows.colours c.rows.depths i j c.loop-i.colours c.loop-i.depths
          (λ n below above d. absurd (omega arith)) c.rows.invariant.1 c.loop-i.invariant.1,
    )

pub returns : goal.returns
returns c =
    let a = c.args in
    rw (← c.of-outline.ensures)
    (all_above a.size.width a.frame (painting (image_if a.brush.texture) a.brush.pen c.of-outline.result.triangle) a.colours.now a.depths.now c.rows.colours c.rows.depths c.rows.j c.rows-test.false c.rows.invariant.1)
