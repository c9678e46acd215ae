use mathlib.Core.Path.{◌≡◌, refl}
use Prim.Native.Nat.{◌+◌, ◌*◌, ◌-◌}
use native.Mathlib.Omega.{arith}
use borrow.Author.Rules.{rules}
use lib.ListN.{length, get_or}
use Rattle.reference.proofs.Rows.{colours_more, depths_more}
use Rattle.tile.proofs.Frames.{row_room}
use Rattle.tile.proofs.boxes.clear_box.Goals as goal

pub loop-j-preserved : goal.loop-j-preserved
loop-j-preserved c =
    let a = c.args in
    let w = c.from-width.result in
    let p = c.part-left.result in
    let t = c.part-top.result.0 in
    let j = c.loop-j.j in
    let room = row_room a.size.width a.size.height j w c.from-width.ensures (omega arith) in
    let lc : length c.fill_colours.new.row ≡ (j * w + p.1) * 3 - (j * w + p.0) * 3 = search rules in
    let ld : length c.fill.new.self ≡ (j * w + p.1) - (j * w + p.0) = search rules in (
      colours_more w p.0 p.1 t j c.loop-j.colours c.fill_colours.new.row a.colours.now (omega arith) (omega arith) (omega arith)
          (λ i j k. get_or a.dot.colour k 0) (omega arith) lc (λ k i kr i3. c.fill_colours.ensures k i (omega arith) i3) c.loop-j.invariant.0,
      depths_more w p.0 p.1 t j c.loop-j.depths c.fill.new.self a.depths.now (omega arith) (omega arith) (omega arith)
          (λ i j. a.dot.depth) (omega arith) ld (λ k kr. c.fill.ensures.clones k 0 (omega arith) refl) c.loop-j.invariant.1,
    )
