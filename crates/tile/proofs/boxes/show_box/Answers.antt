use mathlib.Core.Path.{◌≡◌}
use Prim.Native.Nat.{◌+◌, ◌*◌}
use native.Mathlib.Omega.{arith}
use borrow.Author.Rules.{rules}
use Rattle.reference.proofs.Rows.{copied_more, copied_picture}
use Rattle.tile.proofs.Frames.{row_room, picture_row, picture_cut}
use Rattle.tile.proofs.boxes.show_box.Goals as goal

pub loop-j-preserved : goal.loop-j-preserved
loop-j-preserved c =
    let a = c.args in
    let s = a.size in
    let p = c.part-left.result in
    let room = row_room s.width ((a.number + 1) * s.height) _ _ c.from-width.ensures (picture_row a.number s.height c.loop-j.j _ _ c.from.ensures c.from-2.ensures (omega arith)) in
    copied_more c.from-width.result (c.from.result * c.from-2.result) p.0 c.part-top.result.0 p.1 c.loop-j.j c.loop-j.shown c.copy_from_slice.new.self a.shown.now a.colours.now
    (omega arith) (omega arith) (omega arith) (omega arith) (search rules) c.copy_from_slice.ensures.after c.loop-j.invariant

pub returns : goal.returns
returns c =
    let a = c.args in
    let s = a.size in
    let p = c.part-left.result in
    let q = c.part-top.result in
    let e : c.loop-j.j ≡ q.1 = omega arith in
    picture_cut s.width s.height a.frame p.0 q.0 p.1 q.1 c.part-left.ensures c.part-top.ensures a.number a.colours.now a.shown.now c.loop-j.shown
    (copied_picture s.width s.height a.number p.0 q.0 p.1 q.1 a.colours.now a.shown.now c.loop-j.shown c.part-top.ensures.end
    (rw (← e, ← c.from-width.ensures, ← c.from.ensures, ← c.from-2.ensures) c.loop-j.invariant))
