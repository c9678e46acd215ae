use Rattle.std.proofs.Common.{◌≡◌, ◌+◌, min, arith}
use Rattle.maker.proofs.Tilings.{tile_more}
use Rattle.maker.proofs.picture.paint_band.Goals as goal

pub loop-left-preserved : goal.loop-left-preserved
loop-left-preserved c =
    let a = c.args in
    let b = a.band in
    let o = c.loop-left in
    let p = c.paint_tile.new.canvas in
    let e : min o.left b.right ≡ o.left = omega arith in
    let n : c.tile_end.result ≡ min (o.left + c.from-left-step.result) b.right = omega (arith, c.tile_end.ensures, c.from-left-step.ensures) in
    (omega arith, rw (← n) (tile_more b.left b.top c.tile_end.result b.bottom a.canvas.now o.canvas p o.left (omega arith) (omega (arith, c.tile_end.ensures)) (rw e at o.invariant.1) c.paint_tile.ensures))

pub paint_tile-requires : goal.paint_tile-requires
paint_tile-requires c = rw c.loop-left.invariant.1.same.file c.requires.inside

pub returns : goal.returns
returns c =
    let e : min c.loop-left.left c.args.band.right ≡ c.args.band.right = omega arith in rw e at c.loop-left.invariant.1

pub returns-2 : goal.returns-2
returns-2 c =
    let a = c.args in
    let b = a.band in
    let o = c.loop-left in
    let p = c.paint_tile.new.canvas in
    let e : min o.left b.right ≡ o.left = omega arith in
    let n : c.tile_end.result ≡ b.right = omega (arith, c.tile_end.ensures, c.from-left-step.ensures) in
    rw (← n) (tile_more b.left b.top c.tile_end.result b.bottom a.canvas.now o.canvas p o.left (omega arith) (omega (arith, c.tile_end.ensures)) (rw e at o.invariant.1) c.paint_tile.ensures)
