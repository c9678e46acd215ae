use Rattle.std.proofs.Common.{◌≡◌, ℕ, ◌+◌, min, subst, arith}
use Rattle.maker.specs.Tiles.{Painted}
use Rattle.maker.proofs.Tilings.{band_more}
use Rattle.maker.proofs.picture.TileByTileDraws.draw.Goals as goal

pub loop-top-preserved : goal.loop-top-preserved
loop-top-preserved c =
    let a = c.args in
    let s = a.canvas.now.file.summary.size in
    let o = c.loop-top in
    let p = c.paint_band.new.canvas in
    let e : min o.top s.height ≡ o.top = omega arith in
    let n : c.tile_end.result ≡ min (o.top + c.from-top-step.result) s.height = omega (arith, c.tile_end.ensures, c.from-top-step.ensures) in
    rw (← n) (band_more 0 0 s.width c.tile_end.result a.canvas.now o.canvas p o.top (omega arith) (omega (arith, c.tile_end.ensures)) (rw e at o.invariant) c.paint_band.ensures)

pub paint_band-requires : goal.paint_band-requires
paint_band-requires c = record { across = omega arith; inside = rw c.loop-top.invariant.same.file (omega (arith, c.tile_end.ensures)) }

pub returns : goal.returns
returns c = let s = c.args.canvas.now.file.summary.size in let e : min c.loop-top.top s.height ≡ s.height = omega arith in rw e at c.loop-top.invariant

pub returns-2 : goal.returns-2
returns-2 c =
    let a = c.args in
    let s = a.canvas.now.file.summary.size in
    let o = c.loop-top in
    let p = c.paint_band.new.canvas in
    let e : min o.top s.height ≡ o.top = omega arith in
    let n : c.tile_end.result ≡ s.height = omega (arith, c.tile_end.ensures, c.from-top-step.ensures) in
    subst (λ (m : ℕ). Painted (record { left = 0; top = 0; right = s.width; bottom = m }) a.canvas.now p) n
    (band_more 0 0 s.width c.tile_end.result a.canvas.now o.canvas p o.top (omega arith) (omega (arith, c.tile_end.ensures)) (rw e at o.invariant) c.paint_band.ensures)
