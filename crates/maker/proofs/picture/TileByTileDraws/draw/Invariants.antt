use Rattle.std.proofs.Common.{min}
use Rattle.maker.specs.Tiles.{Painted}
use Rattle.maker.proofs.picture.TileByTileDraws.draw.Given as goal

abbrev pub invariant-loop-top : goal.invariant-loop-top
invariant-loop-top l =
    Painted (record { left = 0; top = 0; right = l.size.width; bottom = min l.top l.size.height }) l.initial.canvas l.canvas
