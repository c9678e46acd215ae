-- Parts of the picture that were painted side by side.
-- Assumes nothing.
use Rattle.std.proofs.Common.{ℕ, ◌≤◌}
use Rattle.reference.specs.declared.canvas.Canvas.{Canvas}
use Rattle.reference.specs.Boxes.{in_box}
use Rattle.reference.proofs.Regions.{across, down}
use Rattle.reference.proofs.Canvases.{drawn_more}
use Rattle.maker.specs.Tiles.{Painted}

module _ (l t r b : ℕ) (x y z : Canvas) where
  pub tile_more : (m : ℕ) → l ≤ m → m ≤ r → Painted (record { left = l; top = t; right = m; bottom = b }) x y →
      Painted (record { left = m; top = t; right = r; bottom = b }) y z → Painted (record { left = l; top = t; right = r; bottom = b }) x z
  tile_more m lm mr = drawn_more (in_box l t m b) (in_box m t r b) (in_box l t r b) x y z (across l m r t b lm mr)

  pub band_more : (m : ℕ) → t ≤ m → m ≤ b → Painted (record { left = l; top = t; right = r; bottom = m }) x y →
      Painted (record { left = l; top = m; right = r; bottom = b }) y z → Painted (record { left = l; top = t; right = r; bottom = b }) x z
  band_more m tm mb = drawn_more (in_box l t r m) (in_box l m r b) (in_box l t r b) x y z (down l r t m b tm mb)
