-- The box of a triangle: the dots of a frame whose middles lie between its least and its greatest coordinates.
-- Assumes nothing: these are definitions.
use Rattle.std.specs.Prelude.{Bool, ◌&&◌, ℤ, int_le}
use Rattle.std.specs.Int.{int_min, int_max}
use Rattle.meaning.specs.declared.geometry.Place.{Place}

-- m is not before the least of three numbers nor behind the greatest
abbrev pub between : ℤ → ℤ → ℤ → ℤ → Bool
between x y z m = int_le (int_min (int_min x y) z) m && int_le m (int_max (int_max x y) z)

abbrev pub boxed : Place → Place → Place → Place → Bool
boxed a b c m = between a.x b.x c.x m.x && between a.y b.y c.y m.y
