-- The weights of a triangle's corners at a place. Assumes nothing.
use Rattle.std.specs.Prelude.{◌≡◌, Bool, true, ◌&&◌, pos, int_lt}
use Rattle.std.specs.Int.Signed.{mag}
use Rattle.meaning.specs.declared.geometry.Place.{Place}
use Rattle.meaning.specs.declared.points.Point.{Point}
use Rattle.meaning.specs.declared.weights.Weights.{Weights}
use Rattle.meaning.specs.Meaning.{edge, turns, covers}

-- the place is in the triangle, which goes round with the clock
abbrev pub holds : Point → Point → Point → Place → Bool
holds a b c m = int_lt (pos 0) (turns a b c) && covers a b c m

-- w are the weights of a, b and c at the place m
pub record Weighs (a b c : Point) (m : Place) (w : Weights) : Type 0 where
  pub held : holds a b c m ≡ true
  pub a_is : w.a ≡ mag (edge b.at c.at m)
  pub b_is : w.b ≡ mag (edge c.at a.at m)
  pub c_is : w.c ≡ mag (edge a.at b.at m)
  pub area_is : w.area ≡ mag (turns a b c)
