-- The numbers on the way from what a file can hold to a dot's colour: none passes 2^62.
-- Assumes nothing: the proof is owed by the public function that promises it.
use Rattle.std.specs.Prelude.{◌≡◌, ℕ, ◌+◌, ◌-◌, ◌*◌, ◌/◌, ◌%◌, ◌^◌, ◌<◌, true, List, length, ℤ, pos, ◌+ℤ◌, ◌-ℤ◌, ◌*ℤ◌, ◌<ℤ◌, Some, None, Option}
use Rattle.std.specs.Int.Signed.{mag}
use Rattle.std.specs.List.{AllByRecursion}
use Rattle.meaning.specs.declared.geometry.Place.{Place}
use Rattle.meaning.specs.declared.points.Corner.{Corner}
use Rattle.meaning.specs.declared.points.Point.{Point}
use Rattle.meaning.specs.declared.projection.Row.{Row}
use Rattle.meaning.specs.declared.projection.View.{View}
use Rattle.meaning.specs.declared.pen.Pen.{Pen}
use Rattle.meaning.specs.declared.state.Size.{Size}
use Rattle.meaning.specs.Meaning.{Image, along, point_x, point_y, point_of, edge, turns, covers, blended, depth_at, colour_at, image, texel, middle}
use Rattle.meaning.specs.Fits.{Bytes, PlaceFits, CornerFits, RowFits, ViewFits, ImageFits, PenFits}

abbrev pub Small : ℤ → Type 0
Small z = mag z < 2 ^ 62

-- ---- from corners to points

-- four numbers, and their sums from the left, the last with a bound that leaves room for the scale
pub record SumsSmall (p q r s : ℤ) : Type 0 where
  pub first : Small p
  pub second : Small q
  pub third : Small r
  pub fourth : Small s
  pub two : Small (p +ℤ q)
  pub three : Small ((p +ℤ q) +ℤ r)
  pub four : mag (((p +ℤ q) +ℤ r) +ℤ s) < 2 ^ 50

-- a row of a view on a corner
abbrev pub RowSmall : Row → Corner → Type 0
RowSmall m c = SumsSmall (m.x *ℤ c.x) (m.y *ℤ c.y) (m.z *ℤ c.z) (m.one *ℤ pos 256)

pub record PointSmall (w : View) (c : Corner) : Type 0 where
  pub across : Small (along w.across c)
  pub down : Small (along w.down c)
  pub away : Small (along w.away c)
  pub scaled_x : Small (along w.across c *ℤ pos w.scale)
  pub scaled_y : Small (along w.down c *ℤ pos w.scale)
  pub x : Small (point_x w c)
  pub y : Small (point_y w c)

pub record PointFits (p : Point) : Type 0 where
  pub at : PlaceFits p.at
  pub depth : p.depth < 65536
  pub u : p.u < 65536
  pub v : p.v < 65536
  pub four : length p.colour ≡ 4
  pub bytes : Bytes p.colour

-- ---- triangles

-- the side of a place for an edge, with a bound that leaves room for a quantity of 16 bits
pub record EdgeSmall (p q m : Place) : Type 0 where
  pub q_x : Small (q.x -ℤ p.x)
  pub q_y : Small (q.y -ℤ p.y)
  pub m_x : Small (m.x -ℤ p.x)
  pub m_y : Small (m.y -ℤ p.y)
  pub right : Small ((q.x -ℤ p.x) *ℤ (m.y -ℤ p.y))
  pub left : Small ((q.y -ℤ p.y) *ℤ (m.x -ℤ p.x))
  pub whole : mag (edge p q m) < 2 ^ 42

-- three quantities by their weights
pub record BlendSmall (a b c : Point) (m : Place) (f g h : ℕ) : Type 0 where
  pub first : mag (edge b.at c.at m) * f < 2 ^ 62
  pub second : mag (edge c.at a.at m) * g < 2 ^ 62
  pub third : mag (edge a.at b.at m) * h < 2 ^ 62
  pub sum : mag (edge b.at c.at m) * f + mag (edge c.at a.at m) * g + mag (edge a.at b.at m) * h < 2 ^ 62

-- ---- colours

abbrev pub TextureFits : Option Image → Type 0
TextureFits None = Unit {0}
TextureFits (Some t) = ImageFits t

-- where part k of a texture's dot is
abbrev pub TexelSmall : Image → ℕ → ℕ → ℕ → Type 0
TexelSmall t u v k = 4 * ((v / 256 % 2 ^ t.down) * 2 ^ t.across + u / 256 % 2 ^ t.across) + k < 2 ^ 62

-- what a triangle brings to a place, and a part of its colour by that of a texture
pub record BroughtSmall (t : Option Image) (a b c : Point) (m : Place) : Type 0 where
  pub depth : depth_at a b c m < 65536
  pub u : blended a b c m a.u b.u c.u < 65536
  pub v : blended a b c m a.v b.v c.v < 65536
  pub colour : (k : ℕ) → colour_at a b c m k < 256
  pub part : (u v k : ℕ) → colour_at a b c m k * texel t u v k + 127 < 2 ^ 62

-- a part of a new colour onto an old one
pub record MixedSmall (by new old : ℕ) : Type 0 where
  pub blend : new * by + old * (255 - by) + 127 < 2 ^ 62
  pub add : new + old < 2 ^ 62

-- ---- all of them: what is made of what fits is small, and points and middles of dots are places that fit

pub record NoNumberTooLarge : Type 0 where
  pub rows : (m : Row) (c : Corner) → RowFits m → CornerFits c → RowSmall m c
  pub points : (w : View) (c : Corner) → ViewFits w → CornerFits c → PointSmall w c
  pub seen : (w : View) (c : Corner) (p : Point) → CornerFits c → point_of w c ≡ Some p → PointFits p
  pub middles : (i j : ℕ) → i < 1024 → j < 1024 → PlaceFits (middle i j)
  pub edges : (p q m : Place) → PlaceFits p → PlaceFits q → PlaceFits m → EdgeSmall p q m
  pub blends :
      (a b c : Point) (m : Place) (f g h : ℕ) → PointFits a → PointFits b → PointFits c → PlaceFits m →
      f < 65536 → g < 65536 → h < 65536 → BlendSmall a b c m f g h
  pub textures : (s : Size) (ts : List Image) (p : Pen) → AllByRecursion ImageFits ts → PenFits s ts p → TextureFits (image ts p.texture)
  pub texels : (t : Image) (u v k : ℕ) → ImageFits t → k < 4 → TexelSmall t u v k
  pub brought :
      (t : Option Image) (a b c : Point) (m : Place) → TextureFits t → PointFits a → PointFits b → PointFits c →
      pos 0 <ℤ turns a b c → covers a b c m ≡ true → BroughtSmall t a b c m
  pub mixes : (by new old : ℕ) → by < 256 → new < 256 → old < 256 → MixedSmall by new old
