-- The sides of a dot's middle, from dot to dot of a frame.
-- Assumes nothing: these are definitions.
use Rattle.std.specs.Prelude.{◌≡◌, ℕ, ◌^◌, Bool, ◌&&◌, ◌||◌, ◌+ℤ◌, Option, ◌==◌, int_le, nat_lt}
use Rattle.meaning.specs.declared.geometry.Place.{Place}
use Rattle.meaning.specs.declared.pen.Frame.{Frame}
use Rattle.meaning.specs.declared.pen.Pen.{Pen}
use Rattle.meaning.specs.declared.state.Dot.{Dot}
use Rattle.meaning.specs.Meaning.{Image, edge, middle, in_frame, if_covered}
use Rattle.meaning.specs.Fits.{Within}
use Rattle.meaning.specs.declared.triangle.Triangle.{Triangle}
use Rattle.coverage.specs.declared.per_edge.PerEdge.{PerEdge}
use Rattle.coverage.specs.Steps.{past_one}

-- s are the sides of the place m
pub record SeenFrom (t : Triangle) (m : Place) (s : PerEdge) : Type 0 where
  pub ab : s.ab ≡ edge t.a.at t.b.at m
  pub bc : s.bc ≡ edge t.b.at t.c.at m
  pub ca : s.ca ≡ edge t.c.at t.a.at m

pub record Fit (s : PerEdge) : Type 0 where
  pub ab : Within s.ab (2 ^ 63)
  pub bc : Within s.bc (2 ^ 63)
  pub ca : Within s.ca (2 ^ 63)

-- edge by edge
abbrev pub plus : PerEdge → PerEdge → PerEdge
plus s d = record { ab = s.ab +ℤ d.ab; bc = s.bc +ℤ d.bc; ca = s.ca +ℤ d.ca }

-- whether the place is in the triangle
abbrev pub within : PerEdge → PerEdge → Bool
within least s = int_le least.ab s.ab && (int_le least.bc s.bc && int_le least.ca s.ca)

-- whether it is outside an edge that the row does not come nearer to
abbrev pub past : PerEdge → PerEdge → PerEdge → Bool
past across least s = past_one across.ab least.ab s.ab || (past_one across.bc least.bc s.bc || past_one across.ca least.ca s.ca)

-- the dots of a frame above row j, and those of row j before dot i
abbrev pub above : Frame → ℕ → ℕ → ℕ → Bool
above f j a b = in_frame f a b && nat_lt b j

abbrev pub before : Frame → ℕ → ℕ → ℕ → ℕ → Bool
before f i j a b = in_frame f a b && (b == j && nat_lt a i)

-- what the triangle makes of the dots
abbrev pub painting : Option Image → Pen → Triangle → ℕ → ℕ → Dot → Dot
painting x p t i j d = if_covered x p t.a t.b t.c (middle i j) d
