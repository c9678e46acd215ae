-- What is painted at a place that a triangle covers. Assumes nothing.
use Rattle.std.specs.Prelude.{◌≡◌, ℕ, true, List, [], ◌∷◌, pos, Option, slice_index, slice_index_or}
use Rattle.meaning.specs.declared.geometry.Place.{Place}
use Rattle.meaning.specs.declared.points.Corner.{Corner}
use Rattle.meaning.specs.declared.points.Point.{Point}
use Rattle.meaning.specs.declared.pen.Mix.{Mix}
use Rattle.meaning.specs.declared.triangle.Triangle.{Triangle}
use Rattle.meaning.specs.declared.fragment.Fragment.{Fragment}
use Rattle.meaning.specs.Meaning.{Image, Triple, brings, mixed}
use Rattle.meaning.specs.Weights.{holds}

-- the four parts of the colour that is brought
abbrev pub bringing : Option Image → Point → Point → Point → Place → List ℕ
bringing t a b c m = brings t a b c m 0 ∷ brings t a b c m 1 ∷ brings t a b c m 2 ∷ brings t a b c m 3 ∷ []

-- a colour of four parts onto one of three, part by part
abbrev pub mixing : Mix → List ℕ → List ℕ → List ℕ
mixing x new old =
    mixed x (slice_index new 3) (slice_index new 0) (slice_index old 0) ∷ mixed x (slice_index new 3) (slice_index new 1) (slice_index old 1) ∷ mixed x (slice_index new 3) (slice_index new 2) (slice_index old 2) ∷ []

-- three corners of an array
abbrev pub no_corner : Corner
no_corner = record { x = pos 0; y = pos 0; z = pos 0; u = 0; v = 0; colour = [] }

abbrev pub triple : List Corner → Triple
triple t = record { a = slice_index_or t 0 no_corner; b = slice_index_or t 1 no_corner; c = slice_index_or t 2 no_corner }

-- the fragment of a triangle at m
pub record Of (t : Triangle) (m : Place) (f : Fragment) : Type 0 where
  pub held : holds t.a t.b t.c m ≡ true
  pub triangle_is : f.triangle ≡ t
  pub place_is : f.place ≡ m
