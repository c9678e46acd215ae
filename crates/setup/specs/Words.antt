-- A triangle in sixteen words of lent work: six coordinates, the depths, the places in the texture, the colours, and the frame.
-- Assumes nothing: these are definitions.
use Rattle.std.specs.Prelude.{ℕ, ◌+◌, ◌/◌, ◌%◌, List, [], ◌∷◌, ℤ, pos, ◌-ℤ◌, slice_index}
use Rattle.meaning.specs.declared.points.Point.{Point}
use Rattle.setup.specs.declared.triangle.ReadyTriangle.{ReadyTriangle}

-- a coordinate by its distance from -524,288, of which twenty bits count
abbrev pub coordinate_in : ℕ → ℤ
coordinate_in w = pos (w % 1048576) -ℤ pos 524288

-- the two halves of a word
abbrev pub low : ℕ → ℕ
low w = w % 65536

abbrev pub high : ℕ → ℕ
high w = w / 65536

-- the four parts of a colour, the first in the lowest byte
abbrev pub colour_in : ℕ → List ℕ
colour_in w = (w % 256) ∷ (w / 256 % 256) ∷ (w / 65536 % 256) ∷ (w / 16777216 % 256) ∷ []

-- a point from words for x and y, its depth, a word for its place in the texture, and one for its colour
abbrev pub point_in : ℕ → ℕ → ℕ → ℕ → ℕ → Point
point_in x y depth texture colour =
    record { at = record { x = coordinate_in x; y = coordinate_in y }; depth = depth; u = low texture; v = high texture; colour = colour_in colour }

-- the triangle of sixteen words, by their number
unfoldable pub triangle_in : (ℕ → ℕ) → ReadyTriangle
triangle_in w =
    record {
      triangle =
          record {
            a = point_in (w 0) (w 1) (low (w 6)) (w 8) (w 11);
            b = point_in (w 2) (w 3) (high (w 6)) (w 9) (w 12);
            c = point_in (w 4) (w 5) (low (w 7)) (w 10) (w 13);
          };
      frame = record { left = low (w 14); top = low (w 15); right = high (w 14); bottom = high (w 15) };
    }

-- the triangle whose words begin at a place of the work
abbrev pub triangle_of : List ℕ → ℕ → ReadyTriangle
triangle_of W at = triangle_in (λ n. slice_index W (at + n))
