-- Dots of a picture that lies by rows in a list: those of a region are new, and the others as before. Rows have no end here, so what lies behind a picture is
-- its further rows.
-- Assumes nothing: these are definitions.
use Rattle.std.specs.Prelude.{◌≡◌, ℕ, ◌+◌, ◌*◌, ◌<◌, Bool, cond, ◌&&◌, List, nat_le, nat_lt, slice_index}

-- whether k lies from a on and before b
abbrev pub from_to : ℕ → ℕ → ℕ → Bool
from_to a b k = nat_le a k && nat_lt k b

-- whether dot (i, j) lies in a box of dots; the same as `in_frame` of a frame
abbrev pub in_box : ℕ → ℕ → ℕ → ℕ → ℕ → ℕ → Bool
in_box left top right bottom i j = from_to left right i && from_to top bottom j

-- three bytes for each dot, in rows of w dots: those of the region R are V, and the others are as before
abbrev pub Colours : ℕ → (ℕ → ℕ → Bool) → (ℕ → ℕ → ℕ → ℕ) → List ℕ → List ℕ → Type 0
Colours w R V old new = (i j c : ℕ) → i < w → c < 3 → slice_index new ((j * w + i) * 3 + c) ≡ cond (R i j) (V i j c) (slice_index old ((j * w + i) * 3 + c))

-- the same with one number for each dot
abbrev pub Depths : ℕ → (ℕ → ℕ → Bool) → (ℕ → ℕ → ℕ) → List ℕ → List ℕ → Type 0
Depths w R V old new = (i j : ℕ) → i < w → slice_index new (j * w + i) ≡ cond (R i j) (V i j) (slice_index old (j * w + i))
