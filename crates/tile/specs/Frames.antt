-- Frames as boxes of dots.
-- Assumes nothing: these are definitions.
use Rattle.std.specs.Prelude.{◌≡◌, ◌&&◌, ◌⊎◌, ℕ, ◌<◌, ◌≤◌}
use Rattle.meaning.specs.declared.pen.Frame.{Frame}
use Rattle.meaning.specs.Meaning.{in_frame}
use Rattle.reference.specs.Boxes.{from_to}

-- what two frames have in common
pub record Both (f g r : Frame) : Type 0 where
  pub bottom : r.bottom ≤ f.bottom
  pub is : (i j : ℕ) → in_frame r i j ≡ (in_frame f i j && in_frame g i j)

-- from a to b lie the dots of the first n that lie from one to another; all of them, if none lies behind the n
pub record Part (n from to a b : ℕ) : Type 0 where
  pub order : a ≤ b
  pub end : b ≤ n
  pub is : (k : ℕ) → (k < n) ⊎ (to ≤ n) → from_to a b k ≡ from_to from to k
