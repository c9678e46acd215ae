-- Whole numbers with sign: the quotient rounded down, and tests that compute.
-- Assumes nothing: these are definitions.
use Rattle.std.specs.Prelude.{ℕ, ◌/◌, Bool, ◌&&◌, ℤ, pos, negsuc, ◌+ℤ◌, ◌*ℤ◌, ◌≤ℤ◌, ◌<ℤ◌, int_le}

-- a over n, rounded down; `negsuc a` is -(a + 1)
abbrev pub down : ℤ → ℕ → ℤ
down (pos a) n = pos (a / n)
down (negsuc a) n = negsuc (a / n)

-- what rounding down means: q is the greatest whole number with q n at most a
pub record RoundsDown (a : ℤ) (n : ℕ) (q : ℤ) : Type 0 where
  pub low : (q *ℤ pos n) ≤ℤ a
  pub high : a <ℤ ((q +ℤ pos 1) *ℤ pos n)

unfoldable pub sameZ : ℤ → ℤ → Bool
sameZ a b = int_le a b && int_le b a
