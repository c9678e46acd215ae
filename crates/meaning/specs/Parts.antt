-- What the private steps of the functions promise to each other. Assumes nothing.
use Rattle.std.specs.Prelude.{◌≡◌, ℕ, ◌≤◌, true, ℤ, pos}
use Rattle.meaning.specs.Meaning.{is_in_sight, in_bounds}

-- how far a corner that is in sight is away, as a number above 0
pub record Sighted (away : ℤ) (w : ℕ) : Type 0 where
  pub seen : is_in_sight away ≡ true
  pub is : away ≡ pos w
  pub near : 256 ≤ w
  pub far : w ≤ 16777215

-- a coordinate that does not lie too far to the side
pub record Bounded (z at : ℤ) : Type 0 where
  pub within : in_bounds z ≡ true
  pub is : at ≡ z
