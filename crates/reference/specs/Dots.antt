-- Dots that go through all commands one at a time.
-- Assumes nothing: these are definitions.
use Rattle.std.specs.Prelude.{◌≡◌, ℕ, ◌+◌, ◌*◌, ◌<◌, Bool, cond, List, length, ◌==◌, slice_index}
use Rattle.meaning.specs.Meaning.{Image}
use Rattle.std.specs.Borrow.{MutBor}
use Rattle.reference.specs.declared.canvas.Canvas.{Canvas}
use Rattle.codec.specs.Taken.{commands_of}
use Rattle.reference.specs.Shows.{Region}

-- a lent slice is still the same one
pub record SameSlice (x y : MutBor (List ℕ)) : Type 0 where
  pub name : y.ghost_name ≡ x.ghost_name
  pub long : length y.now ≡ length x.now

-- so are the file and all of its memory
pub record SameCanvas (x y : Canvas) : Type 0 where
  pub file : y.file ≡ x.file
  pub colours : SameSlice x.colours y.colours
  pub depths : SameSlice x.depths y.depths
  pub shown : SameSlice x.shown y.shown

-- all commands of the file were done for the dots of a region, and the others are as before
pub record Drawn (R : ℕ → ℕ → Bool) (x y : Canvas) : Type 0 where
  pub same : SameCanvas x y
  pub meant : (ts : List Image) → Region ts x.file.summary.size (commands_of x.file) R x.colours.now x.depths.now x.shown.now y.colours.now y.depths.now y.shown.now

-- three bytes for each dot: the dot at one place has the colour, and the others are as before
abbrev pub OneDot : ℕ → List ℕ → List ℕ → List ℕ → Type 0
OneDot at colour old new = (k c : ℕ) → c < 3 → slice_index new (k * 3 + c) ≡ cond (k == at) (slice_index colour c) (slice_index old (k * 3 + c))
