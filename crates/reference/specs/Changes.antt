-- Dots of a region that each became a function of themselves.
-- Assumes nothing: these are definitions.
use Rattle.std.specs.Prelude.{ℕ, ◌+◌, ◌*◌, Bool, List, [], ◌∷◌, slice_index}
use Rattle.meaning.specs.declared.state.Dot.{Dot}
use Rattle.reference.specs.Boxes.{Colours, Depths}

-- dot (i, j) of a picture that is w dots wide
abbrev pub dot_of : ℕ → List ℕ → List ℕ → ℕ → ℕ → Dot
dot_of w C D i j =
    record { colour = slice_index C ((j * w + i) * 3 + 0) ∷ slice_index C ((j * w + i) * 3 + 1) ∷ slice_index C ((j * w + i) * 3 + 2) ∷ []; depth = slice_index D (j * w + i) }

-- each dot of the region R became f of itself, and the others are as before
pub record Changes (w : ℕ) (R : ℕ → ℕ → Bool) (f : ℕ → ℕ → Dot → Dot) (C D C' D' : List ℕ) : Type 0 where
  pub colours : Colours w R (λ i j c. slice_index (f i j (dot_of w C D i j)).colour c) C C'
  pub depths : Depths w R (λ i j. (f i j (dot_of w C D i j)).depth) D D'
