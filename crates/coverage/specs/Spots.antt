-- The dot at a place of a picture.
-- Assumes nothing: this is a definition.
use Rattle.std.specs.Prelude.{ℕ, ◌+◌, ◌*◌, List, [], ◌∷◌, slice_index}
use Rattle.meaning.specs.declared.state.Dot.{Dot}

-- `dot_of` by the number of the dot, row by row
abbrev pub spot : List ℕ → List ℕ → ℕ → Dot
spot C D k = record { colour = slice_index C (k * 3 + 0) ∷ slice_index C (k * 3 + 1) ∷ slice_index C (k * 3 + 2) ∷ []; depth = slice_index D k }
