-- Pictures as text. Texts are lists of their characters' codes.
-- Assumes nothing: these are definitions.
use Rattle.std.specs.Prelude.{ℕ, zero, suc, ◌+◌, ◌/◌, ◌%◌, cond, not, ◌&&◌, List, [], ◌∷◌, ◌++◌, take, drop, ◌==◌, nat_lt}

-- a hexadecimal digit, 0 to 9 and a to f
abbrev pub digit : ℕ → ℕ
digit n = cond (nat_lt n 10) (48 + n) (87 + n)

-- a space before each dot but the first of a row; k bytes of the row lie before
abbrev pub gap : ℕ → List ℕ
gap k = cond (k % 3 == 0 && not (k == 0)) (32 ∷ []) []

-- what is left of a row behind its first k bytes: two digits a byte, three bytes a dot, and a line's end
unfoldable pub row_text : ℕ → List ℕ → List ℕ
row_text k [] = 10 ∷ []
row_text k (b ∷ rest) = gap k ++ (digit (b / 16) ∷ digit (b % 16) ∷ row_text (suc k) rest)

-- so many rows of so many bytes each, one after the other; where the bytes end the rows do too
unfoldable pub rows_text : ℕ → ℕ → List ℕ → List ℕ
rows_text zero stride dots = []
rows_text (suc n) stride dots = row_text 0 (take stride dots) ++ rows_text n stride (drop stride dots)
