-- The whole lists: pictures one after another, and behind them what was there.
-- Assumes nothing: these are definitions.
use Rattle.std.specs.Prelude.{◌≡◌, ℕ, zero, suc, ◌*◌, List, [], ◌∷◌, ◌++◌, take, drop}
use Rattle.meaning.specs.declared.state.Size.{Size}
use Rattle.meaning.specs.Meaning.{Image, Instruction, row, picture, shown, after, begin}
use Rattle.codec.specs.Shows.{shows}

abbrev pub flat : {A : Type 0} → List (List A) → List A
flat [] = []
flat (x ∷ l) = x ++ flat l

-- n parts of k each
abbrev pub cut : {A : Type 0} → ℕ → ℕ → List A → List (List A)
cut zero k l = []
cut (suc n) k l = take k l ∷ cut n k (drop k l)

-- n pictures that lie in a list of bytes
abbrev pub pictures_in : ℕ → Size → List ℕ → List (List (List ℕ))
pictures_in n s l = cut n (s.height * s.width) (cut ((n * s.height) * s.width) 3 l)

-- n rows of w dots from row j on
unfoldable pub grid : (ℕ → ℕ → List ℕ) → ℕ → ℕ → ℕ → List (List ℕ)
grid f w j zero = []
grid f w j (suc n) = row (λ i. f i j) 0 w ++ grid f w (suc j) n

pub record Whole (ts : List Image) (s : Size) (cs : List Instruction) (C D S C' D' S' : List ℕ) : Type 0 where
  pub colours : C' ≡ flat (picture ts s cs 0 s.height) ++ drop ((s.height * s.width) * 3) C
  pub depths : D' ≡ flat (grid (λ i j. (after ts i j (begin s) cs).dot.depth ∷ []) s.width 0 s.height) ++ drop (s.height * s.width) D
  pub shown : S' ≡ flat (flat (shown ts s [] cs)) ++ drop (((shows cs * s.height) * s.width) * 3) S
