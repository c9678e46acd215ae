-- A row of text, byte by byte.
-- Assumes nothing.
use Rattle.std.proofs.Common.{◌≡◌, ℕ, suc, ◌+◌, ◌/◌, ◌%◌, ◌<◌, ◌≤◌, List, [], ◌∷◌, ◌++◌, length, get_or, drop, sym, ap, ◌∙◌, append_assoc, add-one, drop-cons}
use Rattle.std.proofs.lemmas.List.{drop_all}
use Rattle.output.specs.Text.{digit, gap, row_text}

-- two bytes behind a list, one after the other
pub two : (s t u : List ℕ) (a b : ℕ) → t ≡ s ++ a ∷ [] → u ≡ t ++ b ∷ [] → u ≡ s ++ (a ∷ b ∷ [])
two s t u a b e f = f ∙ ap (λ (x : List ℕ). x ++ b ∷ []) e ∙ append_assoc s (a ∷ []) (b ∷ [])

-- one more byte of the row
pub row_more : (row s t u whole : List ℕ) (k : ℕ) → k < length row → t ≡ s ++ gap k → u ≡ t ++ (digit (get_or row k 0 / 16) ∷ digit (get_or row k 0 % 16) ∷ []) →
    s ++ row_text k (drop k row) ≡ whole → u ++ row_text (k + 1) (drop (k + 1) row) ≡ whole
unfolding row_text
row_more row s t u whole k h e f g =
    rw (add-one) (ap (λ (x : List ℕ). x ++ row_text (suc k) (drop (suc k) row)) (f ∙ ap (λ (x : List ℕ). x ++ (digit (get_or row k 0 / 16) ∷ digit (get_or row k 0 % 16) ∷ [])) e)
    ∙ append_assoc (s ++ gap k) _ _ ∙ append_assoc s (gap k) _ ∙ ap (λ (x : List ℕ). s ++ row_text k x) (sym (drop-cons row k 0 h)) ∙ g)

pub row_end : (row s u whole : List ℕ) (k : ℕ) → length row ≤ k → u ≡ s ++ 10 ∷ [] → s ++ row_text k (drop k row) ≡ whole → u ≡ whole
unfolding row_text
row_end row s u whole k h e g = e ∙ ap (λ (x : List ℕ). s ++ row_text k x) (sym (drop_all k row h)) ∙ g
