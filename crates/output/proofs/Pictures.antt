-- The rows of a picture as text, row by row.
-- Assumes nothing.
use Rattle.std.proofs.Common.{◌≡◌, ℕ, suc, ◌+◌, ◌-◌, ◌<◌, ◌≤◌, min, List, ◌++◌, length, take, drop, sym, ap, ◌∙◌, append_assoc, append-nil, arith}
use Rattle.std.proofs.lemmas.List.{take_min, drop_min}
use Rattle.output.specs.Text.{row_text, rows_text}

-- one more row, of which there are `mid` bytes
pub rows_more : (rest row behind s t whole : List ℕ) (stride mid n k : ℕ) → k < n → mid ≡ min stride (length rest) → row ≡ take mid rest → behind ≡ drop mid rest →
    t ≡ s ++ row_text 0 row → s ++ rows_text (n - k) stride rest ≡ whole → t ++ rows_text (n - (k + 1)) stride behind ≡ whole
unfolding rows_text
rows_more rest row behind s t whole stride mid n k lt m front back e g =
    let more : suc (n - (k + 1)) ≡ n - k = omega arith in
    let first : row ≡ take stride rest = front ∙ ap (λ (i : ℕ). take i rest) m ∙ take_min stride rest in
    let others : behind ≡ drop stride rest = back ∙ ap (λ (i : ℕ). drop i rest) m ∙ drop_min stride rest in
    ap (λ (x : List ℕ). x ++ rows_text (n - (k + 1)) stride behind) e ∙ append_assoc s _ _
    ∙ ap (λ (x : List ℕ). s ++ (row_text 0 x ++ rows_text (n - (k + 1)) stride behind)) first
    ∙ ap (λ (x : List ℕ). s ++ (row_text 0 (take stride rest) ++ rows_text (n - (k + 1)) stride x)) others
    ∙ ap (λ (i : ℕ). s ++ rows_text i stride rest) more ∙ g

pub rows_end : (rest s whole : List ℕ) (stride n k : ℕ) → n ≤ k → s ++ rows_text (n - k) stride rest ≡ whole → s ≡ whole
unfolding rows_text
rows_end rest s whole stride n k le g =
    let none : 0 ≡ n - k = omega arith in
    sym (append-nil s) ∙ ap (λ (i : ℕ). s ++ rows_text i stride rest) none ∙ g
