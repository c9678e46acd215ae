-- Bytes pushed one behind another.
-- Assumes nothing.
use Rattle.std.proofs.Common.{◌≡◌, ℕ, ◌+◌, ◌<◌, ◌≤◌, Bool, true, false, cond, List, [], ◌∷◌, ◌++◌, length, get_or, drop, sym, refl, ap, ◌∙◌, append_assoc, append-nil}
use mir.Val.{bool_byte}
use Rattle.std.proofs.lemmas.List.{at_drop_more, at_drop_all}
use Rattle.codec.specs.File.{all}

-- b behind a behind s
pub behind : {t u : List ℕ} (s a b : List ℕ) → t ≡ s ++ a → u ≡ t ++ b → u ≡ s ++ (a ++ b)
behind s a b e f = f ∙ ap (λ (x : List ℕ). x ++ b) e ∙ append_assoc s a b

-- F writes a list by parts: one more part of what is left, and none left
pub part_more : {A : Type 0} (F : List A → List ℕ) (f : A → List ℕ) → ((x : A) (l : List A) → F (x ∷ l) ≡ f x ++ F l) → (xs : List A) (k : ℕ) (d : A) (s t whole : List ℕ) →
    k < length xs → t ≡ s ++ f (get_or xs k d) → s ++ F (drop k xs) ≡ whole → t ++ F (drop (k + 1) xs) ≡ whole
part_more F f step xs k d s t whole h e g =
    ap (λ (x : List ℕ). x ++ F (drop (k + 1) xs)) e ∙ append_assoc s (f (get_or xs k d)) (F (drop (k + 1) xs)) ∙
    ap (λ (x : List ℕ). s ++ x) (sym (at_drop_more F xs k d h ∙ step (get_or xs k d) (drop (k + 1) xs))) ∙ g

pub part_end : {A : Type 0} (F : List A → List ℕ) → F [] ≡ [] → (xs : List A) (k : ℕ) (s whole : List ℕ) → length xs ≤ k → s ++ F (drop k xs) ≡ whole → s ≡ whole
part_end F none xs k s whole h g = sym (ap (λ (x : List ℕ). s ++ x) (at_drop_all F xs k h ∙ none) ∙ append-nil s) ∙ g

pub all_append : {A : Type 0} (f : A → List ℕ) (xs ys : List A) → all f (xs ++ ys) ≡ all f xs ++ all f ys
unfolding all
all_append f [] ys = refl
all_append f (x ∷ xs) ys = ap (λ (l : List ℕ). f x ++ l) (all_append f xs ys) ∙ sym (append_assoc (f x) (all f xs) (all f ys))

-- a flag as a byte
pub flag_byte : (b : Bool) → bool_byte b ≡ cond b 1 0
flag_byte true = refl
flag_byte false = refl
