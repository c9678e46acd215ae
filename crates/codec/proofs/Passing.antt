-- The first that does not pass, step by step; where none is found, all pass.
-- Assumes nothing.
use Rattle.std.proofs.Common.{◌≡◌, ℕ, zero, suc, ◌+◌, ◌<◌, ◌≤◌, Bool, true, false, not, cond, List, [], ◌∷◌, length, get_or, drop, Some, None, Option, sym, refl, ◌∙◌, add-one, arith}
use Rattle.std.proofs.lemmas.List.{at_drop_more, at_drop_all}
use Rattle.std.proofs.lemmas.Iterator.Adapters.{position_from-zero}
use Rattle.std.specs.List.{AllByRecursion, position_from}
use Rattle.codec.specs.Writing.{first_not}

-- nothing is found: the test passed
pub none_if : {A : Type 0} (b : Bool) (x : Option A) (e : A) → cond b x (Some e) ≡ None → (b ≡ true) × (x ≡ None)
none_if true x e h = (refl, h)
none_if false x e h = absurd (grind arith)

-- the place of the first that does not pass, counted from k
abbrev pub first_from : {A : Type 0} → (A → Bool) → ℕ → List A → Option ℕ
first_from ok k xs = position_from (λ x. not (ok x)) k xs

pub first_is : {A : Type 0} (ok : A → Bool) (xs : List A) → first_not ok xs ≡ first_from ok 0 xs
first_is ok xs = position_from-zero (λ x. not (ok x)) xs

-- none behind one that passes
pub pass_more : {A : Type 0} (ok : A → Bool) (k : ℕ) (xs : List A) (d : A) → k < length xs → ok (get_or xs k d) ≡ true →
    first_from ok k (drop k xs) ≡ first_from ok (k + 1) (drop (k + 1) xs)
pass_more ok k xs d h e = at_drop_more (first_from ok k) xs k d h ∙ rw e

pub pass_stop : {A : Type 0} (ok : A → Bool) (k : ℕ) (xs : List A) (d : A) → k < length xs → ok (get_or xs k d) ≡ false → first_from ok k (drop k xs) ≡ Some k
pass_stop ok k xs d h e = at_drop_more (first_from ok k) xs k d h ∙ rw e

pub pass_all : {A : Type 0} (ok : A → Bool) (k : ℕ) (xs : List A) → length xs ≤ k → first_from ok k (drop k xs) ≡ None
pass_all ok k xs h = at_drop_all (first_from ok k) xs k h

none_from : {A : Type 0} (b : Bool) (e : A) (x : Option A) → cond (not b) (Some e) x ≡ None → (b ≡ true) × (x ≡ None)
none_from true e x h = (refl, h)
none_from false e x h = absurd (grind arith)

-- where none fails, the next one passes
pub passes : {A : Type 0} (ok : A → Bool) (k : ℕ) (xs : List A) (d : A) → k < length xs → first_from ok k (drop k xs) ≡ None → ok (get_or xs k d) ≡ true
passes ok k xs d h e = (none_from (ok (get_or xs k d)) k (first_from ok (k + 1) (drop (k + 1) xs)) (sym (at_drop_more (first_from ok k) xs k d h) ∙ e)).0

-- nor does one fail behind it
next : {A : Type 0} (ok : A → Bool) (j k : ℕ) (xs : List A) → first_from ok j (drop k xs) ≡ None → first_from ok (suc j) (drop (suc k) xs) ≡ None
next ok j k [] h = refl
next ok j zero (x ∷ xs) h = rw add-one at (none_from (ok x) j (first_from ok (j + 1) xs) h).1
next ok j (suc k) (x ∷ xs) h = next ok j k xs h

pub pass_next : {A : Type 0} (ok : A → Bool) (k : ℕ) (xs : List A) → first_from ok k (drop k xs) ≡ None → first_from ok (k + 1) (drop (k + 1) xs) ≡ None
pass_next ok k xs h = rw add-one (next ok k k xs h)

-- and all pass
pub all_pass_from : {A : Type 0} (ok : A → Bool) (k : ℕ) (xs : List A) → first_from ok k xs ≡ None → AllByRecursion (λ x. ok x ≡ true) xs
all_pass_from ok k [] h = tt
all_pass_from ok k (x ∷ xs) h = let p = none_from (ok x) k (first_from ok (k + 1) xs) h in (p.0, all_pass_from ok (k + 1) xs p.1)

pub all_pass : {A : Type 0} (ok : A → Bool) (xs : List A) → first_not ok xs ≡ None → AllByRecursion (λ x. ok x ≡ true) xs
all_pass ok xs h = all_pass_from ok 0 xs (sym (first_is ok xs) ∙ h)
