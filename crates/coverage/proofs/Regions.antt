-- The dots of a frame, row by row and dot by dot.
-- Assumes nothing.
use Rattle.std.proofs.Common.{◌≡◌, ℕ, ◌+◌, ◌<◌, ◌≤◌, true, false, ◌&&◌, ◌||◌, eqb, List, arith}
use Rattle.std.proofs.lemmas.Bool.Decides.{nat_tests}
use Rattle.meaning.specs.declared.pen.Frame.{Frame}
use Rattle.meaning.specs.declared.state.Dot.{Dot}
use Rattle.meaning.specs.Meaning.{in_frame}
use Rattle.reference.specs.Boxes.{in_box}
use Rattle.reference.specs.Changes.{dot_of, Changes}
use Rattle.reference.proofs.Changes.{changes_wider, changes_none, changes_more}
use Rattle.coverage.specs.Walks.{above, before}

module _ (w : ℕ) (f : Frame) (g : ℕ → ℕ → Dot → Dot) (C D : List ℕ) where
  -- there is nothing above the first row, nor before the first dot of a row
  pub none_above : Changes w (above f f.top) g C D C D
  none_above = changes_none w g (above f f.top) C D (λ a b h. absurd (no a b h))
    where
      no : (a b : ℕ) → above f f.top a b ≡ true → ⊥
      no a b h = grind (arith, nat_tests)

  pub none_before : (j : ℕ) → Changes w (before f f.left j) g C D C D
  none_before j = changes_none w g (before f f.left j) C D (λ a b h. absurd (no a b h))
    where
      no : (a b : ℕ) → before f f.left j a b ≡ true → ⊥
      no a b h = grind (arith, nat_tests)

  module _ (C' D' : List ℕ) where
    -- one dot more
    pub dot_more : (i j : ℕ) (C'' D'' : List ℕ) → f.left ≤ i → i < f.right → f.top ≤ j → j < f.bottom →
        Changes w (before f i j) g C D C' D' → Changes w (in_box i j (i + 1) (j + 1)) g C' D' C'' D'' → Changes w (before f (i + 1) j) g C D C'' D''
    dot_more i j C'' D'' left right top bottom x y = changes_more w g (before f i j) (in_box i j (i + 1) (j + 1)) (before f (i + 1) j) C D C' D' C'' D'' (λ a b. both a b) (λ a b n. apart a b n) x y
      where
        both : (a b : ℕ) → before f (i + 1) j a b ≡ (before f i j a b || in_box i j (i + 1) (j + 1) a b)
        both a b = grind (arith, nat_tests)

        apart : (a b : ℕ) → in_box i j (i + 1) (j + 1) a b ≡ true → before f i j a b ≡ false
        apart a b n = grind (arith, nat_tests)

    -- one that is not changed
    pub dot_skipped : (i j : ℕ) → ((d : Dot) → g i j d ≡ d) → Changes w (before f i j) g C D C' D' → Changes w (before f (i + 1) j) g C D C' D'
    dot_skipped i j same x =
        changes_wider w g (before f i j) (before f (i + 1) j) C D C' D' (λ a b h. within a b h) (λ a b h n. rw ((here a b h n).0, (here a b h n).1) (same (dot_of w C D i j))) x
      where
        within : (a b : ℕ) → before f i j a b ≡ true → before f (i + 1) j a b ≡ true
        within a b h = grind (arith, nat_tests)

        here : (a b : ℕ) → before f (i + 1) j a b ≡ true → before f i j a b ≡ false → (a ≡ i) × (b ≡ j)
        here a b h n = grind (arith, nat_tests)

    -- one row more, of which the rest is not changed
    pub row_more : (i j : ℕ) (C'' D'' : List ℕ) → ((a : ℕ) → i ≤ a → a < f.right → (d : Dot) → g a j d ≡ d) →
        Changes w (above f j) g C D C' D' → Changes w (before f i j) g C' D' C'' D'' → Changes w (above f (j + 1)) g C D C'' D''
    row_more i j C'' D'' same x y =
        let row = λ (a b : ℕ). in_frame f a b && eqb b j in
        changes_more w g (above f j) row (above f (j + 1)) C D C' D' C'' D'' (λ a b. both a b) (λ a b n. apart a b n) x
        (changes_wider w g (before f i j) row C' D' C'' D'' (λ a b h. within a b h) (λ a b h n. rw (rest a b h n).0 (same a (rest a b h n).1 (rest a b h n).2 (dot_of w C' D' a j))) y)
      where
        both : (a b : ℕ) → above f (j + 1) a b ≡ (above f j a b || (in_frame f a b && eqb b j))
        both a b = grind (arith, nat_tests)

        apart : (a b : ℕ) → in_frame f a b && eqb b j ≡ true → above f j a b ≡ false
        apart a b n = grind (arith, nat_tests)

        within : (a b : ℕ) → before f i j a b ≡ true → in_frame f a b && eqb b j ≡ true
        within a b h = grind (arith, nat_tests)

        rest : (a b : ℕ) → in_frame f a b && eqb b j ≡ true → before f i j a b ≡ false → (b ≡ j) × (i ≤ a) × (a < f.right)
        rest a b h n = grind (arith, nat_tests)

    -- all rows
    pub all_above : (j : ℕ) → f.bottom ≤ j → Changes w (above f j) g C D C' D' → Changes w (in_frame f) g C D C' D'
    all_above j h x = changes_wider w g (above f j) (in_frame f) C D C' D' (λ a b n. within a b n) (λ a b n o. absurd (no a b n o)) x
      where
        within : (a b : ℕ) → above f j a b ≡ true → in_frame f a b ≡ true
        within a b n = grind (arith, nat_tests)

        no : (a b : ℕ) → in_frame f a b ≡ true → above f j a b ≡ false → ⊥
        no a b n o = grind (arith, nat_tests)
