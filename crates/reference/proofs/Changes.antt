-- Dots of a region that each became a function of themselves: nothing, in two parts, in a smaller region.
-- Assumes nothing.
use Rattle.std.proofs.Common.{◌≡◌, ℕ, zero, suc, ◌+◌, ◌*◌, ◌<◌, Bool, true, false, cond, ◌||◌, List, [], ◌∷◌, length, get_or, sym, refl, ap, ◌∙◌, arith}
use Rattle.std.proofs.lemmas.Bool.{true≢false}
use Rattle.meaning.specs.declared.state.Dot.{Dot}
use Rattle.reference.specs.Changes.{dot_of, Changes}
use Rattle.reference.proofs.Threes.{Three}

three_list : (l : List ℕ) → length l ≡ 3 → get_or l 0 0 ∷ get_or l 1 0 ∷ get_or l 2 0 ∷ [] ≡ l
three_list [] h = absurd (omega arith)
three_list (a ∷ []) h = absurd (omega arith)
three_list (a ∷ b ∷ []) h = absurd (omega arith)
three_list (a ∷ b ∷ c ∷ []) h = refl
three_list (a ∷ b ∷ c ∷ d ∷ l) h = absurd (omega arith)

-- a dot is known by its parts
dot_is : (w : ℕ) (C D : List ℕ) (i j : ℕ) (d : Dot) → Three d → ((c : ℕ) → c < 3 → get_or C ((j * w + i) * 3 + c) 0 ≡ get_or d.colour c 0) →
    get_or D (j * w + i) 0 ≡ d.depth → dot_of w C D i j ≡ d
dot_is w C D i j d long parts deep =
    let k : get_or C ((j * w + i) * 3 + 0) 0 ∷ get_or C ((j * w + i) * 3 + 1) 0 ∷ get_or C ((j * w + i) * 3 + 2) 0 ∷ [] ≡ d.colour =
    rw (parts 0 (omega arith), parts 1 (omega arith), parts 2 (omega arith)) (three_list d.colour long) in
    rw (k, deep)

-- the parts of a dot
part : (w : ℕ) (C D : List ℕ) (i j c : ℕ) → c < 3 → get_or (dot_of w C D i j).colour c 0 ≡ get_or C ((j * w + i) * 3 + c) 0
part w C D i j zero c3 = refl
part w C D i j (suc zero) c3 = refl
part w C D i j (suc (suc zero)) c3 = refl
part w C D i j (suc (suc (suc c))) c3 = absurd (omega arith)

module _ (w : ℕ) (f : ℕ → ℕ → Dot → Dot) where
  -- done in a smaller region, and f changes nothing in the rest
  pub changes_wider : (B R : ℕ → ℕ → Bool) (C D C' D' : List ℕ) → ((i j : ℕ) → B i j ≡ true → R i j ≡ true) →
      ((i j : ℕ) → R i j ≡ true → B i j ≡ false → f i j (dot_of w C D i j) ≡ dot_of w C D i j) → Changes w B f C D C' D' → Changes w R f C D C' D'
  changes_wider B R C D C' D' within same x =
      record {
        colours = λ i j c iw c3. x.colours i j c iw c3 ∙ colour i j c c3 (B i j) (R i j) refl refl;
        depths = λ i j iw. x.depths i j iw ∙ depth i j (B i j) (R i j) refl refl;
      }
    where
      never : (i j : ℕ) → B i j ≡ true → R i j ≡ false → ⊥
      never i j b r = let z : true ≡ false = sym (within i j b) ∙ r in true≢false z

      colour : (i j c : ℕ) → c < 3 → (a b : Bool) → B i j ≡ a → R i j ≡ b →
          cond a (get_or (f i j (dot_of w C D i j)).colour c 0) (get_or C ((j * w + i) * 3 + c) 0) ≡ cond b (get_or (f i j (dot_of w C D i j)).colour c 0) (get_or C ((j * w + i) * 3 + c) 0)
      colour i j c c3 true true e g = refl
      colour i j c c3 false false e g = refl
      colour i j c c3 true false e g = absurd (never i j e g)
      colour i j c c3 false true e g = sym (ap (λ (d : Dot). get_or d.colour c 0) (same i j g e) ∙ part w C D i j c c3)

      depth : (i j : ℕ) → (a b : Bool) → B i j ≡ a → R i j ≡ b →
          cond a (f i j (dot_of w C D i j)).depth (get_or D (j * w + i) 0) ≡ cond b (f i j (dot_of w C D i j)).depth (get_or D (j * w + i) 0)
      depth i j true true e g = refl
      depth i j false false e g = refl
      depth i j true false e g = absurd (never i j e g)
      depth i j false true e g = sym (ap (λ (d : Dot). d.depth) (same i j g e))

  -- f changes no dot of the region
  pub changes_none : (R : ℕ → ℕ → Bool) (C D : List ℕ) → ((i j : ℕ) → R i j ≡ true → f i j (dot_of w C D i j) ≡ dot_of w C D i j) → Changes w R f C D C D
  changes_none R C D same =
      changes_wider (λ i j. false) R C D C D (λ i j e. absurd (true≢false (sym e))) (λ i j e _. same i j e) (record { colours = λ i j c iw c3. refl; depths = λ i j iw. refl })

  -- two regions that have no dot in common
  pub changes_more : (A B R : ℕ → ℕ → Bool) (C D C' D' C'' D'' : List ℕ) → ((i j : ℕ) → R i j ≡ (A i j || B i j)) → ((i j : ℕ) → B i j ≡ true → A i j ≡ false) →
      Changes w A f C D C' D' → Changes w B f C' D' C'' D'' → Changes w R f C D C'' D''
  changes_more A B R C D C' D' C'' D'' both apart x y =
      record {
        colours = λ i j c iw c3. y.colours i j c iw c3 ∙ rw (both i j) (colour i j c iw c3 (A i j) (B i j) refl refl);
        depths = λ i j iw. y.depths i j iw ∙ rw (both i j) (depth i j iw (A i j) (B i j) refl refl);
      }
    where
      -- a dot outside the first region is as it was
      as_was : (i j : ℕ) → i < w → A i j ≡ false → dot_of w C' D' i j ≡ dot_of w C D i j
      as_was i j iw e = dot_is w C' D' i j (dot_of w C D i j) refl (λ c c3. x.colours i j c iw c3 ∙ rw e (sym (part w C D i j c c3))) (x.depths i j iw ∙ rw e)

      colour : (i j c : ℕ) → i < w → c < 3 → (a b : Bool) → A i j ≡ a → B i j ≡ b →
          cond b (get_or (f i j (dot_of w C' D' i j)).colour c 0) (get_or C' ((j * w + i) * 3 + c) 0) ≡ cond (a || b) (get_or (f i j (dot_of w C D i j)).colour c 0) (get_or C ((j * w + i) * 3 + c) 0)
      colour i j c iw c3 true true e g = absurd (true≢false (sym e ∙ apart i j g))
      colour i j c iw c3 true false e g = x.colours i j c iw c3 ∙ rw e
      colour i j c iw c3 false true e g = ap (λ (d : Dot). get_or (f i j d).colour c 0) (as_was i j iw e)
      colour i j c iw c3 false false e g = x.colours i j c iw c3 ∙ rw e

      depth : (i j : ℕ) → i < w → (a b : Bool) → A i j ≡ a → B i j ≡ b →
          cond b (f i j (dot_of w C' D' i j)).depth (get_or D' (j * w + i) 0) ≡ cond (a || b) (f i j (dot_of w C D i j)).depth (get_or D (j * w + i) 0)
      depth i j iw true true e g = absurd (true≢false (sym e ∙ apart i j g))
      depth i j iw true false e g = x.depths i j iw ∙ rw e
      depth i j iw false true e g = ap (λ (d : Dot). (f i j d).depth) (as_was i j iw e)
      depth i j iw false false e g = x.depths i j iw ∙ rw e
