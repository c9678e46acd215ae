-- One dot on its way through all commands, and where it lies.
-- Assumes nothing.
use Rattle.std.proofs.Common.{◌≡◌, ℕ, suc, ◌+◌, ◌-◌, ◌*◌, ◌<◌, ◌≤◌, Bool, true, cond, ◌&&◌, ◌||◌, eqb, ltb, List, [], ◌∷◌, length, get_or, set, sym, refl, ap, ◌∙◌, subst, inl, inr, zero-add, zero-mul, arith}
use mathlib.Core.Bool.{and-false}
use borrow.Rule.Slice.PartMut.{put_mid}
use Rattle.std.proofs.lemmas.List.{get_or-set_same, get_or-set_other}
use Rattle.std.proofs.lemmas.Bool.{cases_eq, cases_order, eqb-true, eq-eqb, ne_eqb}
use Rattle.std.proofs.lemmas.Bool.Decides.{nat_tests}
use Rattle.meaning.specs.declared.command.Command.TheVariants.{Show}
use Rattle.meaning.specs.declared.state.Size.{Size}
use Rattle.meaning.specs.declared.state.Dot.{Dot}
use Rattle.meaning.specs.declared.state.State.{State}
use Rattle.meaning.specs.Meaning.{Image, Instruction, pen, look, clear, triangles, show, step, after, begin}
use Rattle.meaning.specs.Numbers.{kind_number, header}
use Rattle.meaning.specs.States.{obeyed}
use Rattle.codec.specs.Judged.{kind_of}
use Rattle.codec.specs.Kinds.{built_yet}
use Rattle.codec.specs.Shows.{counts, total, shows}
use Rattle.reference.specs.Boxes.{in_box, Colours, Depths}
use Rattle.reference.specs.Shows.{at_show, seen_dots, no_dot, Pictures}
use Rattle.reference.specs.Dots.{OneDot}
use Rattle.reference.proofs.Rows.{put_before, put_in, put_after, row_below}
use Rattle.reference.proofs.Built.{obeyed_all}

-- ---- places of dots

apart : (w i j a b p q : ℕ) → i < w → a < w → (b ≡ j → p ≡ q) → (b < j → p + w ≤ q) → (j < b → q + w ≤ p) → eqb (p + a) (q + i) ≡ (eqb a i && eqb b j)
apart w i j a b p q iw aw same less more = grind (arith, nat_tests)

-- two dots lie at one place only if they are the same
same_place : (w i j a b : ℕ) → i < w → a < w → eqb (b * w + a) (j * w + i) ≡ (eqb a i && eqb b j)
same_place w i j a b iw aw = apart w i j a b (b * w) (j * w) iw aw (λ e. ap (λ (x : ℕ). x * w) e) (row_below w b j) (row_below w j b)

alone : (i j a b : ℕ) → in_box i j (i + 1) (j + 1) a b ≡ (eqb a i && eqb b j)
alone i j a b = grind (arith, nat_tests)

one_more : (q n : ℕ) → ltb q (n + 1) ≡ (ltb q n || eqb q n)
one_more q n = grind (arith, nat_tests)

-- a dot whose colour was put back into its picture
pub put_dot_lem : (xs ys rgb : List ℕ) (at size : ℕ) → size ≡ 3 → at * 3 + 3 ≤ length xs → length ys ≡ 3 → ys ≡ rgb → OneDot at rgb xs (put_mid (at * 3) size xs ys)
put_dot_lem xs ys rgb at size s3 long three same k c c3 =
    elim (cases_order k at) [
      | inl e ↦
          let p : k * 3 + c - at * 3 ≡ c = omega arith in
          put_in (at * 3) size xs ys (k * 3 + c) (omega arith) (omega arith) (omega arith) (omega arith) ∙ rw (eq-eqb k at e, p, same)
      | inr (inl less) ↦ put_before (at * 3) size xs ys (k * 3 + c) (omega arith) (omega arith) ∙ rw (ne_eqb k at (λ e. omega arith))
      | inr (inr more) ↦ put_after (at * 3) size xs ys (k * 3 + c) (omega arith) (omega arith) (omega arith) ∙ rw (ne_eqb k at (λ e. omega arith))
    ]

-- what holds of dot (i, j) alone
only_here : (i j a b : ℕ) (V : ℕ → ℕ → ℕ) (x y : ℕ) → x ≡ V i j → cond (eqb a i && eqb b j) x y ≡ cond (eqb a i && eqb b j) (V a b) y
only_here i j a b V x y e =
    elim (cases_eq a i) [
      | inl p ↦ elim (cases_eq b j) [
        | inl q ↦ rw (p, q, e)
        | inr q ↦ rw (ne_eqb b j q, and-false)
      ]
      | inr p ↦ rw (ne_eqb a i p)
    ]

module _ (w i j : ℕ) (iw : i < w) where
  pub dot_colours : (V : ℕ → ℕ → ℕ → ℕ) (rgb old new : List ℕ) → ((c : ℕ) → get_or rgb c 0 ≡ V i j c) → OneDot (j * w + i) rgb old new → Colours w (in_box i j (i + 1) (j + 1)) V old new
  dot_colours V rgb old new is o a b c aw c3 = o (b * w + a) c c3 ∙ rw (same_place w i j a b iw aw, alone i j a b) (only_here i j a b (λ m n. V m n c) _ _ (is c))

  pub dot_depths : (V : ℕ → ℕ → ℕ) (z : ℕ) (old : List ℕ) → z ≡ V i j → j * w + i < length old → Depths w (in_box i j (i + 1) (j + 1)) V old (set old (j * w + i) z)
  dot_depths V z old is long a b aw = at (b * w + a) ∙ rw (same_place w i j a b iw aw, alone i j a b) (only_here i j a b V _ _ is)
    where
      at : (k : ℕ) → get_or (set old (j * w + i) z) k 0 ≡ cond (eqb k (j * w + i)) z (get_or old k 0)
      at k = elim (cases_eq k (j * w + i)) [
        | inl e ↦ rw (e, eq-eqb (j * w + i) (j * w + i) refl) (get_or-set_same old (j * w + i) z 0 long)
        | inr e ↦ rw (ne_eqb k (j * w + i) e) (get_or-set_other old (j * w + i) k z 0 e)
      ]

-- a dot's three bytes lie within n pictures
pub dot_room : (w h n q i j : ℕ) → i < w → j < h → q < n → ((q * h + j) * w + i) * 3 + 3 ≤ ((n * h) * w) * 3
dot_room w h n q i j iw jh qn = omega (arith, row_below w (q * h + j) (n * h) (omega (arith, row_below h q n qn)))

-- picture 0 lies first
pub first_place : (w h i j : ℕ) → (0 * h + j) * w + i ≡ j * w + i
first_place w h i j = rw (zero-mul, zero-add)

-- ---- commands

-- dot (i, j) with some of the commands cs done: n is its state, `left` are to come, and m pictures were shown
pub record SoFar (ts : List Image) (s : Size) (cs : List Instruction) (i j : ℕ) (S : List ℕ) (left : List Instruction) (n : State) (m : ℕ) (S' : List ℕ) : Type 0 where
  pub rest : after ts i j (begin s) cs ≡ after ts i j n left
  pub seen : (q : ℕ) → get_or (seen_dots ts i j (begin s) cs) (m + q) no_dot ≡ get_or (seen_dots ts i j n left) q no_dot
  pub many : m + shows left ≡ shows cs
  pub shown : Pictures s.width s.height m (in_box i j (i + 1) (j + 1)) (λ q a b c. get_or (get_or (seen_dots ts a b (begin s) cs) q no_dot).colour c 0) S S'

shows_nothing : (c : Instruction) → (header c ≡ Show → ⊥) → (counts (header c) ≡ 0) × ((d : Dot) (l : List Dot) → at_show c d l ≡ l)
shows_nothing (pen p) h = (refl, λ d l. refl)
shows_nothing (look w) h = (refl, λ d l. refl)
shows_nothing (clear rgb z) h = (refl, λ d l. refl)
shows_nothing (triangles t) h = (refl, λ d l. refl)
shows_nothing show h = absurd (h refl)

is_show : (c : Instruction) → header c ≡ Show → c ≡ show
is_show (pen p) h = absurd (omega (arith, ap kind_number h))
is_show (look w) h = absurd (omega (arith, ap kind_number h))
is_show (clear rgb z) h = absurd (omega (arith, ap kind_number h))
is_show (triangles t) h = absurd (omega (arith, ap kind_number h))
is_show show h = refl

-- a picture more, at one dot
added : (a b e l : Bool) (x v y : ℕ) → (a ≡ true → b ≡ true → e ≡ true → x ≡ v) → cond (a && (b && e)) x (cond (l && (a && b)) v y) ≡ cond ((l || e) && (a && b)) v y
added a b e l x v y h = grind (arith, nat_tests)

module _ (ts : List Image) (s : Size) (cs : List Instruction) (i j : ℕ) (S : List ℕ) where
  -- all commands done
  pub so_far_all : (n : State) (m : ℕ) (S' : List ℕ) → SoFar ts s cs i j S [] n m S' → (n.dot ≡ (after ts i j (begin s) cs).dot) × (m ≡ shows cs)
  unfolding after total
  so_far_all n m S' o = (ap (λ (k : State). k.dot) (sym o.rest), omega (arith, o.many))

  module _ (left : List Instruction) (n : State) (m : ℕ) (S' : List ℕ) (c : Instruction) (o : SoFar ts s cs i j S (c ∷ left) n m S') where
    -- a command that shows nothing
    pub so_far_silent : built_yet (kind_of c) ≡ true → (header c ≡ Show → ⊥) → SoFar ts s cs i j S left (obeyed i j n (header c)) m S'
    unfolding after seen_dots total
    so_far_silent built silent =
        let quiet = shows_nothing c silent in
        rw (obeyed_all ts i j n c built)
        (record {
          rest = o.rest;
          seen = λ q. o.seen q ∙ rw quiet.1;
          many = omega (arith, o.many, quiet.0);
          shown = o.shown;
        })

    -- a show, whose picture has the dot
    pub so_far_show : (S'' : List ℕ) → header c ≡ Show → i < s.width → j < s.height → OneDot ((m * s.height + j) * s.width + i) n.dot.colour S' S'' →
        SoFar ts s cs i j S left n (m + 1) S''
    unfolding after seen_dots total step
    so_far_show S'' is iw jh x =
        record {
          rest = w.rest;
          seen = λ q. let z : (m + 1) + q ≡ m + suc q = omega arith in rw z (w.seen (suc q));
          many = omega (arith, w.many);
          shown = λ q a b c aw bh c3.
              x ((q * s.height + b) * s.width + a) c c3
              ∙ rw (same_place s.width i (m * s.height + j) a (q * s.height + b) iw aw, same_place s.height j m b q jh bh, o.shown q a b c aw bh c3, alone i j a b, one_more q m)
              (added (eqb a i) (eqb b j) (eqb q m) (ltb q m) _ _ _ (λ p r t. rw (eqb-true a i p, eqb-true b j r, eqb-true q m t) (here c)));
        }
      where
        w : SoFar ts s cs i j S (show ∷ left) n m S'
        w = subst (λ (x : Instruction). SoFar ts s cs i j S (x ∷ left) n m S') (is_show c is) o

        here : (k : ℕ) → get_or n.dot.colour k 0 ≡ get_or (get_or (seen_dots ts i j (begin s) cs) m no_dot).colour k 0
        here k = let z : m + 0 ≡ m = omega arith in ap (λ (d : Dot). get_or d.colour k 0) (sym (rw z at (w.seen 0)))
