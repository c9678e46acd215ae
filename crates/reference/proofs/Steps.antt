-- What each command leaves of a region.
-- Assumes nothing.
use Rattle.std.proofs.Common.{◌≡◌, ℕ, ◌+◌, ◌*◌, ◌<◌, ◌≤◌, Bool, true, false, cond, ◌&&◌, ltb, List, [], ◌∷◌, ◌++◌, length, get_or, sym, refl, ap, ◌∙◌, inl, inr, append_assoc, append-nil, mul-le-mul_right, arith}
use Rattle.std.proofs.lemmas.List.{get_or_append_left, get_or_push, length_push}
use Rattle.std.proofs.lemmas.Bool.{cases_order, le-ltb, lt-ltb, eq-eqb, ne_eqb}
use Rattle.meaning.specs.declared.pen.Pen.{Pen}
use Rattle.meaning.specs.declared.projection.View.{View}
use Rattle.meaning.specs.declared.state.Size.{Size}
use Rattle.meaning.specs.declared.state.Dot.{Dot}
use Rattle.meaning.specs.declared.state.State.{State}
use Rattle.meaning.specs.Meaning.{Image, Instruction, pen, look, clear, show, in_frame, step, after, begin}
use Rattle.meaning.specs.Numbers.{header}
use Rattle.codec.specs.Shows.{counts, total, shows}
use Rattle.reference.specs.Boxes.{Colours, Depths}
use Rattle.reference.specs.Shows.{at_show, seen_dots, no_dot, OnePicture, Region, Through, Room}
use Rattle.reference.proofs.Threes.{Three, three_cond}

-- a dot that is cleared in a region and a frame, of which g takes a part
cleared : {A : Type 0} (g : A → ℕ) (r f : Bool) (new old : A) (x : ℕ) → cond (r && f) (g new) (cond r (g old) x) ≡ cond r (g (cond f new old)) x
cleared g true true new old x = refl
cleared g true false new old x = refl
cleared g false f new old x = refl

twice : {A : Type 0} (b : Bool) (v x y : A) → cond b (cond b v x) y ≡ cond b v y
twice true v x y = refl
twice false v x y = refl

module _ (ts : List Image) (s : Size) (cs : List Instruction) (R : ℕ → ℕ → Bool) (C D S : List ℕ) where
  pub through_start : (C' D' : List ℕ) → Colours s.width R (λ i j c. get_or (begin s).dot.colour c 0) C C' → Depths s.width R (λ i j. (begin s).dot.depth) D D' →
      Through ts s cs R C D S cs (begin s).pen (begin s).view 0 C' D' S
  unfolding begin
  through_start C' D' x y =
      record {
        at = λ i j. begin s;
        were = λ i j. [];
        pens = λ i j. refl;
        views = λ i j. refl;
        threes = λ i j. refl;
        long = λ i j. refl;
        many = omega arith;
        rest = λ i j. refl;
        seen = λ i j. refl;
        colours = x;
        depths = y;
        shown = λ q i j c _ _ _. rw (le-ltb q 0 (omega arith));
      }

  module _ (left : List Instruction) (p : Pen) (v : View) (n : ℕ) (C' D' S' : List ℕ) where
    -- a command that shows nothing: b and w are the pen and the view behind it
    pub through_silent : (c : Instruction) (b : Pen) (w : View) (C'' D'' : List ℕ) → counts (header c) ≡ 0 → ((d : Dot) (l : List Dot) → at_show c d l ≡ l) →
        ((i j : ℕ) (m : State) → m.pen ≡ p → m.view ≡ v → Three m.dot → ((step ts i j m c).pen ≡ b) × ((step ts i j m c).view ≡ w) × Three (step ts i j m c).dot) →
        (o : Through ts s cs R C D S (c ∷ left) p v n C' D' S') →
        Colours s.width R (λ i j k. get_or (step ts i j (o.at i j) c).dot.colour k 0) C C'' → Depths s.width R (λ i j. (step ts i j (o.at i j) c).dot.depth) D D'' →
        Through ts s cs R C D S left b w n C'' D'' S'
    unfolding after seen_dots total
    through_silent c b w C'' D'' none as_is behind o x y =
        let next = λ (i j : ℕ). behind i j (o.at i j) (o.pens i j) (o.views i j) (o.threes i j) in
        record {
          at = λ i j. step ts i j (o.at i j) c;
          were = o.were;
          pens = λ i j. (next i j).0;
          views = λ i j. (next i j).1;
          threes = λ i j. (next i j).2;
          long = o.long;
          many = omega (arith, o.many);
          rest = o.rest;
          seen = λ i j. o.seen i j ∙ rw as_is;
          colours = x;
          depths = y;
          shown = o.shown;
        }

    pub through_pen : (b : Pen) → Through ts s cs R C D S (pen b ∷ left) p v n C' D' S' → Through ts s cs R C D S left b v n C' D' S'
    unfolding step
    through_pen b o = through_silent (pen b) b v C' D' refl (λ d l. refl) (λ i j m e f h. (refl, f, h)) o o.colours o.depths

    pub through_look : (w : View) → Through ts s cs R C D S (look w ∷ left) p v n C' D' S' → Through ts s cs R C D S left p w n C' D' S'
    unfolding step
    through_look w o = through_silent (look w) p w C' D' refl (λ d l. refl) (λ i j m e f h. (e, refl, h)) o o.colours o.depths

    -- F is what the region and the pen's frame have in common
    pub through_clear : (F : ℕ → ℕ → Bool) (rgb : List ℕ) (z : ℕ) (C'' D'' : List ℕ) → length rgb ≡ 3 → ((i j : ℕ) → F i j ≡ (R i j && in_frame p.frame i j)) →
        Colours s.width F (λ i j c. get_or rgb c 0) C' C'' → Depths s.width F (λ i j. z) D' D'' →
        Through ts s cs R C D S (clear rgb z ∷ left) p v n C' D' S' → Through ts s cs R C D S left p v n C'' D'' S'
    unfolding step
    through_clear F rgb z C'' D'' three both x y o =
        through_silent (clear rgb z) p v C'' D'' refl (λ d l. refl) (λ i j m e f h. (e, f, three_cond (in_frame m.pen.frame i j) new m.dot three h)) o
        (λ i j c iw c3. x i j c iw c3 ∙ rw (o.pens i j, both i j, o.colours i j c iw c3) (cleared (λ (d : Dot). get_or d.colour c 0) (R i j) (in_frame p.frame i j) new (o.at i j).dot _))
        (λ i j iw. y i j iw ∙ rw (o.pens i j, both i j, o.depths i j iw) (cleared (λ (d : Dot). d.depth) (R i j) (in_frame p.frame i j) new (o.at i j).dot _))
      where
        new : Dot
        new = record { colour = rgb; depth = z }

    pub through_end : Through ts s cs R C D S [] p v n C' D' S' → Region ts s cs R C D S C' D' S'
    unfolding after seen_dots total
    through_end o =
        let e : n ≡ shows cs = omega (arith, o.many) in
        record {
          colours = λ i j c iw c3. rw (o.rest i j) (o.colours i j c iw c3);
          depths = λ i j iw. rw (o.rest i j) (o.depths i j iw);
          shown = λ q i j c iw jh c3. rw (o.seen i j, append-nil, ← e) (o.shown q i j c iw jh c3);
        }

    module _ (S'' : List ℕ) (x : OnePicture s.width s.height n R C' S' S'') (o : Through ts s cs R C D S (show ∷ left) p v n C' D' S') where
      abbrev ShownThen : ℕ → ℕ → ℕ → ℕ → Type 0
      ShownThen q i j c =
          get_or S'' (((q * s.height + j) * s.width + i) * 3 + c) 0
          ≡ cond (ltb q (n + 1) && R i j) (get_or (get_or (o.were i j ++ (o.at i j).dot ∷ []) q no_dot).colour c 0) (get_or S (((q * s.height + j) * s.width + i) * 3 + c) 0)

      then_all : (q i j c : ℕ) → i < s.width → j < s.height → c < 3 → ShownThen q i j c
      then_all q i j c iw jh c3 =
          elim (cases_order q n) [
            | inl same ↦
                x q i j c iw jh c3
                ∙ rw (
                  eq-eqb q n same,
                  o.colours i j c iw c3,
                  o.shown q i j c iw jh c3,
                  le-ltb q n (omega arith),
                  lt-ltb q (n + 1) (omega arith),
                  get_or_push (o.were i j) (o.at i j).dot no_dot q (o.long i j ∙ sym same),
                ) (twice (R i j) _ _ _)
            | inr (inl less) ↦
                x q i j c iw jh c3
                ∙ rw (
                  ne_eqb q n (λ e. omega arith),
                  o.shown q i j c iw jh c3,
                  lt-ltb q n less,
                  lt-ltb q (n + 1) (omega arith),
                  get_or_append_left (o.were i j) ((o.at i j).dot ∷ []) no_dot q (omega (arith, o.long i j)),
                )
            | inr (inr more) ↦
                x q i j c iw jh c3 ∙ rw (ne_eqb q n (λ e. omega arith), o.shown q i j c iw jh c3, le-ltb q n (omega arith), le-ltb q (n + 1) (omega arith))
          ]

      pub through_show : Through ts s cs R C D S left p v (n + 1) C' D' S''
      unfolding step after seen_dots total
      through_show =
          record {
            at = o.at;
            were = λ i j. o.were i j ++ (o.at i j).dot ∷ [];
            pens = o.pens;
            views = o.views;
            threes = o.threes;
            long = λ i j. length_push (o.were i j) (o.at i j).dot ∙ ap (λ (k : ℕ). k + 1) (o.long i j);
            many = omega (arith, o.many);
            rest = o.rest;
            seen = λ i j. o.seen i j ∙ sym (append_assoc (o.were i j) ((o.at i j).dot ∷ []) (seen_dots ts i j (o.at i j) left));
            colours = o.colours;
            depths = o.depths;
            shown = then_all;
          }

-- room for fewer pictures
pub room_for : (s : Size) (n k : ℕ) (C D S C' D' S' : List ℕ) → n ≤ k → length C' ≡ length C → length D' ≡ length D → length S' ≡ length S → Room s k C D S → Room s n C' D' S'
room_for s n k C D S C' D' S' nk c d e o =
    let f = mul-le-mul_right s.width (mul-le-mul_right s.height nk) in
    record { colours = omega arith; depths = omega arith; shown = omega arith }
