-- The whole lists, from what each dot is.
-- Assumes nothing.
use Rattle.std.proofs.Common.{◌≡◌, ℕ, zero, suc, ◌+◌, ◌*◌, ◌/◌, ◌%◌, ◌<◌, ◌≤◌, true, false, List, [], ◌∷◌, ◌++◌, length, get_or, drop, sym, refl, ap, ◌∙◌, subst, inl, inr, append-nil, mul-le-mul_right, mod-lt, mul_assoc, add-mul, div-add-mod', arith}
use Rattle.std.specs.List.{AllByRecursion}
use Rattle.std.proofs.ByRecursion.{All-append, All-push, All-weaker}
use Rattle.std.proofs.lemmas.Bool.{cases_lt, le-ltb, lt-ltb}
use Rattle.std.proofs.lemmas.Bool.Decides.{nat_tests}
use Rattle.meaning.specs.declared.state.Size.{Size}
use Rattle.meaning.specs.declared.state.Dot.{Dot}
use Rattle.meaning.specs.Meaning.{Image, Instruction, pen, look, clear, triangles, show, step, after, begin, row, picture, shown}
use Rattle.meaning.specs.Fits.{InstructionFits}
use Rattle.meaning.proofs.Order.{commands_in_order}
use Rattle.meaning.specs.Numbers.{header}
use Rattle.codec.specs.Shows.{counts, total, shows}
use Rattle.reference.specs.Boxes.{in_box}
use Rattle.reference.specs.Shows.{at_show, seen_dots, no_dot, Region, Room}
use Rattle.reference.specs.Whole.{flat, cut, pictures_in, grid}
use Rattle.reference.specs.Laws.{RegionIsWhole, PicturesCut, ManyPictures}
use Rattle.reference.proofs.Rows.{row_below}
use Rattle.reference.proofs.Flat.{Long, cut_flat, length_flat, flat_at, all_grid, grid_long, grid_at, bytes_at, rows_same, dots_same}
use Rattle.reference.proofs.Threes.{three_after}

in_all : (w h i j : ℕ) → i < w → j < h → in_box 0 0 w h i j ≡ true
in_all w h i j iw jh = grind (arith, nat_tests)

below_all : (w h i j : ℕ) → h ≤ j → in_box 0 0 w h i j ≡ false
below_all w h i j jh = grind (arith, nat_tests)

module _ (ts : List Image) (s : Size) where
  abbrev Fit : List Instruction → Type 0
  Fit cs = AllByRecursion (InstructionFits s ts) cs

  abbrev colour_after : List Instruction → ℕ → ℕ → List ℕ
  colour_after cs i j = (after ts i j (begin s) cs).dot.colour

  three_colour : (cs : List Instruction) → Fit cs → (i j : ℕ) → length (colour_after cs i j) ≡ 3
  unfolding begin
  three_colour cs f i j = three_after ts s i j (begin s) cs f refl

  picture_grid : (cs : List Instruction) (j n : ℕ) → picture ts s cs j n ≡ grid (colour_after cs) s.width j n
  unfolding picture grid
  picture_grid cs j zero = refl
  picture_grid cs j (suc n) = ap (λ (l : List (List ℕ)). row (λ i. colour_after cs i j) 0 s.width ++ l) (picture_grid cs (suc j) n)

  abbrev APicture : List (List ℕ) → Type 0
  APicture l = (length l ≡ s.height * s.width) × AllByRecursion (Long 3) l

  a_picture : (cs : List Instruction) → Fit cs → APicture (picture ts s cs 0 s.height)
  a_picture cs f =
      rw (picture_grid cs 0 s.height)
      (grid_long (colour_after cs) s.width 0 s.height, all_grid (Long 3) (colour_after cs) (three_colour cs f) s.width 0 s.height)

  -- ---- the pictures that are shown
  record ShownSo (before cs : List Instruction) (l : List (List (List ℕ))) : Type 0 where
    many : length l ≡ shows cs
    pictures : Fit before → Fit cs → AllByRecursion APicture l
    at : (q i j : ℕ) → i < s.width → j < s.height → q < shows cs →
        get_or (get_or l q []) (j * s.width + i) [] ≡ (get_or (seen_dots ts i j (after ts i j (begin s) before) cs) q no_dot).colour

  -- a command that shows nothing
  silent : (before : List Instruction) (c : Instruction) (cs : List Instruction) (l : List (List (List ℕ))) → counts (header c) ≡ 0 → ((d : Dot) (k : List Dot) → at_show c d k ≡ k) →
      ShownSo (before ++ c ∷ []) cs l → ShownSo before (c ∷ cs) l
  unfolding total seen_dots after
  silent before c cs l none as_is o =
      record {
        many = omega (arith, o.many);
        pictures = λ f g. o.pictures (All-push _ before c f g.0) g.1;
        at = λ q i j iw jh h. o.at q i j iw jh (omega arith) ∙ rw (as_is, commands_in_order ts i j (begin s) before (c ∷ []));
      }

  all_shown : (before cs : List Instruction) → ShownSo before cs (shown ts s before cs)
  unfolding shown total seen_dots step
  all_shown before [] = record { many = refl; pictures = λ _ _. tt; at = λ q i j iw jh h. absurd (omega arith) }
  all_shown before (pen p ∷ cs) = silent before (pen p) cs _ refl (λ d k. refl) (all_shown (before ++ pen p ∷ []) cs)
  all_shown before (look w ∷ cs) = silent before (look w) cs _ refl (λ d k. refl) (all_shown (before ++ look w ∷ []) cs)
  all_shown before (clear c z ∷ cs) = silent before (clear c z) cs _ refl (λ d k. refl) (all_shown (before ++ clear c z ∷ []) cs)
  all_shown before (triangles l ∷ cs) = silent before (triangles l) cs _ refl (λ d k. refl) (all_shown (before ++ triangles l ∷ []) cs)
  all_shown before (show ∷ cs) =
      let o = all_shown before cs in
      record {
        many = omega (arith, o.many);
        pictures = λ f g. (a_picture before f, o.pictures f g.1);
        at = λ q i j iw jh h. next q i j iw jh h o.at;
      }
    where
      next : (q i j : ℕ) → i < s.width → j < s.height → q < 1 + shows cs →
          ((p i j : ℕ) → i < s.width → j < s.height → p < shows cs →
          get_or (get_or (shown ts s before cs) p []) (j * s.width + i) [] ≡ (get_or (seen_dots ts i j (after ts i j (begin s) before) cs) p no_dot).colour) →
          get_or (get_or (picture ts s before 0 s.height ∷ shown ts s before cs) q []) (j * s.width + i) []
          ≡ (get_or ((after ts i j (begin s) before).dot ∷ seen_dots ts i j (after ts i j (begin s) before) cs) q no_dot).colour
      next zero i j iw jh h more =
          let z : 0 + j ≡ j = omega arith in
          rw (picture_grid before 0 s.height) (grid_at (colour_after before) s.width 0 s.height i j iw jh ∙ ap (λ (k : ℕ). colour_after before i k) z)
      next (suc q) i j iw jh h more = more q i j iw jh (omega arith)

  all_dots : (l : List (List (List ℕ))) → AllByRecursion APicture l → AllByRecursion (Long 3) (flat l)
  all_dots [] e = tt
  all_dots (x ∷ l) e = All-append (Long 3) x (flat l) e.0.1 (all_dots l e.1)

  module _ (cs : List Instruction) (fit : Fit cs) where
    dots_three : AllByRecursion (Long 3) (flat (shown ts s [] cs))
    dots_three = all_dots _ ((all_shown [] cs).pictures tt fit)

    pictures_long : AllByRecursion (Long (s.height * s.width)) (shown ts s [] cs)
    pictures_long = All-weaker APicture _ (λ l e. e.0) _ ((all_shown [] cs).pictures tt fit)

    many_dots : length (flat (shown ts s [] cs)) ≡ (shows cs * s.height) * s.width
    many_dots =
        length_flat (s.height * s.width) (shown ts s [] cs) pictures_long ∙ ap (λ (n : ℕ). n * (s.height * s.width)) (all_shown [] cs).many
        ∙ sym (mul_assoc (shows cs) s.height s.width)

    shown_cut : (rest : List ℕ) → pictures_in (shows cs) s (flat (flat (shown ts s [] cs)) ++ rest) ≡ shown ts s [] cs
    shown_cut rest =
        let p = shown ts s [] cs in
        rw (← many_dots, cut_flat 3 (flat p) rest dots_three, ← (all_shown [] cs).many)
        (ap (λ (l : List (List ℕ)). cut (length p) (s.height * s.width) l) (sym (append-nil (flat p))) ∙ cut_flat (s.height * s.width) p [] pictures_long)

    -- each byte that is shown
    shown_byte : (q i j c : ℕ) → i < s.width → j < s.height → q < shows cs → c < 3 →
        get_or (flat (flat (shown ts s [] cs))) (((q * s.height + j) * s.width + i) * 3 + c) 0 ≡ get_or (get_or (seen_dots ts i j (begin s) cs) q no_dot).colour c 0
    unfolding after
    shown_byte q i j c iw jh qn c3 =
        let p = shown ts s [] cs in
        let z : (q * s.height + j) * s.width + i ≡ q * (s.height * s.width) + (j * s.width + i) = omega (arith, add-mul (q * s.height) j s.width, mul_assoc q s.height s.width) in
        flat_at 3 0 (flat p) dots_three ((q * s.height + j) * s.width + i) c c3
        ∙ ap (λ (l : List ℕ). get_or l c 0) (ap (λ (n : ℕ). get_or (flat p) n []) z
        ∙ flat_at (s.height * s.width) [] p pictures_long q (j * s.width + i) (omega (arith, row_below s.width j s.height jh)) ∙ (all_shown [] cs).at q i j iw jh qn)

    module _ (C D S C' D' S' : List ℕ) (w0 : 0 < s.width) (h0 : 0 < s.height) (room : Room s (shows cs) C D S)
        (o : Region ts s cs (in_box 0 0 s.width s.height) C D S C' D' S') where
      colours : length C' ≡ length C → C' ≡ flat (picture ts s cs 0 s.height) ++ drop ((s.height * s.width) * 3) C
      colours same =
          let f = colour_after cs in
          rw (picture_grid cs 0 s.height)
          (dots_same s.width s.height C C' (flat (grid f s.width 0 s.height)) w0 same
          (length_flat 3 (grid f s.width 0 s.height) (all_grid (Long 3) f (three_colour cs fit) s.width 0 s.height) ∙ ap (λ (n : ℕ). n * 3) (grid_long f s.width 0 s.height))
          room.colours
          (λ i j c iw jh c3. (o.colours i j c iw c3 ∙ rw (in_all s.width s.height i j iw jh)) ∙ sym (bytes_at 3 f s.width s.height (three_colour cs fit) i j c iw jh c3))
          (λ i j c iw jh c3. o.colours i j c iw c3 ∙ rw (below_all s.width s.height i j jh)))

      depths : length D' ≡ length D → D' ≡ flat (grid (λ i j. (after ts i j (begin s) cs).dot.depth ∷ []) s.width 0 s.height) ++ drop (s.height * s.width) D
      depths same =
          let f = λ (i j : ℕ). (after ts i j (begin s) cs).dot.depth ∷ [] in
          let one : (n : ℕ) → n * 1 ≡ n = λ n. omega arith in
          let place : (n : ℕ) → n * 1 + 0 ≡ n = λ n. omega arith in
          rows_same s.width s.height D D' (flat (grid f s.width 0 s.height)) w0 same
          (length_flat 1 (grid f s.width 0 s.height) (all_grid (Long 1) f (λ i j. refl) s.width 0 s.height) ∙ one (length (grid f s.width 0 s.height))
          ∙ grid_long f s.width 0 s.height) room.depths
          (λ i j iw jh. (o.depths i j iw ∙ rw (in_all s.width s.height i j iw jh))
          ∙ sym (subst (λ (x : ℕ). get_or (flat (grid f s.width 0 s.height)) x 0 ≡ (after ts i j (begin s) cs).dot.depth) (place (j * s.width + i)) (bytes_at 1 f s.width s.height (λ i j. refl) i j 0 iw jh (omega arith))))
          (λ i j iw jh. o.depths i j iw ∙ rw (below_all s.width s.height i j jh))

      every_shown : length S' ≡ length S → S' ≡ flat (flat (shown ts s [] cs)) ++ drop (((shows cs * s.height) * s.width) * 3) S
      every_shown same =
          let h = s.height in
          let list = flat (flat (shown ts s [] cs)) in
          dots_same s.width (shows cs * h) S S' list w0 same (length_flat 3 _ dots_three ∙ ap (λ (n : ℕ). n * 3) many_dots) room.shown
          (λ i k c iw kH c3.
          let p : k / h * h + k % h ≡ k = div-add-mod' k h in
          let jh : k % h < h = mod-lt k h0 in
          let qn : k / h < shows cs = elim (cases_lt (k / h) (shows cs)) [ inl less ↦ less | inr more ↦ absurd (omega (arith, mul-le-mul_right h more)) ] in
          subst (λ (x : ℕ). get_or S' ((x * s.width + i) * 3 + c) 0 ≡ get_or list ((x * s.width + i) * 3 + c) 0) p
          ((o.shown (k / h) i (k % h) c iw jh c3 ∙ rw (lt-ltb (k / h) (shows cs) qn, in_all s.width h i (k % h) iw jh)) ∙ sym (shown_byte (k / h) i (k % h) c iw jh qn c3)))
          (λ i k c iw kH c3.
          let p : k / h * h + k % h ≡ k = div-add-mod' k h in
          let jh : k % h < h = mod-lt k h0 in
          let qn : shows cs ≤ k / h = elim (cases_lt (k / h) (shows cs)) [ inl less ↦ absurd (omega (arith, row_below h (k / h) (shows cs) less)) | inr more ↦ more ] in
          subst (λ (x : ℕ). get_or S' ((x * s.width + i) * 3 + c) 0 ≡ get_or S ((x * s.width + i) * 3 + c) 0) p
          (o.shown (k / h) i (k % h) c iw jh c3 ∙ rw (le-ltb (k / h) (shows cs) qn)))

pub whole : RegionIsWhole
whole ts s cs C D S C' D' S' fits room lc ld ls o =
    let fit = fits.each_command in
    let w0 = fits.some_width in
    let h0 = fits.some_height in
    record {
      colours = colours ts s cs fit C D S C' D' S' w0 h0 room o lc;
      depths = depths ts s cs fit C D S C' D' S' w0 h0 room o ld;
      shown = every_shown ts s cs fit C D S C' D' S' w0 h0 room o ls;
    }

pub pictures_cut : PicturesCut
pictures_cut ts s cs rest fits = shown_cut ts s cs fits.each_command rest

pub many_pictures : ManyPictures
many_pictures ts s cs = (all_shown ts s [] cs).many
