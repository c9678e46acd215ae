-- What is brought and painted at a place that a triangle covers, from the numbers that the code computes.
-- Assumes nothing.
use Rattle.std.proofs.Common.{◌≡◌, ℕ, true, false, cond, not, ◌⊎◌, List, ℤ, pos, neg_ℤ, ◌<ℤ◌, Some, None, Option, sym, refl, ap, ◌∙◌, inl, inr, arith}
use lib.Signed.{lt_z}
use Rattle.meaning.specs.declared.geometry.Place.{Place}
use Rattle.meaning.specs.declared.points.Point.{Point}
use Rattle.meaning.specs.declared.triangle.Triangle.{Triangle}
use Rattle.meaning.specs.declared.pen.Pen.{Pen}
use Rattle.meaning.specs.declared.state.Dot.{Dot}
use borrow.Author.Differences.{ints}
use Rattle.std.proofs.lemmas.Option.{none-some, same_Some}
use Rattle.std.proofs.lemmas.Bool.{cond-true, cond-false, or_left, or_right, or_from, and_left, cases_Bool}
use Rattle.fixed_point.specs.Whole.{sameZ}
use Rattle.meaning.specs.Meaning.{Image, depth_at, turns, covers, middle, in_frame, passes, part_of, painted, if_covered, at_dot, seen_three}
use Rattle.meaning.specs.Triangles.{all_of}
use Rattle.meaning.specs.Weights.{holds}
use Rattle.meaning.specs.Fragments.{bringing, mixing}
use Rattle.meaning.proofs.Sides.{is_above}
use Rattle.meaning.proofs.Depths.{turns_back}

-- ---- a dot that is painted, or not
module _ (t : Option Image) (p : Pen) (a b c : Point) (m : Place) (d : Dot) (n : ℕ) (en : n ≡ depth_at a b c m) where
  pub painted_not : false ≡ passes p.test n d.depth → d ≡ painted t p a b c m d
  unfolding painted
  painted_not e = sym (cond-false _ _ _ (ap (λ (i : ℕ). passes p.test i d.depth) (sym en) ∙ sym e))

  pub painted_so : (new colour : List ℕ) (depth : ℕ) → true ≡ passes p.test n d.depth → new ≡ bringing t a b c m → colour ≡ mixing p.mix new d.colour →
      depth ≡ cond p.keeps n d.depth → ◌≡◌ {A = Dot} (record { colour = colour; depth = depth }) (painted t p a b c m d)
  unfolding painted part_of
  painted_so new colour depth e f g h =
      (λ i. record { colour = (g ∙ ap (λ (l : List ℕ). mixing p.mix l d.colour) f) i; depth = (h ∙ ap (λ (z : ℕ). cond p.keeps z d.depth) en) i })
      ∙ sym (cond-true _ _ _ (ap (λ (i : ℕ). passes p.test i d.depth) (sym en) ∙ sym e))

-- ---- a triangle at a dot, by the way that it goes round
module _ (t : Option Image) (p : Pen) (a b c : Point) (i j : ℕ) (d : Dot) where
  pub outside : in_frame p.frame i j ≡ false → d ≡ at_dot t p a b c i j d
  unfolding at_dot
  outside h = sym (cond-true _ _ _ (or_right (sameZ (turns a b c) (pos 0)) (not (in_frame p.frame i j)) (ap not h)))

  held : (x y : Point) → pos 0 <ℤ turns a x y → cond (holds a x y (middle i j)) (painted t p a x y (middle i j) d) d ≡ if_covered t p a x y (middle i j) d
  unfolding if_covered
  held x y h = rw (is_above (turns a x y) h)

  pub against : in_frame p.frame i j ≡ true → lt_z (turns a b c) (pos 0) ≡ true → cond (holds a c b (middle i j)) (painted t p a c b (middle i j) d) d ≡ at_dot t p a b c i j d
  unfolding at_dot sameZ
  against h g =
      held c b (turned (turns a b c) (turns a c b) (turns_back a b c) g)
      ∙ sym (cond-true _ _ _ g)
      ∙ sym (cond-false _ _ _ (or_from _ _ (apart (turns a b c) g) (ap not h)))
    where
      turned : (x y : ℤ) → y ≡ neg_ℤ x → lt_z x (pos 0) ≡ true → pos 0 <ℤ y
      turned x y e h = omega (arith, ints)

      apart : (x : ℤ) → lt_z x (pos 0) ≡ true → sameZ x (pos 0) ≡ false
      apart x h = grind (arith, ints)

  pub with_clock : in_frame p.frame i j ≡ true → lt_z (turns a b c) (pos 0) ≡ false → cond (holds a b c (middle i j)) (painted t p a b c (middle i j) d) d ≡ at_dot t p a b c i j d
  unfolding at_dot sameZ
  with_clock h g = go (cases_Bool (sameZ (turns a b c) (pos 0)))
    where
      none : (x : ℤ) → sameZ x (pos 0) ≡ true → lt_z (pos 0) x ≡ false
      none x e = grind (arith, ints)

      above : (x : ℤ) → sameZ x (pos 0) ≡ false → lt_z x (pos 0) ≡ false → pos 0 <ℤ x
      above x e f = grind (arith, ints)

      go : (sameZ (turns a b c) (pos 0) ≡ true) ⊎ (sameZ (turns a b c) (pos 0) ≡ false) →
          cond (holds a b c (middle i j)) (painted t p a b c (middle i j) d) d ≡ at_dot t p a b c i j d
      go (inl e) =
          cond-false _ _ _ (and_left (lt_z (pos 0) (turns a b c)) (covers a b c (middle i j)) (none (turns a b c) e))
          ∙ sym (cond-true _ _ _ (or_left (sameZ (turns a b c) (pos 0)) (not (in_frame p.frame i j)) e))
      go (inr e) = held b c (above (turns a b c) e g) ∙ sym (cond-false _ _ _ g) ∙ sym (cond-false _ _ _ (or_from _ _ e (ap not h)))

-- ---- a triangle in space
module _ (t : Option Image) (p : Pen) (i j : ℕ) (d : Dot) where
  pub hidden : (x y z : Option Point) → None ≡ all_of x y z → d ≡ seen_three t p x y z i j d
  unfolding seen_three
  hidden None y z e = refl
  hidden (Some a) None z e = refl
  hidden (Some a) (Some b) None e = refl
  hidden (Some a) (Some b) (Some c) e = absurd (none-some _ e)

  -- the first two are seen, so that the third decides
  pub third : (a b : Point) (x y z : Option Point) → Some a ≡ x → Some b ≡ y → seen_three t p (Some a) (Some b) z i j d ≡ seen_three t p x y z i j d
  third a b x y z e f = ap (λ (o : Option Point). seen_three t p o (Some b) z i j d) e ∙ ap (λ (o : Option Point). seen_three t p x o z i j d) f

  pub shown : (n : Triangle) (x y z : Option Point) → Some n ≡ all_of x y z → at_dot t p n.a n.b n.c i j d ≡ seen_three t p x y z i j d
  unfolding seen_three
  shown n None y z e = absurd (none-some n (sym e))
  shown n (Some a) None z e = absurd (none-some n (sym e))
  shown n (Some a) (Some b) None e = absurd (none-some n (sym e))
  shown n (Some a) (Some b) (Some c) e = ap (λ (k : Triangle). at_dot t p k.a k.b k.c i j d) (same_Some n _ e)
