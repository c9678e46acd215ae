-- A triangle with the dots of its box does to every dot what its points do under the pen.
-- Assumes nothing.
use Rattle.std.proofs.Common.{◌≡◌, ℕ, Bool, true, false, cond, not, ◌&&◌, ◌⊎◌, ℤ, pos, neg_ℤ, ◌<ℤ◌, Some, None, Option, sym, refl, ◌∙◌, subst, inl, inr, arith}
use lib.Signed.{lt_z, le_z}
use Rattle.std.proofs.lemmas.Int.{ints}
use Rattle.std.proofs.lemmas.Bool.{cases_Bool, cond-true, cond-false, cond_both}
use Rattle.std.proofs.lemmas.Bool.Decides.{nat_tests}
use Rattle.std.proofs.lemmas.Option.{none-some, same_Some}
use Rattle.fixed_point.specs.Whole.{sameZ}
use Rattle.meaning.specs.declared.points.Point.{Point}
use Rattle.meaning.specs.declared.pen.Pen.{Pen}
use Rattle.meaning.specs.declared.projection.View.{View}
use Rattle.meaning.specs.declared.state.Dot.{Dot}
use Rattle.meaning.specs.declared.triangle.Triangle.{Triangle}
use Rattle.meaning.specs.Meaning.{Image, Triple, turns, covers, middle, in_frame, if_covered, at_dot, point_of, triple_at}
use Rattle.meaning.specs.Triangles.{turned, all_of, triangle_seen}
use Rattle.meaning.proofs.Depths.{turns_back}
use Rattle.meaning.proofs.Painting.{hidden, shown}
use Rattle.meaning.proofs.Small.{place_fits}
use Rattle.setup.specs.declared.triangle.ReadyTriangle.{ReadyTriangle}
use Rattle.setup.specs.Boxes.{boxed}
use Rattle.setup.specs.Ready.{Sound, Placed, Stands, nothing, Round, On}
use Rattle.setup.proofs.Covering.{covered_boxed}

turned_over : {A : Type 0} (b : Bool) (x y : A) → cond (not b) x y ≡ cond b y x
turned_over true x y = refl
turned_over false x y = refl

-- ---- the triangle that paints nothing
none_is : (x y : Dot) (i j : ℕ) → cond (in_frame nothing.frame i j) x y ≡ y
none_is x y i j = cond-false _ x y (outside i j)
  where
    outside : (i j : ℕ) → in_frame nothing.frame i j ≡ false
    outside i j = grind (arith, nat_tests)

none_sound : (i j : ℕ) → in_frame nothing.frame i j ≡ true → Sound nothing.triangle
none_sound i j e = absurd (outside i j e)
  where
    outside : (i j : ℕ) → in_frame nothing.frame i j ≡ true → ⊥
    outside i j e = grind (arith, nat_tests)

pub none_placed : (r : ReadyTriangle) → r ≡ nothing → Placed r.triangle
none_placed r e = subst (λ (x : ReadyTriangle). Placed x.triangle) (sym e) (omega arith)

-- ---- a triangle at a dot, by its sign
module _ (x : Option Image) (p : Pen) (a b c : Point) (i j : ℕ) (d : Dot) where
  flat : turns a b c ≡ pos 0 → at_dot x p a b c i j d ≡ d
  unfolding at_dot sameZ
  flat e = rw e

  with_clock : pos 0 <ℤ turns a b c → at_dot x p a b c i j d ≡ cond (in_frame p.frame i j) (if_covered x p a b c (middle i j) d) d
  unfolding at_dot sameZ
  with_clock h = let s = signs (turns a b c) h in rw (s.0, s.1) (turned_over (in_frame p.frame i j) _ _)
    where
      signs : (t : ℤ) → pos 0 <ℤ t → ((le_z t (pos 0) && le_z (pos 0) t) ≡ false) × (lt_z t (pos 0) ≡ false)
      signs t h = (grind (arith, ints), grind (arith, ints))

  against : turns a b c <ℤ pos 0 → at_dot x p a b c i j d ≡ cond (in_frame p.frame i j) (if_covered x p a c b (middle i j) d) d
  unfolding at_dot sameZ
  against h = let s = signs (turns a b c) h in rw (s.0, s.1) (turned_over (in_frame p.frame i j) _ _)
    where
      signs : (t : ℤ) → t <ℤ pos 0 → ((le_z t (pos 0) && le_z (pos 0) t) ≡ false) × (lt_z t (pos 0) ≡ true)
      signs t h = (grind (arith, ints), grind (arith, ints))

  -- outside its box it covers nothing
  in_box : pos 0 <ℤ turns a b c → (f : Bool) →
      cond f (if_covered x p a b c (middle i j) d) d ≡ cond (f && boxed a.at b.at c.at (middle i j)) (if_covered x p a b c (middle i j) d) d
  unfolding if_covered
  in_box h false = refl
  in_box h true = go (cases_Bool (covers a b c (middle i j)))
    where
      go : (covers a b c (middle i j) ≡ true) ⊎ (covers a b c (middle i j) ≡ false) →
          if_covered x p a b c (middle i j) d ≡ cond (boxed a.at b.at c.at (middle i j)) (if_covered x p a b c (middle i j) d) d
      go (inl e) = sym (cond-true _ _ _ (covered_boxed a b c (middle i j) h e))
      go (inr e) =
          cond_both (boxed a.at b.at c.at (middle i j)) _ d (λ (z : Dot). if_covered x p a b c (middle i j) d ≡ z) (λ _. refl) (λ _. cond-false _ _ _ e)

-- ---- a triangle on the picture
module _ (p : Pen) (t : Triangle) (r : ReadyTriangle) (fits : Placed t) (h : pos 0 <ℤ turns t.a t.b t.c) (o : Round t p.frame r) where
  placed : Placed r.triangle
  placed = subst Placed (sym o.triangle_is) fits

  sound : Sound r.triangle
  sound = record { placed = placed; clockwise = rw o.triangle_is h }

  -- u has the same corners in the order that the definition has them
  same_dots : (u : Triangle) →
      ((x : Option Image) (i j : ℕ) (d : Dot) → at_dot x p u.a u.b u.c i j d ≡ cond (in_frame p.frame i j) (if_covered x p t.a t.b t.c (middle i j) d) d) → On p u r
  same_dots u e =
      record {
        is = λ x i j d.
            e x i j d
            ∙ in_box x p t.a t.b t.c i j d h (in_frame p.frame i j)
            ∙ (λ k. cond (sym (o.frame_is i j) k) (if_covered x p (sym o.triangle_is k).a (sym o.triangle_is k).b (sym o.triangle_is k).c (middle i j) d) d);
        sound = λ i j _. sound;
        placed = placed;
      }

module _ (p : Pen) (t : Triangle) (r : ReadyTriangle) where
  module _ (fits : Placed t) where
    pub on_clock : pos 0 <ℤ turns t.a t.b t.c → Round t p.frame r → On p t r
    on_clock h o = same_dots p t r fits h o t (λ x i j d. with_clock x p t.a t.b t.c i j d h)

    pub on_against : turns t.a t.b t.c <ℤ pos 0 → Round (turned t) p.frame r → On p t r
    on_against h o =
        same_dots p (turned t) r (record { a = fits.a; b = fits.c; c = fits.b }) (above (turns t.a t.b t.c) (turns t.a t.c t.b) h (turns_back t.a t.b t.c)) o t
        (λ x i j d. against x p t.a t.b t.c i j d h)
      where
        above : (x y : ℤ) → x <ℤ pos 0 → y ≡ neg_ℤ x → pos 0 <ℤ y
        above x y h e = omega (arith, ints)

  pub on_flat : turns t.a t.b t.c ≡ pos 0 → r ≡ nothing → On p t r
  on_flat h e =
      subst (On p t) (sym e) (record { is = λ x i j d. flat x p t.a t.b t.c i j d h ∙ sym (none_is _ d i j); sound = none_sound; placed = none_placed nothing refl })

-- ---- three corners
module _ (p : Pen) (v : View) (z : Triple) (r : ReadyTriangle) where
  pub hidden_stands : ((x : Option Image) (i j : ℕ) (d : Dot) → d ≡ triple_at x p v z i j d) → r ≡ nothing → Stands p v z r
  hidden_stands h e = subst (Stands p v z) (sym e) (record { is = λ x i j d. sym (h x i j d) ∙ sym (none_is _ d i j); sound = none_sound })

  pub none_stands : None ≡ triangle_seen v z → r ≡ nothing → Stands p v z r
  unfolding triple_at
  none_stands h e = hidden_stands (λ x i j d. hidden x p i j d _ _ _ h) e

  pub seen_stands : (t : Triangle) → Some t ≡ triangle_seen v z → On p t r → Stands p v z r
  unfolding triple_at
  seen_stands t e o = record { is = λ x i j d. sym (shown x p i j d t _ _ _ e) ∙ o.is x i j d; sound = o.sound }

-- the points that a view gives lie where points may
pub seen_placed : (v : View) (z : Triple) (t : Triangle) → Some t ≡ triangle_seen v z → Placed t
seen_placed v z t e =
    let s = parts (point_of v z.a) (point_of v z.b) (point_of v z.c) t e in
    record { a = place_fits v z.a t.a s.0; b = place_fits v z.b t.b s.1; c = place_fits v z.c t.c s.2 }
  where
    parts : (x y w : Option Point) (t : Triangle) → Some t ≡ all_of x y w → (x ≡ Some t.a) × (y ≡ Some t.b) × (w ≡ Some t.c)
    parts None y w t e = absurd (none-some t (sym e))
    parts (Some a) None w t e = absurd (none-some t (sym e))
    parts (Some a) (Some b) None t e = absurd (none-some t (sym e))
    parts (Some a) (Some b) (Some c) t e = let h = same_Some t _ e in rw h (refl, refl, refl)
