-- Depths: a place's lie between those of the corners, they come nearer, and triangles that are left out.
-- Assumes nothing.
use Rattle.std.proofs.Common.{◌≡◌, ℕ, suc, ◌+◌, ◌<◌, ◌≤◌, Bool, true, false, ◌&&◌, ◌||◌, ◌⊎◌, [], ◌∷◌, ℤ, pos, negsuc, ◌+ℤ◌, neg_ℤ, ◌≤ℤ◌, ◌<ℤ◌, Option, refl, inl, inr, le_trans, le_refl, arith}
use lib.Signed.{lt_z, le_z, mag}
use borrow.Author.Differences.{ints, up, down}
use Rattle.std.proofs.lemmas.Bool.{and_parts, cond_both, cond-false}
use Rattle.std.proofs.lemmas.Bool.Decides.{nat_tests}
use Rattle.fixed_point.specs.Whole.{sameZ}
use Rattle.fixed_point.proofs.Ring.{◌⊕◌, ⊝, solve}
use Rattle.meaning.specs.declared.geometry.Place.{Place}
use Rattle.meaning.specs.declared.points.Point.{Point}
use Rattle.meaning.specs.declared.pen.Test.{Test}
use Rattle.meaning.specs.declared.pen.Test.TheVariants.{Always, Less, LessOrEqual, Equal, Never}
use Rattle.meaning.specs.declared.pen.Pen.{Pen}
use Rattle.meaning.specs.declared.state.Dot.{Dot}
use Rattle.meaning.specs.Meaning.{Image, edge, owns, inside, turns, covers, blended, depth_at, middle, passes, painted, if_covered, at_dot, step}
use Rattle.meaning.specs.Numbers.{test_number}
use Rattle.meaning.specs.Laws.{Nearer, AllNearer, Behind, LeftOut}
use Rattle.meaning.proofs.Sides.{coordinates, E}
use Rattle.meaning.proofs.Order.{all_keep}
use Rattle.meaning.proofs.Shares.{mean_far, mean_near}

-- ---- the weights of a place that is covered
pub not_below : (p q m : Place) → inside p q m ≡ true → pos 0 ≤ℤ edge p q m
unfolding inside sameZ
not_below p q m h = go (edge p q m) (owns p q) h
  where
    go : (e : ℤ) (o : Bool) → lt_z (pos 0) e || ((le_z e (pos 0) && le_z (pos 0) e) && o) ≡ true → pos 0 ≤ℤ e
    go e o h = grind (arith, ints)

pub sum_at : (a b c m : Place) → (edge b c m +ℤ edge c a m) +ℤ edge a b m ≡ edge a b c
unfolding edge
sum_at a b c m = solve (coordinates (a ∷ b ∷ c ∷ m ∷ [])) ((E 1 2 3 ⊕ E 2 0 3) ⊕ E 0 1 3) (E 0 1 2) tt

mag_up : (z : ℤ) → pos 0 ≤ℤ z → (up z ≡ mag z) × (down z ≡ 0)
mag_up (pos n) h = (refl, refl)
mag_up (negsuc n) h = absurd h.le

mags : (a b c t : ℤ) → (a +ℤ b) +ℤ c ≡ t → pos 0 ≤ℤ a → pos 0 ≤ℤ b → pos 0 ≤ℤ c → pos 0 <ℤ t → (mag t ≡ mag a + mag b + mag c) × (0 < mag t)
mags a b c t e f g h i = let l : pos 0 ≤ℤ t = omega (arith, ints) in omega (arith, ints, mag_up a f, mag_up b g, mag_up c h, mag_up t l)

module _ (a b c : Point) (m : Place) (turn : pos 0 <ℤ turns a b c) (in-it : covers a b c m ≡ true) where
  pub weights : (mag (turns a b c) ≡ mag (edge b.at c.at m) + mag (edge c.at a.at m) + mag (edge a.at b.at m)) × (0 < mag (turns a b c))
  unfolding turns covers
  weights =
      let s = and_parts _ _ in-it in
      let t = and_parts _ _ s.1 in
      mags _ _ _ _ (sum_at a.at b.at c.at m)
      (not_below _ _ _ t.0) (not_below _ _ _ t.1) (not_below _ _ _ s.0) turn

  -- a blended quantity lies between bounds of the corners' ones
  pub blended_far : (f g h far : ℕ) → far ≤ f → far ≤ g → far ≤ h → far ≤ blended a b c m f g h
  unfolding blended
  blended_far f g h far p q r = mean_far _ _ _ _ f g h far weights.0 weights.1 p q r

  pub blended_near : (f g h top : ℕ) → f ≤ top → g ≤ top → h ≤ top → blended a b c m f g h ≤ top
  unfolding blended
  blended_near f g h top p q r = mean_near _ _ _ _ f g h top weights.0 p q r

-- ---- what holds of a dot that is left as it is, and of one that is painted, holds after a triangle
pub turns_back : (a b c : Point) → turns a c b ≡ neg_ℤ (turns a b c)
unfolding turns edge
turns_back a b c = solve (coordinates (a.at ∷ b.at ∷ c.at ∷ [])) (E 0 2 1) (⊝ (E 0 1 2)) tt

module _ (t : Option Image) (p : Pen) (a b c : Point) (i j : ℕ) (d : Dot) (P : Dot → Type 0) where
  pub at_dot_both : P d → (pos 0 <ℤ turns a c b → covers a c b (middle i j) ≡ true → P (painted t p a c b (middle i j) d)) →
      (pos 0 <ℤ turns a b c → covers a b c (middle i j) ≡ true → P (painted t p a b c (middle i j) d)) → P (at_dot t p a b c i j d)
  unfolding at_dot if_covered sameZ
  at_dot_both same back there =
      cond_both _ _ _ P (λ _. same)
      (λ h. cond_both _ _ _ P
      (λ g. cond_both _ _ _ P (back (below (turns a b c) _ (turns_back a b c) g)) (λ _. same))
      (λ g. cond_both _ _ _ P (there (above (turns a b c) _ h g)) (λ _. same)))
    where
      below : (t u : ℤ) → u ≡ neg_ℤ t → lt_z t (pos 0) ≡ true → pos 0 <ℤ u
      below t u e g = omega (arith, ints)

      above : (t : ℤ) (o : Bool) → (le_z t (pos 0) && le_z (pos 0) t) || o ≡ false → lt_z t (pos 0) ≡ false → pos 0 <ℤ t
      above t o s g = grind (arith, ints)

-- ---- nearer
passes_nearer : (t : Test) (new old : ℕ) → (test_number t ≡ 1) ⊎ (test_number t ≡ 2) → passes t new old ≡ true → new ≤ old
passes_nearer Always new old e h = grind arith
passes_nearer Less new old e h = grind (arith, nat_tests)
passes_nearer LessOrEqual new old e h = grind (arith, nat_tests)
passes_nearer Equal new old e h = grind arith
passes_nearer Never new old e h = grind arith

painted_nearer : (t : Option Image) (p : Pen) (a b c : Point) (m : Place) (d : Dot) → (test_number p.test ≡ 1) ⊎ (test_number p.test ≡ 2) →
    (painted t p a b c m d).depth ≤ d.depth
unfolding painted
painted_nearer t p a b c m d e =
    cond_both (passes p.test (depth_at a b c m) d.depth) _ d (λ (f : Dot). f.depth ≤ d.depth)
    (λ h. cond_both p.keeps (depth_at a b c m) _ (λ (n : ℕ). n ≤ d.depth) (λ _. passes_nearer p.test _ _ e h) (λ _. le_refl d.depth))
    (λ _. le_refl d.depth)

pub nearer : Nearer
nearer t p a b c i j d e =
    at_dot_both t p a b c i j d (λ (f : Dot). f.depth ≤ d.depth) (le_refl d.depth)
    (λ _ _. painted_nearer t p a c b _ d e) (λ _ _. painted_nearer t p a b c _ d e)

pub all_nearer : AllNearer
unfolding step
all_nearer ts i j n l e =
    all_keep _ _ i j (λ (f : Dot). f.depth ≤ n.dot.depth)
    (λ a b c d h. le_trans (nearer _ n.pen a b c i j d e) h) _ l _ (le_refl n.dot.depth)

-- ---- left out
fails : (t : Test) (new old : ℕ) → ((test_number t ≡ 1) × (old ≤ new)) ⊎ ((test_number t ≡ 2) × (old < new)) → passes t new old ≡ false
fails Always new old h = grind arith
fails Less new old h = grind (arith, nat_tests)
fails LessOrEqual new old h = grind (arith, nat_tests)
fails Equal new old h = grind arith
fails Never new old h = refl

painted_out : (t : Option Image) (p : Pen) (a b c : Point) (m : Place) (far : ℕ) (d : Dot) → d.depth ≤ far → Behind p a b c far →
    pos 0 <ℤ turns a b c → covers a b c m ≡ true → painted t p a b c m d ≡ d
unfolding painted
painted_out t p a b c m far d l h turn in-it = cond-false _ _ _ (fails p.test _ _ (deep h))
  where
    deep : Behind p a b c far → ((test_number p.test ≡ 1) × (d.depth ≤ depth_at a b c m)) ⊎ ((test_number p.test ≡ 2) × (d.depth < depth_at a b c m))
    deep (inl h) = let k = blended_far a b c m turn in-it a.depth b.depth c.depth far h.1 h.2 h.3 in inl (h.0, omega arith)
    deep (inr h) = let k = blended_far a b c m turn in-it a.depth b.depth c.depth (suc far) h.1 h.2 h.3 in inr (h.0, omega arith)

pub left_out : LeftOut
left_out t p a b c far i j d l h =
    at_dot_both t p a b c i j d (λ (e : Dot). e ≡ d) refl (painted_out t p a c b _ far d l (swap h)) (painted_out t p a b c _ far d l h)
  where
    swap : Behind p a b c far → Behind p a c b far
    swap (inl h) = inl (h.0, h.1, h.3, h.2)
    swap (inr h) = inr (h.0, h.1, h.3, h.2)
