-- A place that is moved by a very small step is on no edge: its side of each edge is the sign of one number, `val`.
-- Assumes nothing.
use Rattle.std.proofs.Common.{◌≡◌, ℕ, zero, suc, ◌<◌, ◌&&◌, ◌||◌, ◌⊎◌, [], ◌∷◌, ◌++◌, ℤ, pos, negsuc, ◌+ℤ◌, ◌-ℤ◌, ◌*ℤ◌, neg_ℤ, nat_abs, ◌<ℤ◌, refl, inl, inr, arith}
use lib.Signed.{lt_z, le_z}
use borrow.Author.Differences.{ints}
use Rattle.fixed_point.specs.Whole.{sameZ}
use Rattle.fixed_point.proofs.Ring.{Expr, v, k, ◌⊕◌, ◌⊖◌, ◌⊗◌, ⊝, solve}
use Rattle.meaning.specs.declared.geometry.Place.{Place}
use Rattle.meaning.specs.Meaning.{edge, owns, inside}
use Rattle.meaning.proofs.Sides.{coordinates, X, Y, E, same_place}

unfoldable pub val : ℤ → Place → Place → Place → ℤ
val w p q m = (((edge p q m *ℤ w) +ℤ (p.y -ℤ q.y)) *ℤ w) +ℤ (q.x -ℤ p.x)

abbrev V : Expr → ℕ → ℕ → ℕ → Expr
V w p q m = (((E p q m ⊗ w) ⊕ (Y p ⊖ Y q)) ⊗ w) ⊕ (X q ⊖ X p)

-- ---- identities

-- three edges round a triangle
pub val_round : (w : ℤ) (a b c m : Place) → (val w a b m +ℤ val w b c m) +ℤ val w c a m ≡ (edge a b c *ℤ w) *ℤ w
unfolding val edge
val_round w a b c m =
    solve (coordinates (a ∷ b ∷ c ∷ m ∷ []) ++ w ∷ []) ((V (v 8) 0 1 3 ⊕ V (v 8) 1 2 3) ⊕ V (v 8) 2 0 3) ((E 0 1 2 ⊗ v 8) ⊗ v 8) tt

pub val_turned : (w : ℤ) (p q m : Place) → val w p q m ≡ neg_ℤ (val w q p m)
unfolding val edge
val_turned w p q m = solve (coordinates (p ∷ q ∷ m ∷ []) ++ w ∷ []) (V (v 6) 0 1 2) (⊝ (V (v 6) 1 0 2)) tt

-- the six lines through four places
pub val_six : (w : ℤ) (a b c d m : Place) → ((val w a b m *ℤ val w c d m) +ℤ (val w b c m *ℤ val w a d m)) +ℤ (val w c a m *ℤ val w b d m) ≡ pos 0
unfolding val edge
val_six w a b c d m =
    solve (coordinates (a ∷ b ∷ c ∷ d ∷ m ∷ []) ++ w ∷ [])
    (((V (v 10) 0 1 4 ⊗ V (v 10) 2 3 4) ⊕ (V (v 10) 1 2 4 ⊗ V (v 10) 0 3 4)) ⊕ (V (v 10) 2 0 4 ⊗ V (v 10) 1 3 4)) (k (pos 0)) tt

-- ---- the side of an edge is the sign of `val`

-- u w + c, with c nearer to 0 than w, has the sign of u, and is c where u is 0
abbrev Leads : ℤ → ℤ → ℤ → Type 0
Leads u c z = ((u ≡ pos 0) × (z ≡ c)) ⊎ (((pos 0 <ℤ u) × (pos 0 <ℤ z)) ⊎ ((u <ℤ pos 0) × (z <ℤ pos 0)))

leads : (w : ℕ) (u c : ℤ) → nat_abs c < w → Leads u c ((u *ℤ pos w) +ℤ c)
leads w (pos zero) c h = inl (refl, omega (arith, ints))
leads w (pos (suc n)) c h = inr (inl (omega (arith, ints), omega (arith, ints)))
leads w (negsuc n) c h = inr (inr (omega (arith, ints), omega (arith, ints)))

module _ (px py qx qy e f g : ℤ) (high : Leads e (py -ℤ qy) f) (wide : Leads f (qx -ℤ px) g) where
  side : lt_z (pos 0) e || ((le_z e (pos 0) && le_z (pos 0) e) && (lt_z qy py || ((le_z qy py && le_z py qy) && lt_z px qx))) ≡ lt_z (pos 0) g
  side = grind (arith, ints)

  ends : g ≡ pos 0 → (px ≡ qx) × (py ≡ qy)
  ends e = grind (arith, ints)

module _ (w : ℕ) (p q m : Place) (high : nat_abs (p.y -ℤ q.y) < w) (wide : nat_abs (q.x -ℤ p.x) < w) where
  pub inside_is : inside p q m ≡ lt_z (pos 0) (val (pos w) p q m)
  unfolding inside owns sameZ val
  inside_is = side p.x p.y q.x q.y (edge p q m) _ _ (leads w (edge p q m) (p.y -ℤ q.y) high) (leads w _ (q.x -ℤ p.x) wide)

  -- it is 0 only for an edge with one end
  pub val_zero : val (pos w) p q m ≡ pos 0 → p ≡ q
  unfolding val
  val_zero e = same_place p q (ends p.x p.y q.x q.y (edge p q m) _ _ (leads w (edge p q m) (p.y -ℤ q.y) high) (leads w _ (q.x -ℤ p.x) wide) e)
