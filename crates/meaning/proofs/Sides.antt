-- The two sides of an edge.
-- Assumes nothing.
use Rattle.std.proofs.Common.{◌≡◌, ℕ, ◌+◌, ◌*◌, true, not, ◌&&◌, ◌||◌, List, [], ◌∷◌, ℤ, pos, neg_ℤ, ◌<ℤ◌, arith}
use lib.Signed.{lt_z, le_z}
use borrow.Author.Differences.{ints}
use Rattle.fixed_point.specs.Whole.{sameZ}
use Rattle.fixed_point.proofs.Ring.{Expr, v, ◌⊖◌, ◌⊗◌, ⊝, solve}
use Rattle.meaning.specs.declared.geometry.Place.{Place}
use Rattle.meaning.specs.Meaning.{edge, owns, inside}
use Rattle.meaning.specs.Laws.{OneSide}

-- places for the solver: place n of a list has the variables 2 n and 2 n + 1
abbrev pub coordinates : List Place → List ℤ
coordinates [] = []
coordinates (p ∷ ps) = p.x ∷ p.y ∷ coordinates ps

abbrev pub X : ℕ → Expr
X n = v (2 * n)

abbrev pub Y : ℕ → Expr
Y n = v (2 * n + 1)

-- `edge` of three places of the list as an expression
abbrev pub E : ℕ → ℕ → ℕ → Expr
E p q m = ((X q ⊖ X p) ⊗ (Y m ⊖ Y p)) ⊖ ((Y q ⊖ Y p) ⊗ (X m ⊖ X p))

pub same_place : (p q : Place) → (p.x ≡ q.x) × (p.y ≡ q.y) → p ≡ q
same_place p q e = λ i. record { x = e.0 i; y = e.1 i }

pub edge_turned : (p q m : Place) → edge p q m ≡ neg_ℤ (edge q p m)
unfolding edge
edge_turned p q m = solve (coordinates (p ∷ q ∷ m ∷ [])) (E 0 1 2) (⊝ (E 1 0 2)) tt

pub is_above : (z : ℤ) → pos 0 <ℤ z → lt_z (pos 0) z ≡ true
is_above z h = grind (arith, ints)

one : (e f px py qx qy : ℤ) → e ≡ neg_ℤ f → ((px ≡ qx) × (py ≡ qy) → ⊥) →
    lt_z (pos 0) e || ((le_z e (pos 0) && le_z (pos 0) e) && (lt_z qy py || ((le_z qy py && le_z py qy) && lt_z px qx)))
    ≡ not (lt_z (pos 0) f || ((le_z f (pos 0) && le_z (pos 0) f) && (lt_z py qy || ((le_z py qy && le_z qy py) && lt_z qx px))))
one e f px py qx qy h n = grind (arith, ints)

pub one_side : OneSide
unfolding inside sameZ owns
one_side p q m = one (edge p q m) (edge q p m) p.x p.y q.x q.y (edge_turned p q m)
