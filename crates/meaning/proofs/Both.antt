-- Two triangles on both sides of an edge: a place on it between its ends is in exactly one.
-- Assumes nothing.
use Rattle.std.proofs.Common.{◌≡◌, ℕ, ◌+◌, Bool, true, not, ◌&&◌, [], ◌∷◌, ℤ, pos, ◌+ℤ◌, ◌-ℤ◌, ◌*ℤ◌, neg_ℤ, ◌<ℤ◌, sym, ap, ◌∙◌, arith}
use borrow.Author.Differences.{ints}
use Rattle.fixed_point.proofs.Ring.{Expr, k, ◌⊕◌, ◌⊖◌, ◌⊗◌, solve}
use Rattle.fixed_point.proofs.Signs.{above_by}
use Rattle.meaning.specs.declared.geometry.Place.{Place}
use Rattle.meaning.specs.Meaning.{edge, inside, turns, covers}
use Rattle.meaning.specs.Laws.{count, BothSides}
use Rattle.meaning.proofs.Sides.{coordinates, X, Y, E, same_place, edge_turned, is_above, one_side}

-- how far it is from a to b along the edge from p to q, times the edge's length
abbrev along : Place → Place → Place → Place → ℤ
along a b p q = ((b.x -ℤ a.x) *ℤ (q.x -ℤ p.x)) +ℤ ((b.y -ℤ a.y) *ℤ (q.y -ℤ p.y))

abbrev A : ℕ → ℕ → ℕ → ℕ → Expr
A a b p q = ((X b ⊖ X a) ⊗ (X q ⊖ X p)) ⊕ ((Y b ⊖ Y a) ⊗ (Y q ⊖ Y p))

along_back : (a b p q : Place) → along a b p q ≡ along b a q p
along_back a b p q = solve (coordinates (a ∷ b ∷ p ∷ q ∷ [])) (A 0 1 2 3) (A 1 0 3 2) tt

module _ (p q r m : Place) where
  after_q : (along p m p q +ℤ along m q p q) *ℤ edge q r m ≡ (along m q p q *ℤ edge p q r) +ℤ (edge p q m *ℤ along q r p q)
  unfolding edge
  after_q = solve (coordinates (p ∷ q ∷ r ∷ m ∷ [])) ((A 0 3 0 1 ⊕ A 3 1 0 1) ⊗ E 1 2 3) ((A 3 1 0 1 ⊗ E 0 1 2) ⊕ (E 0 1 3 ⊗ A 1 2 0 1)) tt

  after_r : (along p m p q +ℤ along m q p q) *ℤ edge r p m ≡ (along p m p q *ℤ edge p q r) +ℤ (edge p q m *ℤ along r p p q)
  unfolding edge
  after_r = solve (coordinates (p ∷ q ∷ r ∷ m ∷ [])) ((A 0 3 0 1 ⊕ A 3 1 0 1) ⊗ E 2 0 3) ((A 0 3 0 1 ⊗ E 0 1 2) ⊕ (E 0 1 3 ⊗ A 2 0 0 1)) tt

  strict : edge p q m ≡ pos 0 → pos 0 <ℤ along p m p q → pos 0 <ℤ along m q p q → pos 0 <ℤ edge p q r → (inside q r m ≡ true) × (inside r p m ≡ true)
  unfolding inside
  strict e f g t = (
    rw (is_above (edge q r m) (above_by _ _ _ _ _ (along q r p q) after_q e (sum _ _ f g) g t)),
    rw (is_above (edge r p m) (above_by _ _ _ _ _ (along r p p q) after_r e (sum _ _ f g) f t)),
  )
    where
      sum : (a b : ℤ) → pos 0 <ℤ a → pos 0 <ℤ b → pos 0 <ℤ (a +ℤ b)
      sum a b h i = omega (arith, ints)

no_area : (p r : Place) → edge p p r ≡ pos 0
unfolding edge
no_area p r = solve (coordinates (p ∷ r ∷ [])) (E 0 0 1) (k (pos 0)) tt

apart : (p q r : Place) → pos 0 <ℤ edge p q r → (p.x ≡ q.x) × (p.y ≡ q.y) → ⊥
apart p q r h e = let z = ap (λ (i : Place). edge p i r) (sym (same_place p q e)) ∙ no_area p r in omega (arith, ints)

one_of : (a b : Bool) → a ≡ not b → count (a && (true && true)) + count (b && (true && true)) ≡ 1
one_of a b e = grind arith

pub both_sides_lem : BothSides
unfolding covers turns
both_sides_lem p q r s m h g b =
    let f = strict p.at q.at r.at m b.0 b.1 b.2 h in
    let i = strict q.at p.at s.at m (edge_turned q.at p.at m ∙ ap neg_ℤ b.0)
    (rw (along_back m q.at p.at q.at) at b.2) (rw (along_back p.at m p.at q.at) at b.1) g in
    rw (f.0, f.1, i.0, i.1)
    (one_of _ _ (one_side p.at q.at m (apart p.at q.at r.at h)))
