-- A triangle that is cut into three: every place is in as many pieces as it is in the triangle.
-- Assumes nothing.
use Rattle.std.proofs.Common.{◌≡◌, ℕ, suc, ◌+◌, ◌<◌, ◌≤◌, Bool, true, ◌&&◌, [], ◌∷◌, ℤ, pos, ◌+ℤ◌, ◌-ℤ◌, ◌*ℤ◌, neg_ℤ, nat_abs, ◌≤ℤ◌, ◌<ℤ◌, sym, ap, ◌∙◌, arith}
use lib.Signed.{lt_z}
use borrow.Author.Differences.{ints}
use Rattle.fixed_point.proofs.Ring.{Expr, v, ◌⊕◌, ◌⊖◌, ◌⊗◌, ⊝, solve}
use Rattle.fixed_point.proofs.Signs.{mul_pos, mul_nonneg, factor_pos}
use Rattle.meaning.specs.declared.geometry.Place.{Place}
use Rattle.meaning.specs.Meaning.{edge, inside, turns, covers}
use Rattle.meaning.specs.Laws.{count, Once}
use Rattle.meaning.proofs.Sides.{is_above}
use Rattle.meaning.proofs.Cut.{val, val_round, val_turned, val_six, inside_is, val_zero}

-- ---- signs of six numbers
abbrev sum : ℤ → ℤ → ℤ → ℤ
sum x y z = (x +ℤ y) +ℤ z

next : (x y z : ℤ) → sum y z x ≡ sum x y z
next x y z = omega (arith, ints)

without : (x y z : ℤ) → x +ℤ y ≡ z → y ≡ pos 0 → x ≡ z
without x y z e f = omega (arith, ints)

-- the numbers of the edges round a triangle, and of the lines from its corners to a place d of it
record Cut (ab bc ca ad bd cd : ℤ) : Type 0 where
  six : sum (ab *ℤ cd) (bc *ℤ ad) (ca *ℤ bd) ≡ pos 0
  all : pos 0 <ℤ sum ab bc ca
  one : pos 0 ≤ℤ ((ab +ℤ bd) -ℤ ad)
  two : pos 0 ≤ℤ ((bc +ℤ cd) -ℤ bd)
  three : pos 0 ≤ℤ ((ca +ℤ ad) -ℤ cd)
  at_a : ad ≡ pos 0 → (bd ≡ neg_ℤ ab) × (cd ≡ ca)
  at_b : bd ≡ pos 0 → (cd ≡ neg_ℤ bc) × (ad ≡ ab)
  at_c : cd ≡ pos 0 → (ad ≡ neg_ℤ ca) × (bd ≡ bc)

abbrev Above : ℤ → ℤ → ℤ → Type 0
Above a b c = (pos 0 <ℤ a) × (pos 0 <ℤ b) × (pos 0 <ℤ c)

-- the place is in the piece at the edge ab
abbrev in_piece : ℤ → ℤ → ℤ → Bool
in_piece ab ad bd = lt_z (pos 0) ab && (lt_z (pos 0) bd && lt_z ad (pos 0))

above : (ab ad bd : ℤ) → in_piece ab ad bd ≡ true → (pos 0 <ℤ ab) × (pos 0 <ℤ bd) × (pos 0 <ℤ neg_ℤ ad)
above ab ad bd e = grind (arith, ints)

module _ (ab bc ca ad bd cd : ℤ) (c : Cut ab bc ca ad bd cd) where
  turned : Cut bc ca ab bd cd ad
  turned =
      record {
        six = next (ab *ℤ cd) (bc *ℤ ad) (ca *ℤ bd) ∙ c.six;
        all = rw (next ab bc ca) c.all;
        one = c.two;
        two = c.three;
        three = c.one;
        at_a = c.at_b;
        at_b = c.at_c;
        at_c = c.at_a;
      }

  -- then it is in the triangle
  piece : in_piece ab ad bd ≡ true → Above ab bc ca
  piece e =
      let h = above ab ad bd e in
      let f : pos 0 <ℤ ((ab +ℤ bd) -ℤ ad) = omega (arith, ints) in
      let g : pos 0 ≤ℤ ab = omega (arith, ints) in (
        h.0,
        factor_pos _ bc _ _ _ _ (without _ _ _ (solve (ab ∷ bc ∷ ca ∷ ad ∷ bd ∷ cd ∷ []) ((S ⊗ v 1) ⊕ six) ((v 4 ⊗ ((v 0 ⊕ v 1) ⊕ v 2)) ⊕ (v 0 ⊗ ((v 1 ⊕ v 5) ⊖ v 4))) tt) c.six)
            f h.1 c.all g c.two,
        factor_pos _ ca _ _ _ _ (sym (without _ _ _ (solve (ab ∷ bc ∷ ca ∷ ad ∷ bd ∷ cd ∷ []) (((⊝ (v 3) ⊗ ((v 0 ⊕ v 1) ⊕ v 2)) ⊕ (v 0 ⊗ ((v 2 ⊕ v 3) ⊖ v 5))) ⊕ six) (S ⊗ v 2) tt) c.six))
            f h.2 c.all g c.three,
      )
    where
      S : Expr
      S = (v 0 ⊕ v 4) ⊖ v 3

      six : Expr
      six = ((v 0 ⊗ v 5) ⊕ (v 1 ⊗ v 3)) ⊕ (v 2 ⊗ v 4)

-- the corners are not all on one side of the lines from a place to d
not_above : (ab bc ca ad bd cd : ℤ) → sum (ab *ℤ cd) (bc *ℤ ad) (ca *ℤ bd) ≡ pos 0 → Above ab bc ca → Above ad bd cd → ⊥
not_above ab bc ca ad bd cd six p q = last _ _ _ six (mul_pos _ _ p.0 q.2) (mul_pos _ _ p.1 q.0) (mul_pos _ _ p.2 q.1)
  where
    last : (x y z : ℤ) → sum x y z ≡ pos 0 → pos 0 <ℤ x → pos 0 <ℤ y → pos 0 <ℤ z → ⊥
    last x y z e f g h = omega (arith, ints)

minus : (ab bc ca ad bd cd : ℤ) → sum (ab *ℤ neg_ℤ cd) (bc *ℤ neg_ℤ ad) (ca *ℤ neg_ℤ bd) ≡ neg_ℤ (sum (ab *ℤ cd) (bc *ℤ ad) (ca *ℤ bd))
minus ab bc ca ad bd cd =
    solve (ab ∷ bc ∷ ca ∷ ad ∷ bd ∷ cd ∷ [])
    (((v 0 ⊗ ⊝ (v 5)) ⊕ (v 1 ⊗ ⊝ (v 3))) ⊕ (v 2 ⊗ ⊝ (v 4))) (⊝ (((v 0 ⊗ v 5) ⊕ (v 1 ⊗ v 3)) ⊕ (v 2 ⊗ v 4))) tt

-- a place that is in the triangle is in one piece
signs : (ad bd cd : ℤ) → (Above ad bd cd → ⊥) → (Above (neg_ℤ ad) (neg_ℤ bd) (neg_ℤ cd) → ⊥) →
    (ad ≡ pos 0 → (bd <ℤ pos 0) × (pos 0 <ℤ cd)) → (bd ≡ pos 0 → (cd <ℤ pos 0) × (pos 0 <ℤ ad)) → (cd ≡ pos 0 → (ad <ℤ pos 0) × (pos 0 <ℤ bd)) →
    count (lt_z (pos 0) bd && lt_z ad (pos 0)) + count (lt_z (pos 0) cd && lt_z bd (pos 0)) + count (lt_z (pos 0) ad && lt_z cd (pos 0)) ≡ 1
signs ad bd cd f g l m n = grind (arith, ints)

in_one : (ab bc ca ad bd cd : ℤ) → Above ab bc ca → Cut ab bc ca ad bd cd → count (in_piece ab ad bd) + count (in_piece bc bd cd) + count (in_piece ca cd ad) ≡ 1
in_one ab bc ca ad bd cd t c =
    rw (is_above _ t.0, is_above _ t.1, is_above _ t.2)
    (signs ad bd cd (not_above ab bc ca ad bd cd c.six t)
    (not_above ab bc ca (neg_ℤ ad) (neg_ℤ bd) (neg_ℤ cd) (minus ab bc ca ad bd cd ∙ ap neg_ℤ c.six) t)
    (λ e. at_0 _ _ _ _ (c.at_a e) t.0 t.2) (λ e. at_0 _ _ _ _ (c.at_b e) t.1 t.0) (λ e. at_0 _ _ _ _ (c.at_c e) t.2 t.1))
  where
    at_0 : (x y z w : ℤ) → (y ≡ neg_ℤ x) × (z ≡ w) → pos 0 <ℤ x → pos 0 <ℤ w → (y <ℤ pos 0) × (pos 0 <ℤ z)
    at_0 x y z w e p q = omega (arith, ints)

counted : (p q r : Bool) (a b c : ℤ) → (p ≡ true → Above a b c) → (q ≡ true → Above a b c) → (r ≡ true → Above a b c) →
    (Above a b c → count p + count q + count r ≡ 1) → count p + count q + count r ≡ count (lt_z (pos 0) a && (lt_z (pos 0) b && lt_z (pos 0) c))
counted p q r a b c f g h i = grind (arith, ints)

cases : (ab bc ca ad bd cd : ℤ) → Cut ab bc ca ad bd cd →
    count (in_piece ab ad bd) + count (in_piece bc bd cd) + count (in_piece ca cd ad) ≡ count (lt_z (pos 0) ab && (lt_z (pos 0) bc && lt_z (pos 0) ca))
cases ab bc ca ad bd cd c =
    let d = turned ab bc ca ad bd cd c in
    counted _ _ _ _ _ _ (piece ab bc ca ad bd cd c)
    (λ e. let t = piece bc ca ab bd cd ad d e in (t.2, t.0, t.1))
    (λ e. let t = piece ca ab bc cd ad bd (turned bc ca ab bd cd ad d) e in (t.1, t.2, t.0))
    (λ t. in_one ab bc ca ad bd cd t c)

-- ---- the corners and the place
near : (p q : ℤ) (s : ℕ) → nat_abs p ≤ s → nat_abs q ≤ s → nat_abs (p -ℤ q) < suc (s + s)
near p q s h g = omega (arith, ints)

module _ (s : ℕ) (m : Place) where
  abbrev w : ℕ
  w = suc (s + s)

  abbrev Near : Place → Type 0
  Near p = (nat_abs p.x ≤ s) × (nat_abs p.y ≤ s)

  abbrev val_of : Place → Place → ℤ
  val_of p q = val (pos w) p q m

  there : (p q : Place) → Near p → Near q → inside p q m ≡ lt_z (pos 0) (val_of p q)
  there p q h g = inside_is w p q m (near p.y q.y s h.1 g.1) (near q.x p.x s g.0 h.0)

  back : (p q : Place) → Near p → Near q → inside q p m ≡ lt_z (val_of p q) (pos 0)
  back p q h g = there q p g h ∙ ap (λ (z : ℤ). lt_z (pos 0) z) (val_turned (pos w) q p m) ∙ flip (val_of p q)
    where
      flip : (z : ℤ) → lt_z (pos 0) (neg_ℤ z) ≡ lt_z z (pos 0)
      flip z = grind (arith, ints)

  at_end : (p d : Place) → Near p → Near d → (q r : Place) → val_of p d ≡ pos 0 → (val_of q d ≡ neg_ℤ (val_of p q)) × (val_of r d ≡ val_of r p)
  at_end p d h g q r e =
      let z = sym (val_zero w p d m (near p.y d.y s h.1 g.1) (near d.x p.x s g.0 h.0) e) in
      (ap (val_of q) z ∙ val_turned (pos w) q p m, ap (val_of r) z)

  not_less : (a b d : Place) → pos 0 ≤ℤ edge a b d → pos 0 ≤ℤ ((val_of a b +ℤ val_of b d) -ℤ val_of a d)
  not_less a b d h =
      let g : pos 0 ≤ℤ pos w = omega (arith, ints) in
      rw (← val_turned (pos w) d a m, val_round (pos w) a b d m) (mul_nonneg _ _ (mul_nonneg _ _ h g) g)

  pieces : (a b c d : Place) → Near a → Near b → Near c → Near d →
      pos 0 <ℤ edge a b c → pos 0 ≤ℤ edge a b d → pos 0 ≤ℤ edge b c d → pos 0 ≤ℤ edge c a d →
      count (inside a b m && (inside b d m && inside d a m)) + count (inside b c m && (inside c d m && inside d b m)) + count (inside c a m && (inside a d m && inside d c m))
      ≡ count (inside a b m && (inside b c m && inside c a m))
  pieces a b c d na nb nc nd all one two three =
      let wide : pos 0 <ℤ pos w = omega (arith, ints) in
      rw (
        there a b na nb,
        there b c nb nc,
        there c a nc na,
        there a d na nd,
        there b d nb nd,
        there c d nc nd,
        back a d na nd,
        back b d nb nd,
        back c d nc nd,
      )
      (cases (val_of a b) (val_of b c) (val_of c a) (val_of a d) (val_of b d) (val_of c d) (record {
        six = val_six (pos w) a b c d m;
        all = rw (val_round (pos w) a b c m) (mul_pos _ _ (mul_pos _ _ all wide) wide);
        one = not_less a b d one;
        two = not_less b c d two;
        three = not_less c a d three;
        at_a = at_end a d na nd b c;
        at_b = at_end b d nb nd c a;
        at_c = at_end c d nc nd a b;
      }))

pub once : Once
unfolding covers turns
once a b c d m =
    pieces (size a.at + size b.at + (size c.at + size d.at)) m a.at b.at c.at d.at
    (omega arith, omega arith) (omega arith, omega arith) (omega arith, omega arith) (omega arith, omega arith)
  where
    size : Place → ℕ
    size p = nat_abs p.x + nat_abs p.y
