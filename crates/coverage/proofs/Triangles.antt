-- The sides of a triangle's three edges from dot to dot.
-- Assumes nothing.
use Rattle.std.proofs.Common.{◌≡◌, ℕ, ◌+◌, ◌^◌, ◌<◌, ◌≤◌, true, false, ◌&&◌, ℤ, ◌+ℤ◌, Option, sym, ◌∙◌, inl, inr, arith}
use lib.Signed.{le_z, mag}
use Rattle.std.proofs.lemmas.Bool.{or_cases, and_left, and_right, cond-false}
use Rattle.meaning.specs.declared.geometry.Place.{Place}
use Rattle.meaning.specs.declared.pen.Pen.{Pen}
use Rattle.meaning.specs.declared.state.Dot.{Dot}
use Rattle.meaning.specs.Meaning.{Image, edge, inside, covers, middle, if_covered}
use Rattle.meaning.specs.Fits.{PlaceFits}
use Rattle.meaning.specs.declared.triangle.Triangle.{Triangle}
use Rattle.setup.specs.Ready.{Sound}
use Rattle.coverage.specs.declared.per_edge.PerEdge.{PerEdge}
use Rattle.coverage.specs.Steps.{across_gain, down_gain, least_side, past_one, Steps, Gains}
use Rattle.coverage.specs.Walks.{SeenFrom, Fit, plus, within, past}
use Rattle.coverage.proofs.OneEdge.{edge_across, edge_down, edge_fits, inside_is, outside_on}

module _ (t : Triangle) where
  -- what is seen from a dot fits
  pub seen_fit : Sound t → (i j : ℕ) (s : PerEdge) → i ≤ 65536 → j ≤ 65536 → SeenFrom t (middle i j) s → Fit s
  seen_fit o i j s hi hj x =
      record {
        ab = small t.a.at t.b.at s.ab o.placed.a o.placed.b x.ab;
        bc = small t.b.at t.c.at s.bc o.placed.b o.placed.c x.bc;
        ca = small t.c.at t.a.at s.ca o.placed.c o.placed.a x.ca;
      }
    where
      small : (p q : Place) (z : ℤ) → PlaceFits p → PlaceFits q → z ≡ edge p q (middle i j) → mag z < 2 ^ 63
      small p q z fp fq e = let h = edge_fits p q fp fq i j hi hj in rw e (omega arith)

  module _ {across down least : PerEdge} (k : Gains t across down least) where
    pub seen_across : (i j : ℕ) (s : PerEdge) → SeenFrom t (middle i j) s → SeenFrom t (middle (i + 1) j) (plus s across)
    seen_across i j s x =
        record {
          ab = step t.a.at t.b.at across.ab k.ab.across_is s.ab x.ab;
          bc = step t.b.at t.c.at across.bc k.bc.across_is s.bc x.bc;
          ca = step t.c.at t.a.at across.ca k.ca.across_is s.ca x.ca;
        }
      where
        step : (p q : Place) (d : ℤ) → d ≡ across_gain p q → (z : ℤ) → z ≡ edge p q (middle i j) → z +ℤ d ≡ edge p q (middle (i + 1) j)
        step p q d h z y = (λ n. y n +ℤ h n) ∙ sym (edge_across p q i j)

    pub seen_down : (i j : ℕ) (s : PerEdge) → SeenFrom t (middle i j) s → SeenFrom t (middle i (j + 1)) (plus s down)
    seen_down i j s x =
        record {
          ab = step t.a.at t.b.at down.ab k.ab.down_is s.ab x.ab;
          bc = step t.b.at t.c.at down.bc k.bc.down_is s.bc x.bc;
          ca = step t.c.at t.a.at down.ca k.ca.down_is s.ca x.ca;
        }
      where
        step : (p q : Place) (d : ℤ) → d ≡ down_gain p q → (z : ℤ) → z ≡ edge p q (middle i j) → z +ℤ d ≡ edge p q (middle i (j + 1))
        step p q d h z y = (λ n. y n +ℤ h n) ∙ sym (edge_down p q i j)

    pub covers_is : (m : Place) (s : PerEdge) → SeenFrom t m s → covers t.a t.b t.c m ≡ within least s
    unfolding covers
    covers_is m s x =
        λ n.
        one t.a.at t.b.at least.ab k.ab.least_is s.ab x.ab n
        && (one t.b.at t.c.at least.bc k.bc.least_is s.bc x.bc n && one t.c.at t.a.at least.ca k.ca.least_is s.ca x.ca n)
      where
        one : (p q : Place) (l : ℤ) → l ≡ least_side p q → (z : ℤ) → z ≡ edge p q m → inside p q m ≡ le_z l z
        one p q l h z y = rw (y, h) (inside_is p q m)

    -- nothing more is covered in the row
    pub past_all : (i j : ℕ) (s : PerEdge) → SeenFrom t (middle i j) s → past across least s ≡ true → (a : ℕ) → i ≤ a → covers t.a t.b t.c (middle a j) ≡ false
    unfolding covers
    past_all i j s x h a ia =
        elim (or_cases _ _ h) [
          | inl y ↦ and_left _ _ (gone t.a.at t.b.at across.ab down.ab least.ab k.ab s.ab x.ab y)
          | inr z ↦
              and_right (inside t.a.at t.b.at (middle a j)) _
              (elim (or_cases _ _ z) [
                | inl y ↦ and_left _ _ (gone t.b.at t.c.at across.bc down.bc least.bc k.bc s.bc x.bc y)
                | inr y ↦ and_right (inside t.b.at t.c.at (middle a j)) _ (gone t.c.at t.a.at across.ca down.ca least.ca k.ca s.ca x.ca y)
              ])
        ]
      where
        gone : (p q : Place) (d under l : ℤ) → Steps p q d under l → (z : ℤ) → z ≡ edge p q (middle i j) → past_one d l z ≡ true → inside p q (middle a j) ≡ false
        gone p q d under l h z y g = outside_on p q i j (rw (y, h.across_is, h.least_is) at g) a ia

-- a dot that is not covered stays as it is
pub stays : (x : Option Image) (p : Pen) (t : Triangle) (m : Place) (d : Dot) → covers t.a t.b t.c m ≡ false → if_covered x p t.a t.b t.c m d ≡ d
unfolding if_covered
stays x p t m d h = cond-false _ _ _ h
