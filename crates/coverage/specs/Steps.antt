-- How the sides of places change from dot to dot.
-- Assumes nothing: these are definitions.
use Rattle.std.specs.Prelude.{◌≡◌, Bool, cond, ◌&&◌, ℤ, pos, ◌-ℤ◌, ◌*ℤ◌, int_le, int_lt}
use Rattle.meaning.specs.declared.geometry.Place.{Place}
use Rattle.meaning.specs.Meaning.{owns}
use Rattle.meaning.specs.declared.triangle.Triangle.{Triangle}
use Rattle.coverage.specs.declared.per_edge.PerEdge.{PerEdge}

-- what the side of a dot's middle for the edge from p to q gains at the next dot of the row, and at the dot below
abbrev pub across_gain : Place → Place → ℤ
across_gain p q = pos 256 *ℤ (p.y -ℤ q.y)

abbrev pub down_gain : Place → Place → ℤ
down_gain p q = pos 256 *ℤ (q.x -ℤ p.x)

-- the least side of a place inside
abbrev pub least_side : Place → Place → ℤ
least_side p q = cond (owns p q) (pos 0) (pos 1)

-- whether a place with the side z is outside, and the row does not come nearer to the edge
abbrev pub past_one : ℤ → ℤ → ℤ → Bool
past_one across least z = int_lt z least && int_le across (pos 0)

-- the numbers of the edge from p to q
pub record Steps (p q : Place) (across down least : ℤ) : Type 0 where
  pub across_is : across ≡ across_gain p q
  pub down_is : down ≡ down_gain p q
  pub least_is : least ≡ least_side p q

-- those of a triangle's edges
pub record Gains (t : Triangle) (across down least : PerEdge) : Type 0 where
  pub ab : Steps t.a.at t.b.at across.ab down.ab least.ab
  pub bc : Steps t.b.at t.c.at across.bc down.bc least.bc
  pub ca : Steps t.c.at t.a.at across.ca down.ca least.ca
