-- Lists of commands, and of triangles, in two parts; what each triangle keeps; and a triangle's corners in another order.
-- Assumes nothing.
use Rattle.std.proofs.Common.{◌≡◌, ℕ, ◌+◌, ◌*◌, Bool, true, false, ◌&&◌, List, [], ◌∷◌, get_or, Some, None, Option, refl, arith}
use lib.Signed.{mag}
use Rattle.fixed_point.proofs.Ring.{solve}
use Rattle.meaning.specs.declared.geometry.Place.{Place}
use Rattle.meaning.specs.declared.points.Point.{Point}
use Rattle.meaning.specs.declared.projection.View.{View}
use Rattle.meaning.specs.declared.pen.Pen.{Pen}
use Rattle.meaning.specs.declared.state.Dot.{Dot}
use Rattle.meaning.specs.Meaning.{Image, Triple, edge, inside, turns, covers, blended, brings, part_of, painted, if_covered, middle, at_dot, seen_three, triple_at, all_three, step, after}
use Rattle.meaning.specs.Laws.{CommandsInOrder, TrianglesInOrder, Turned}
use Rattle.meaning.proofs.Sides.{coordinates, E}

pub commands_in_order : CommandsInOrder
unfolding after
commands_in_order ts i j n [] ds = refl
commands_in_order ts i j n (c ∷ cs) ds = commands_in_order ts i j (step ts i j n c) cs ds

pub triangles_in_order : TrianglesInOrder
unfolding all_three
triangles_in_order t p w [] l i j d = refl
triangles_in_order t p w (z ∷ k) l i j d = triangles_in_order t p w k l i j (triple_at t p w z i j d)

-- ---- what each triangle keeps, a list of them keeps
module _ (t : Option Image) (p : Pen) (i j : ℕ) (P : Dot → Type 0) (keeps : (a b c : Point) (d : Dot) → P d → P (at_dot t p a b c i j d)) where
  three_keep : (q r s : Option Point) (d : Dot) → P d → P (seen_three t p q r s i j d)
  unfolding seen_three
  three_keep None r s d h = h
  three_keep (Some a) None s d h = h
  three_keep (Some a) (Some b) None d h = h
  three_keep (Some a) (Some b) (Some c) d h = keeps a b c d h

  pub all_keep : (w : View) (l : List Triple) (d : Dot) → P d → P (all_three t p w l i j d)
  unfolding all_three triple_at
  all_keep w [] d h = h
  all_keep w (z ∷ l) d h = all_keep w l _ (three_keep _ _ _ d h)

-- ---- the corners in another order
turns_next : (a b c : Point) → turns a b c ≡ turns b c a
unfolding turns edge
turns_next a b c = solve (coordinates (a.at ∷ b.at ∷ c.at ∷ [])) (E 0 1 2) (E 1 2 0) tt

covers_next : (a b c : Point) (m : Place) → covers a b c m ≡ covers b c a m
unfolding covers
covers_next a b c m = next (inside a.at b.at m) (inside b.at c.at m) (inside c.at a.at m)
  where
    next : (l m n : Bool) → l && (m && n) ≡ m && (n && l)
    next true true true = refl
    next true true false = refl
    next true false n = refl
    next false true true = refl
    next false true false = refl
    next false false n = refl

module _ (a b c : Point) (m : Place) where
  blended_next : (f g h : ℕ) → blended a b c m f g h ≡ blended b c a m g h f
  unfolding blended
  blended_next f g h =
      cc (turns_next a b c, around (mag (edge b.at c.at m) * f) (mag (edge c.at a.at m) * g) (mag (edge a.at b.at m) * h))
    where
      around : (l m n : ℕ) → l + m + n ≡ m + n + l
      around l m n = omega arith

  brings_next : (t : Option Image) (n : ℕ) → brings t a b c m n ≡ brings t b c a m n
  unfolding brings
  brings_next t n = cc (blended_next (get_or a.colour n 0) (get_or b.colour n 0) (get_or c.colour n 0), blended_next a.u b.u c.u, blended_next a.v b.v c.v)

  if_covered_next : (t : Option Image) (p : Pen) (d : Dot) → if_covered t p a b c m d ≡ if_covered t p b c a m d
  unfolding if_covered painted part_of
  if_covered_next t p d =
      cc (covers_next a b c m, blended_next a.depth b.depth c.depth, brings_next t 0, brings_next t 1, brings_next t 2, brings_next t 3)

pub turned : Turned
unfolding at_dot
turned t p a b c i j d =
    cc (turns_next a b c, if_covered_next a b c (middle i j) t p d, if_covered_next a c b (middle i j) t p d, if_covered_next c b a (middle i j) t p d)
