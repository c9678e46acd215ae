-- What a triangle that was made ready stands for.
-- Assumes nothing: these are definitions.
use Rattle.std.specs.Prelude.{◌≡◌, ℕ, true, cond, ◌&&◌, [], ◌∷◌, pos, ◌<ℤ◌, Option}
use Rattle.meaning.specs.declared.pen.Pen.{Pen}
use Rattle.meaning.specs.declared.pen.Frame.{Frame}
use Rattle.meaning.specs.declared.points.Point.{Point}
use Rattle.meaning.specs.declared.projection.View.{View}
use Rattle.meaning.specs.declared.state.Dot.{Dot}
use Rattle.meaning.specs.declared.triangle.Triangle.{Triangle}
use Rattle.meaning.specs.Meaning.{Image, Triple, turns, middle, in_frame, if_covered, at_dot, triple_at}
use Rattle.meaning.specs.Fits.{PlaceFits}
use Rattle.setup.specs.declared.triangle.ReadyTriangle.{ReadyTriangle}
use Rattle.setup.specs.Boxes.{boxed}

-- its points lie where points may, even where it paints nothing
pub record Placed (t : Triangle) : Type 0 where
  pub a : PlaceFits t.a.at
  pub b : PlaceFits t.b.at
  pub c : PlaceFits t.c.at

-- its points lie where points may, and go round with the clock
pub record Sound (t : Triangle) : Type 0 where
  pub placed : Placed t
  pub clockwise : pos 0 <ℤ turns t.a t.b t.c

-- what a triangle makes of a dot of its frame, and none of the others
abbrev pub does : Option Image → Pen → ReadyTriangle → ℕ → ℕ → Dot → Dot
does x p r i j d = cond (in_frame r.frame i j) (if_covered x p r.triangle.a r.triangle.b r.triangle.c (middle i j) d) d

-- it does to every dot what the three corners do under the pen and the view
pub record Stands (p : Pen) (v : View) (z : Triple) (r : ReadyTriangle) : Type 0 where
  pub is : (x : Option Image) (i j : ℕ) (d : Dot) → triple_at x p v z i j d ≡ does x p r i j d
  pub sound : (i j : ℕ) → in_frame r.frame i j ≡ true → Sound r.triangle

-- ---- on the way there

-- a triangle that paints nothing
abbrev nowhere : Point
nowhere = record { at = record { x = pos 0; y = pos 0 }; depth = 0; u = 0; v = 0; colour = 0 ∷ 0 ∷ 0 ∷ 0 ∷ [] }

abbrev pub nothing : ReadyTriangle
nothing = record { triangle = record { a = nowhere; b = nowhere; c = nowhere }; frame = record { left = 0; top = 0; right = 0; bottom = 0 } }

-- the triangle with the dots of the frame f in its box
pub record Round (t : Triangle) (f : Frame) (r : ReadyTriangle) : Type 0 where
  pub triangle_is : r.triangle ≡ t
  pub frame_is : (i j : ℕ) → in_frame r.frame i j ≡ (in_frame f i j && boxed t.a.at t.b.at t.c.at (middle i j))

-- it does to every dot what the triangle does under the pen
pub record On (p : Pen) (t : Triangle) (r : ReadyTriangle) : Type 0 where
  pub is : (x : Option Image) (i j : ℕ) (d : Dot) → at_dot x p t.a t.b t.c i j d ≡ does x p r i j d
  pub sound : (i j : ℕ) → in_frame r.frame i j ≡ true → Sound r.triangle
  pub placed : Placed r.triangle
