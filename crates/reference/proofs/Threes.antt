-- A dot's colour has three parts, if every colour that the commands bring has.
-- Assumes nothing.
use Rattle.std.proofs.Common.{◌≡◌, ℕ, Bool, cond, List, [], ◌∷◌, length, Option, refl}
use Rattle.std.specs.List.{AllByRecursion}
use Rattle.std.proofs.lemmas.Bool.{cond_both}
use Rattle.meaning.specs.declared.geometry.Place.{Place}
use Rattle.meaning.specs.declared.points.Point.{Point}
use Rattle.meaning.specs.declared.pen.Pen.{Pen}
use Rattle.meaning.specs.declared.projection.View.{View}
use Rattle.meaning.specs.declared.state.Size.{Size}
use Rattle.meaning.specs.declared.state.Dot.{Dot}
use Rattle.meaning.specs.declared.state.State.{State}
use Rattle.meaning.specs.Meaning.{Image, Triple, Instruction, pen, look, clear, triangles, show, depth_at, in_frame, passes, part_of, painted, all_three, step, after}
use Rattle.meaning.specs.Fits.{InstructionFits}
use Rattle.meaning.proofs.Order.{all_keep}
use Rattle.meaning.proofs.Depths.{at_dot_both}

abbrev pub Three : Dot → Type 0
Three d = length d.colour ≡ 3

pub three_cond : (b : Bool) (x y : Dot) → Three x → Three y → Three (cond b x y)
three_cond b x y h g = cond_both b x y Three (λ _. h) (λ _. g)

three_painted : (t : Option Image) (p : Pen) (a b c : Point) (m : Place) (d : Dot) → Three d → Three (painted t p a b c m d)
unfolding painted
three_painted t p a b c m d h =
    three_cond (passes p.test (depth_at a b c m) d.depth)
    (record { colour = part_of t p a b c m d 0 ∷ part_of t p a b c m d 1 ∷ part_of t p a b c m d 2 ∷ []; depth = cond p.keeps (depth_at a b c m) d.depth })
    d refl h

pub three_all : (t : Option Image) (p : Pen) (w : View) (l : List Triple) (i j : ℕ) (d : Dot) → Three d → Three (all_three t p w l i j d)
three_all t p w l i j d h = all_keep t p i j Three (λ a b c e g. at_dot_both t p a b c i j e Three g (λ _ _. three_painted t p a c b _ e g) (λ _ _. three_painted t p a b c _ e g)) w l d h

three_step : (ts : List Image) (s : Size) (i j : ℕ) (n : State) (c : Instruction) → InstructionFits s ts c → Three n.dot → Three (step ts i j n c).dot
unfolding step
three_step ts s i j n (pen p) f h = h
three_step ts s i j n (look w) f h = h
three_step ts s i j n (clear c z) f h = three_cond (in_frame n.pen.frame i j) (record { colour = c; depth = z }) n.dot f.0 h
three_step ts s i j n (triangles l) f h = three_all _ n.pen n.view l i j n.dot h
three_step ts s i j n show f h = h

pub three_after : (ts : List Image) (s : Size) (i j : ℕ) (n : State) (cs : List Instruction) → AllByRecursion (InstructionFits s ts) cs → Three n.dot → Three (after ts i j n cs).dot
unfolding after
three_after ts s i j n [] f h = h
three_after ts s i j n (c ∷ cs) f h = three_after ts s i j (step ts i j n c) cs f.1 (three_step ts s i j n c f.0 h)
