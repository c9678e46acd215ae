-- Laws about the meaning. Each is a statement, a type whose proof is owed by the public function that promises it.
-- Assumes nothing.
use Rattle.std.specs.Prelude.{◌≡◌, ℕ, ◌+◌, ◌<◌, ◌≤◌, Bool, false, cond, not, ◌⊎◌, List, ◌++◌, pos, ◌+ℤ◌, ◌-ℤ◌, ◌*ℤ◌, ◌≤ℤ◌, ◌<ℤ◌, Option}
use Rattle.meaning.specs.declared.geometry.Place.{Place}
use Rattle.meaning.specs.declared.points.Point.{Point}
use Rattle.meaning.specs.declared.projection.View.{View}
use Rattle.meaning.specs.declared.pen.Pen.{Pen}
use Rattle.meaning.specs.declared.state.Dot.{Dot}
use Rattle.meaning.specs.declared.state.State.{State}
use Rattle.meaning.specs.Meaning.{Image, Triple, Instruction, edge, inside, covers, turns, at_dot, all_three, step, after, in_frame, clear, triangles}
use Rattle.meaning.specs.Numbers.{test_number}

-- ---- no cracks and no double dots

-- of an edge taken both ways every place is on just one side
abbrev pub OneSide : Type 0
OneSide = (p q m : Place) → ((p.x ≡ q.x) × (p.y ≡ q.y) → ⊥) → inside p q m ≡ not (inside q p m)

-- a place on the edge from p to q, between its two ends
abbrev pub Between : Place → Place → Place → Type 0
Between p q m =
    (edge p q m ≡ pos 0)
    × (pos 0 <ℤ (((m.x -ℤ p.x) *ℤ (q.x -ℤ p.x)) +ℤ ((m.y -ℤ p.y) *ℤ (q.y -ℤ p.y))))
    × (pos 0 <ℤ (((q.x -ℤ m.x) *ℤ (q.x -ℤ p.x)) +ℤ ((q.y -ℤ m.y) *ℤ (q.y -ℤ p.y))))

-- 1 for a place that is in, 0 for one that is not
abbrev pub count : Bool → ℕ
count b = cond b 1 0

-- two triangles on both sides of an edge: exactly one has each place on it between its two ends
abbrev pub BothSides : Type 0
BothSides =
    (p q r s : Point) (m : Place) → pos 0 <ℤ turns p q r → pos 0 <ℤ turns q p s → Between p.at q.at m →
    count (covers p q r m) + count (covers q p s m) ≡ 1

-- a triangle a b c that is cut at a place d of it, inside, on an edge or at a corner: every place is in just as many pieces as in the triangle
abbrev pub Once : Type 0
Once =
    (a b c d : Point) (m : Place) → pos 0 <ℤ turns a b c → pos 0 ≤ℤ turns a b d → pos 0 ≤ℤ turns b c d → pos 0 ≤ℤ turns c a d →
    count (covers a b d m) + count (covers b c d m) + count (covers c a d m) ≡ count (covers a b c m)

-- ---- order

-- a list of commands in two parts does as both one after the other
abbrev pub CommandsInOrder : Type 0
CommandsInOrder = (ts : List Image) (i j : ℕ) (n : State) (cs ds : List Instruction) → after ts i j n (cs ++ ds) ≡ after ts i j (after ts i j n cs) ds

-- and so does a list of triangles
abbrev pub TrianglesInOrder : Type 0
TrianglesInOrder =
    (t : Option Image) (p : Pen) (w : View) (k l : List Triple) (i j : ℕ) (d : Dot) →
    all_three t p w (k ++ l) i j d ≡ all_three t p w l i j (all_three t p w k i j d)

-- corners in another order, round the same way, paint the same
abbrev pub Turned : Type 0
Turned = (t : Option Image) (p : Pen) (a b c : Point) (i j : ℕ) (d : Dot) → at_dot t p a b c i j d ≡ at_dot t p b c a i j d

-- ---- depth and frame

-- with tests 1 and 2 triangles bring depths only nearer: one triangle, and a command of them
abbrev pub Nearer : Type 0
Nearer =
    (t : Option Image) (p : Pen) (a b c : Point) (i j : ℕ) (d : Dot) → (test_number p.test ≡ 1) ⊎ (test_number p.test ≡ 2) →
    (at_dot t p a b c i j d).depth ≤ d.depth

abbrev pub AllNearer : Type 0
AllNearer =
    (ts : List Image) (i j : ℕ) (n : State) (l : List Triple) → (test_number n.pen.test ≡ 1) ⊎ (test_number n.pen.test ≡ 2) →
    (step ts i j n (triangles l)).dot.depth ≤ n.dot.depth

-- outside the frame nothing changes
abbrev pub Framed : Type 0
Framed =
    (ts : List Image) (i j : ℕ) (n : State) → in_frame n.pen.frame i j ≡ false →
    ((l : List Triple) → (step ts i j n (triangles l)).dot ≡ n.dot) × ((c : List ℕ) (z : ℕ) → (step ts i j n (clear c z)).dot ≡ n.dot)

-- no dot of a tile is farther than `far`, and under test 1 no corner is nearer than that, or under test 2 all are farther: nothing is painted
abbrev pub Behind : Pen → Point → Point → Point → ℕ → Type 0
Behind p a b c far =
    ((test_number p.test ≡ 1) × (far ≤ a.depth) × (far ≤ b.depth) × (far ≤ c.depth))
    ⊎ ((test_number p.test ≡ 2) × (far < a.depth) × (far < b.depth) × (far < c.depth))

abbrev pub LeftOut : Type 0
LeftOut =
    (t : Option Image) (p : Pen) (a b c : Point) (far i j : ℕ) (d : Dot) → d.depth ≤ far → Behind p a b c far →
    at_dot t p a b c i j d ≡ d
