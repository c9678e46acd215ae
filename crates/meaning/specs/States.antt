-- A dot after one more command of the code, and after one more triangle. Assumes nothing.
use Rattle.std.specs.Prelude.{◌≡◌, ℕ, cond, List, [], ◌∷◌, Option}
use Rattle.meaning.specs.declared.command.Command.{Command}
use Rattle.meaning.specs.declared.command.Command.TheVariants as kind
use Rattle.meaning.specs.declared.state.State.{State}
use Rattle.meaning.specs.Meaning.{Image, Triple, Instruction, pen, look, clear, triangles, show, in_frame, triple_at, image, step}
use Rattle.meaning.specs.Numbers.{header}

abbrev pub obeyed : ℕ → ℕ → State → Command → State
obeyed i j n (kind.Pen p) = record { pen = p; view = n.view; dot = n.dot }
obeyed i j n (kind.Look w) = record { pen = n.pen; view = w; dot = n.dot }
obeyed i j n (kind.Clear c z) = record { pen = n.pen; view = n.view; dot = cond (in_frame n.pen.frame i j) (record { colour = c; depth = z }) n.dot }
obeyed i j n (kind.Triangles k) = n
obeyed i j n kind.Show = n

abbrev pub painting : Option Image → Triple → ℕ → ℕ → State → State
painting t z i j n = record { pen = n.pen; view = n.view; dot = triple_at t n.pen n.view z i j n.dot }

-- all the triangles of a command, one after the other
abbrev pub all_painting : Option Image → List Triple → ℕ → ℕ → State → State
all_painting t [] i j n = n
all_painting t (z ∷ l) i j n = all_painting t l i j (painting t z i j n)

abbrev pub corners_of : Instruction → List Triple
corners_of (pen p) = []
corners_of (look w) = []
corners_of (clear c z) = []
corners_of (triangles l) = l
corners_of show = []

-- a command as it is read and then its triangles do what the command means
abbrev pub Obeys : Type 0
Obeys = (ts : List Image) (i j : ℕ) (n : State) (x : Instruction) → all_painting (image ts n.pen.texture) (corners_of x) i j (obeyed i j n (header x)) ≡ step ts i j n x
