-- A command as it is read, and then its triangles, do what the command means.
-- Assumes nothing.
use Rattle.std.proofs.Common.{◌≡◌, ℕ, List, [], ◌∷◌, Option, refl}
use Rattle.meaning.specs.declared.state.State.{State}
use Rattle.meaning.specs.Meaning.{Image, Triple, pen, look, clear, triangles, show, all_three, step}
use Rattle.meaning.specs.States.{painting, all_painting, Obeys}

pub all_painted : (t : Option Image) (l : List Triple) (i j : ℕ) (n : State) →
    all_painting t l i j n ≡ record { pen = n.pen; view = n.view; dot = all_three t n.pen n.view l i j n.dot }
unfolding all_three
all_painted t [] i j n = refl
all_painted t (z ∷ l) i j n = all_painted t l i j (painting t z i j n)

pub obeys : Obeys
unfolding step
obeys ts i j n (pen p) = refl
obeys ts i j n (look w) = refl
obeys ts i j n (clear c z) = refl
obeys ts i j n (triangles l) = all_painted _ l i j n
obeys ts i j n show = refl
