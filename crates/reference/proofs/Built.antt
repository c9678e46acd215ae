-- A command of a kind that there is has no triangles, so it is done once it is obeyed.
-- Assumes nothing.
use Rattle.std.proofs.Common.{◌≡◌, ℕ, true, List, [], refl, subst}
use borrow.Author.Tests.{clash}
use Rattle.meaning.specs.declared.state.State.{State}
use Rattle.meaning.specs.Meaning.{Image, Triple, Instruction, pen, look, clear, triangles, show, image, step}
use Rattle.meaning.specs.Numbers.{header}
use Rattle.meaning.specs.States.{obeyed, all_painting, corners_of}
use Rattle.meaning.proofs.Obeying.{obeys}
use Rattle.codec.specs.Judged.{kind_of}
use Rattle.codec.specs.Kinds.{built_yet}

no_corners : (c : Instruction) → built_yet (kind_of c) ≡ true → corners_of c ≡ []
no_corners (pen p) h = refl
no_corners (look w) h = refl
no_corners (clear rgb z) h = refl
no_corners (triangles l) h = absurd (clash h)
no_corners show h = refl

pub obeyed_all : (ts : List Image) (i j : ℕ) (n : State) (c : Instruction) → built_yet (kind_of c) ≡ true → obeyed i j n (header c) ≡ step ts i j n c
obeyed_all ts i j n c h =
    subst (λ (l : List Triple). all_painting (image ts n.pen.texture) l i j (obeyed i j n (header c)) ≡ step ts i j n c) (no_corners c h) (obeys ts i j n c)
