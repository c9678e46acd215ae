-- What a picture and what is shown hold on the way through a list of commands.
-- Assumes nothing: these are definitions.
use Rattle.std.specs.Prelude.{◌≡◌, ℕ, ◌+◌, ◌*◌, ◌<◌, ◌≤◌, Bool, cond, ◌&&◌, List, [], ◌∷◌, ◌++◌, length, ◌==◌, nat_lt, slice_index, slice_index_or}
use Rattle.meaning.specs.declared.pen.Pen.{Pen}
use Rattle.meaning.specs.declared.projection.View.{View}
use Rattle.meaning.specs.declared.state.Size.{Size}
use Rattle.meaning.specs.declared.state.Dot.{Dot}
use Rattle.meaning.specs.declared.state.State.{State}
use Rattle.meaning.specs.Meaning.{Image, Instruction, pen, look, clear, triangles, show, step, after, begin}
use Rattle.codec.specs.Shows.{shows}
use Rattle.reference.specs.Boxes.{Colours, Depths}

-- a dot before what a command shows of it
abbrev pub at_show : Instruction → Dot → List Dot → List Dot
at_show (pen p) d l = l
at_show (look w) d l = l
at_show (clear c z) d l = l
at_show (triangles t) d l = l
at_show show d l = d ∷ l

-- dot (i, j) at each show
unfoldable pub seen_dots : List Image → ℕ → ℕ → State → List Instruction → List Dot
seen_dots ts i j n [] = []
seen_dots ts i j n (c ∷ cs) = at_show c n.dot (seen_dots ts i j (step ts i j n c) cs)

abbrev pub no_dot : Dot
no_dot = record { colour = []; depth = 0 }

-- pictures of h rows of w dots one after another: of the first n of them the dots of the region R are V, and all others are as before
abbrev pub Pictures : ℕ → ℕ → ℕ → (ℕ → ℕ → Bool) → (ℕ → ℕ → ℕ → ℕ → ℕ) → List ℕ → List ℕ → Type 0
Pictures w h n R V old new =
    (q i j c : ℕ) → i < w → j < h → c < 3 →
    slice_index new (((q * h + j) * w + i) * 3 + c) ≡ cond (nat_lt q n && R i j) (V q i j c) (slice_index old (((q * h + j) * w + i) * 3 + c))

-- of picture n the dots of the region R are those of C, and all others are as before
abbrev pub OnePicture : ℕ → ℕ → ℕ → (ℕ → ℕ → Bool) → List ℕ → List ℕ → List ℕ → Type 0
OnePicture w h n R C old new =
    (q i j c : ℕ) → i < w → j < h → c < 3 →
    slice_index new (((q * h + j) * w + i) * 3 + c) ≡ cond (q == n && R i j) (slice_index C ((j * w + i) * 3 + c)) (slice_index old (((q * h + j) * w + i) * 3 + c))

-- the commands were done for the dots of a region, and the others are as before
pub record Region (ts : List Image) (s : Size) (cs : List Instruction) (R : ℕ → ℕ → Bool) (C D S C' D' S' : List ℕ) : Type 0 where
  pub colours : Colours s.width R (λ i j c. slice_index (after ts i j (begin s) cs).dot.colour c) C C'
  pub depths : Depths s.width R (λ i j. (after ts i j (begin s) cs).dot.depth) D D'
  pub shown : Pictures s.width s.height (shows cs) R (λ q i j c. slice_index (slice_index_or (seen_dots ts i j (begin s) cs) q no_dot).colour c) S S'

-- some of the commands cs were done for the dots of a region, with `left` to come; n pictures were shown, and p and v are the pen and the view
pub record Through (ts : List Image) (s : Size) (cs : List Instruction) (R : ℕ → ℕ → Bool) (C D S : List ℕ) (left : List Instruction) (p : Pen) (v : View) (n : ℕ) (C' D' S' : List ℕ) : Type 0 where
  pub at : ℕ → ℕ → State
  pub were : ℕ → ℕ → List Dot
  pub pens : (i j : ℕ) → (at i j).pen ≡ p
  pub views : (i j : ℕ) → (at i j).view ≡ v
  pub threes : (i j : ℕ) → length (at i j).dot.colour ≡ 3
  pub long : (i j : ℕ) → length (were i j) ≡ n
  pub many : n + shows left ≡ shows cs
  pub rest : (i j : ℕ) → after ts i j (begin s) cs ≡ after ts i j (at i j) left
  pub seen : (i j : ℕ) → seen_dots ts i j (begin s) cs ≡ were i j ++ seen_dots ts i j (at i j) left
  pub colours : Colours s.width R (λ i j c. slice_index (at i j).dot.colour c) C C'
  pub depths : Depths s.width R (λ i j. (at i j).dot.depth) D D'
  pub shown : Pictures s.width s.height n R (λ q i j c. slice_index (slice_index_or (were i j) q no_dot).colour c) S S'

-- there is room for a picture
pub record PictureRoom (s : Size) (C D : List ℕ) : Type 0 where
  pub colours : (s.height * s.width) * 3 ≤ length C
  pub depths : s.height * s.width ≤ length D

-- there is room for the picture, and for n pictures that are shown
pub record Room (s : Size) (n : ℕ) (C D S : List ℕ) : Type 0 where
  pub colours : (s.height * s.width) * 3 ≤ length C
  pub depths : s.height * s.width ≤ length D
  pub shown : ((n * s.height) * s.width) * 3 ≤ length S
