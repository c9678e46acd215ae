-- A frame that was cut to the picture has the same dots of it.
-- Assumes nothing.
use mathlib.Core.Path.{◌≡◌, ap}
use mathlib.Core.Bool.{◌&&◌}
use mathlib.Core.List.{List}
use mathlib.Core.Logic.{◌⊎◌, inl, inr}
use Prim.Native.Nat.{ℕ, ◌+◌, ◌*◌, ◌<◌, ◌≤◌}
use native.Mathlib.Nat.{add-mul}
use native.Mathlib.Omega.{arith}
use Rattle.meaning.specs.declared.pen.Frame.{Frame}
use Rattle.meaning.specs.Meaning.{in_frame}
use Rattle.reference.specs.Boxes.{in_box, Colours, Depths}
use Rattle.reference.specs.Shows.{OnePicture}
use Rattle.reference.proofs.Rows.{row_below}
use Rattle.tile.specs.Frames.{Part}

-- row j of a picture of h rows ends within it
pub row_room : (w h j v : ℕ) → v ≡ w → j < h → j * v + v ≤ h * w
row_room w h j v e jh = omega (arith, row_below v j h jh, ap (λ (x : ℕ). h * x) e)

-- so does a row of picture n, among n + 1 of them
pub picture_row : (n h j m k : ℕ) → m ≡ n → k ≡ h → j < h → m * k + j < (n + 1) * h
picture_row n h j m k e f jh = let p : m * k ≡ n * h = λ x. e x * f x in omega (arith, add-mul n 1 h)

module _ (w h : ℕ) (f : Frame) (l t r b : ℕ) (x : Part w f.left f.right l r) (y : Part h f.top f.bottom t b) where
  same_dots : (i j : ℕ) → i < w → (j < h) ⊎ (f.bottom ≤ h) → in_box l t r b i j ≡ in_frame f i j
  same_dots i j iw jh = λ k. x.is i (inl iw) k && y.is j jh k

  pub colours_cut : (V : ℕ → ℕ → ℕ → ℕ) (old new : List ℕ) → f.bottom ≤ h → Colours w (in_box l t r b) V old new → Colours w (in_frame f) V old new
  colours_cut V old new inside o i j c iw c3 = rw (← same_dots i j iw (inr inside)) (o i j c iw c3)

  pub depths_cut : (V : ℕ → ℕ → ℕ) (old new : List ℕ) → f.bottom ≤ h → Depths w (in_box l t r b) V old new → Depths w (in_frame f) V old new
  depths_cut V old new inside o i j iw = rw (← same_dots i j iw (inr inside)) (o i j iw)

  pub picture_cut : (n : ℕ) (src old new : List ℕ) → OnePicture w h n (in_box l t r b) src old new → OnePicture w h n (in_frame f) src old new
  picture_cut n src old new o q i j c iw jh c3 = rw (← same_dots i j iw (inl jh)) (o q i j c iw jh c3)
