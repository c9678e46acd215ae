-- What a file can hold: the bounds of all numbers and lists in it.
-- Assumes nothing: these are definitions.
use Rattle.std.specs.Prelude.{◌≡◌, ℕ, ◌+◌, ◌*◌, ◌^◌, ◌<◌, ◌≤◌, List, length, ℤ}
use Rattle.std.specs.Int.Signed.{mag}
use Rattle.std.specs.List.{AllByRecursion}
use Rattle.meaning.specs.declared.geometry.Place.{Place}
use Rattle.meaning.specs.declared.points.Corner.{Corner}
use Rattle.meaning.specs.declared.projection.Row.{Row}
use Rattle.meaning.specs.declared.projection.View.{View}
use Rattle.meaning.specs.declared.pen.Frame.{Frame}
use Rattle.meaning.specs.declared.pen.Pen.{Pen}
use Rattle.meaning.specs.declared.state.Size.{Size}
use Rattle.meaning.specs.Meaning.{Image, Triple, Instruction, pen, look, clear, triangles, show}

-- a is from -n to n - 1: `mag` of k and of -(k + 1) is k
abbrev pub Within : ℤ → ℕ → Type 0
Within a n = mag a < n

abbrev pub Bytes : List ℕ → Type 0
Bytes l = AllByRecursion (λ b. b < 256) l

pub record PlaceFits (p : Place) : Type 0 where
  pub x : Within p.x 524288
  pub y : Within p.y 524288

pub record CornerFits (c : Corner) : Type 0 where
  pub x : Within c.x 8388608
  pub y : Within c.y 8388608
  pub z : Within c.z 8388608
  pub u : c.u < 65536
  pub v : c.v < 65536
  pub four : length c.colour ≡ 4
  pub bytes : Bytes c.colour

pub record TripleFits (t : Triple) : Type 0 where
  pub a : CornerFits t.a
  pub b : CornerFits t.b
  pub c : CornerFits t.c

pub record RowFits (m : Row) : Type 0 where
  pub x : Within m.x 16777216
  pub y : Within m.y 16777216
  pub z : Within m.z 16777216
  pub one : Within m.one 16777216

pub record ViewFits (w : View) : Type 0 where
  pub across : RowFits w.across
  pub down : RowFits w.down
  pub away : RowFits w.away
  pub scale : w.scale < 1048576
  pub middle : PlaceFits w.middle

pub record ImageFits (t : Image) : Type 0 where
  pub across : t.across ≤ 8
  pub down : t.down ≤ 8
  pub size : length t.dots ≡ 4 * 2 ^ (t.across + t.down)
  pub bytes : Bytes t.dots

pub record FrameFits (s : Size) (f : Frame) : Type 0 where
  pub across : f.left ≤ f.right
  pub right : f.right ≤ s.width
  pub down : f.top ≤ f.bottom
  pub bottom : f.bottom ≤ s.height

pub record PenFits (s : Size) (ts : List Image) (p : Pen) : Type 0 where
  pub texture : p.texture ≤ length ts
  pub frame : FrameFits s p.frame

abbrev pub InstructionFits : Size → List Image → Instruction → Type 0
InstructionFits s ts (pen p) = PenFits s ts p
InstructionFits s ts (look w) = ViewFits w
InstructionFits s ts (clear c z) = (length c ≡ 3) × Bytes c × (z < 65536)
InstructionFits s ts (triangles l) = (length l ≤ 65535) × AllByRecursion TripleFits l
InstructionFits s ts show = Unit {0}

-- a size, textures and commands that a file can hold
pub record ListFits (s : Size) (ts : List Image) (cs : List Instruction) : Type 0 where
  pub some_width : 1 ≤ s.width
  pub width : s.width ≤ 1024
  pub some_height : 1 ≤ s.height
  pub height : s.height ≤ 1024
  pub textures : length ts ≤ 64
  pub each_texture : AllByRecursion ImageFits ts
  pub commands : length cs ≤ 65535
  pub each_command : AllByRecursion (InstructionFits s ts) cs
