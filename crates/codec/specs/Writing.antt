-- What is written as a file: textures as parts of some bytes, commands as the code has them, and why a list is refused.
-- Assumes nothing: these are definitions.
use Rattle.std.specs.Prelude.{◌≡◌, ℕ, ◌+◌, ◌-◌, ◌*◌, ◌^◌, ◌<◌, Bool, true, false, cond, ◌&&◌, List, [], ◌∷◌, ◌++◌, map, length, take, drop, Some, None, Ok, Err, vec_items, Option, Result, Vec, nat_le, not, position, slice_index}
use Rattle.std.specs.declared.alloc.Global.{Global}
use Rattle.std.specs.Option.{unwrap_or, option_to_list}
use Rattle.meaning.specs.declared.command.Command.{Command}
use Rattle.meaning.specs.declared.command.Command.TheVariants as kind
use Rattle.meaning.specs.declared.pen.Frame.{Frame}
use Rattle.meaning.specs.declared.state.Size.{Size}
use Rattle.meaning.specs.Meaning.{Image, Instruction, pen, clear, show}
use Rattle.meaning.specs.Fits.{ListFits}
use Rattle.codec.specs.declared.part.TexturePart.{TexturePart}
use Rattle.codec.specs.declared.writer.WriteError.{WriteError}
use Rattle.codec.specs.declared.writer.WriteError.TheVariants as wrong
use Rattle.codec.specs.File.{all, command_bytes, file_of}

-- how many bytes a texture's dots take
abbrev pub part_size : TexturePart → ℕ
part_size p = 4 * 2 ^ (p.across + p.down)

-- the texture whose dots lie in the bytes
abbrev pub part_image : List ℕ → TexturePart → Image
part_image bytes p = record { across = p.across; down = p.down; dots = take (part_size p) (drop p.start bytes) }

abbrev pub part_images : List ℕ → List TexturePart → List Image
part_images bytes ps = map (part_image bytes) ps

-- what a command stands for; looks and triangles cannot be written yet
abbrev pub instruction_of : Command → Option Instruction
instruction_of (kind.Pen p) = Some (pen p)
instruction_of (kind.Look w) = None
instruction_of (kind.Clear c z) = Some (clear c z)
instruction_of (kind.Triangles n) = None
instruction_of kind.Show = Some show

unfoldable pub instructions : List Command → List Instruction
instructions [] = []
instructions (c ∷ cs) = option_to_list (instruction_of c) ++ instructions cs

-- the bytes of a command, none where it cannot be written yet
abbrev pub command_part : Command → List ℕ
command_part c = all command_bytes (option_to_list (instruction_of c))

-- ---- what is in bounds

abbrev pub size_ok : Size → Bool
size_ok s = (nat_le 1 s.width && nat_le s.width 1024) && (nat_le 1 s.height && nat_le s.height 1024)

-- the powers are at most 8, and the dots lie within n bytes
abbrev pub part_ok : ℕ → TexturePart → Bool
part_ok n p = (nat_le p.across 8 && nat_le p.down 8) && (nat_le p.start n && nat_le (part_size p) (n - p.start))

-- the frame does not end before it begins, nor go beyond the picture
abbrev pub frame_ok : Size → Frame → Bool
frame_ok s f = (nat_le f.left f.right && nat_le f.right s.width) && (nat_le f.top f.bottom && nat_le f.bottom s.height)

-- beside so many textures
abbrev pub command_ok : Size → ℕ → Command → Bool
command_ok s textures (kind.Pen p) = nat_le p.texture textures && frame_ok s p.frame
command_ok s textures (kind.Look w) = false
command_ok s textures (kind.Clear c z) = true
command_ok s textures (kind.Triangles n) = false
command_ok s textures kind.Show = true

-- what the code's types say of a command that no test looks at
abbrev pub Typed : Command → Type 0
Typed (kind.Pen p) = Unit {0}
Typed (kind.Look w) = Unit {0}
Typed (kind.Clear c z) = (length c ≡ 3) × ((k : ℕ) → slice_index c k < 256) × (z < 65536)
Typed (kind.Triangles n) = Unit {0}
Typed kind.Show = Unit {0}

-- ---- why a list is refused

-- the place of the first that does not pass
abbrev pub first_not : {A : Type 0} → (A → Bool) → List A → Option ℕ
first_not ok xs = position (λ x. not (ok x)) xs

-- refused at the place that was found, or for what comes after
abbrev pub refused_at : (ℕ → WriteError) → Option ℕ → Option WriteError → Option WriteError
refused_at as_error None after = after
refused_at as_error (Some k) after = Some (as_error k)

-- the first reason in the order of the file, nothing where all is in bounds; the textures' dots lie in n bytes
unfoldable pub refusal : Size → List TexturePart → ℕ → List Command → Option WriteError
refusal s ps n cs =
    cond (size_ok s)
    (cond (nat_le (length ps) 64)
    (refused_at wrong.Texture (first_not (part_ok n) ps)
    (cond (nat_le (length cs) 65535)
    (refused_at wrong.Command (first_not (command_ok s (length ps)) cs) None)
    (Some wrong.Commands)))
    (Some wrong.Textures))
    (Some wrong.Size)

-- ---- the promise

-- all is in bounds, and the bytes are its file
pub record IsFile (s : Size) (ps : List TexturePart) (dots : List ℕ) (cs : List Command) (bytes : List ℕ) : Type 0 where
  pub judged : refusal s ps (length dots) cs ≡ None
  pub fits : ListFits s (part_images dots ps) (instructions cs)
  pub file : bytes ≡ file_of s (part_images dots ps) (instructions cs)

-- a list that is refused gives just its refusal; where nothing is refused, only memory can be wanting
abbrev pub Written : Size → List TexturePart → List ℕ → List Command → Result (Vec ℕ Global) WriteError → Type 0
Written s ps dots cs (Ok v) = IsFile s ps dots cs (vec_items v)
Written s ps dots cs (Err e) = e ≡ unwrap_or (refusal s ps (length dots) cs) wrong.Memory
