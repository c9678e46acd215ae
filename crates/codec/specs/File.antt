-- The bytes of a list of commands. Numbers have the low byte first, numbers with sign are in two's complement.
-- Assumes nothing: these are definitions.
use Rattle.std.specs.Prelude.{ℕ, zero, suc, ◌-◌, ◌/◌, ◌%◌, ◌^◌, cond, List, [], ◌∷◌, ◌++◌, length, ℤ, pos, int_lt}
use Rattle.std.specs.Int.Signed.{mag}
use Rattle.meaning.specs.declared.geometry.Place.{Place}
use Rattle.meaning.specs.declared.points.Corner.{Corner}
use Rattle.meaning.specs.declared.projection.Row.{Row}
use Rattle.meaning.specs.declared.projection.View.{View}
use Rattle.meaning.specs.declared.pen.Frame.{Frame}
use Rattle.meaning.specs.declared.pen.Pen.{Pen}
use Rattle.meaning.specs.declared.state.Size.{Size}
use Rattle.meaning.specs.Meaning.{Image, Triple, Instruction, pen, look, clear, triangles, show}
use Rattle.meaning.specs.Numbers.{test_number, mix_number}

-- a number of n bytes
unfoldable pub le : ℕ → ℕ → List ℕ
le zero x = []
le (suc n) x = x % 256 ∷ le n (x / 256)

-- a number with sign of n bytes
unfoldable pub signed : ℕ → ℤ → List ℕ
signed n a = cond (int_lt a (pos 0)) (le n (256 ^ n - suc (mag a))) (le n (mag a))

-- the bytes of all parts of a list, one after another
unfoldable pub all : {A : Type 0} → (A → List ℕ) → List A → List ℕ
all f [] = []
all f (x ∷ l) = f x ++ all f l

unfoldable pub frame_bytes : Frame → List ℕ
frame_bytes f = le 2 f.left ++ (le 2 f.top ++ (le 2 f.right ++ le 2 f.bottom))

unfoldable pub pen_bytes : Pen → List ℕ
pen_bytes p = test_number p.test ∷ cond p.keeps 1 0 ∷ mix_number p.mix ∷ p.texture ∷ frame_bytes p.frame

unfoldable pub row_bytes : Row → List ℕ
row_bytes r = signed 4 r.x ++ (signed 4 r.y ++ (signed 4 r.z ++ signed 4 r.one))

unfoldable pub place_bytes : Place → List ℕ
place_bytes p = signed 4 p.x ++ signed 4 p.y

unfoldable pub view_bytes : View → List ℕ
view_bytes w = row_bytes w.across ++ (row_bytes w.down ++ (row_bytes w.away ++ (le 4 w.scale ++ place_bytes w.middle)))

unfoldable pub corner_bytes : Corner → List ℕ
corner_bytes c = signed 4 c.x ++ (signed 4 c.y ++ (signed 4 c.z ++ (le 2 c.u ++ (le 2 c.v ++ c.colour))))

unfoldable pub triple_bytes : Triple → List ℕ
triple_bytes t = corner_bytes t.a ++ (corner_bytes t.b ++ corner_bytes t.c)

-- a command is its kind and what it has
unfoldable pub command_bytes : Instruction → List ℕ
command_bytes (pen p) = 1 ∷ pen_bytes p
command_bytes (look w) = 2 ∷ view_bytes w
command_bytes (clear c z) = 3 ∷ (c ++ le 2 z)
command_bytes (triangles l) = 4 ∷ (le 2 (length l) ++ all triple_bytes l)
command_bytes show = 5 ∷ []

unfoldable pub image_bytes : Image → List ℕ
image_bytes t = t.across ∷ t.down ∷ t.dots

-- the file of textures and commands: "DOTS", sizes, textures, commands
unfoldable pub file_of : Size → List Image → List Instruction → List ℕ
file_of s ts cs =
    68 ∷ 79 ∷ 84 ∷ 83 ∷ (le 2 s.width ++ (le 2 s.height ++ (length ts ∷ (all image_bytes ts ++ (le 2 (length cs) ++ all command_bytes cs)))))
