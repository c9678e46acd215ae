-- How many pictures commands show, and how many triangles they have. Assumes nothing: these are definitions.
use Rattle.std.specs.Prelude.{ℕ, ◌+◌, List, [], ◌∷◌}
use Rattle.meaning.specs.declared.command.Command.{Command}
use Rattle.meaning.specs.declared.command.Command.TheVariants.{Pen, Look, Clear, Triangles, Show}
use Rattle.meaning.specs.Meaning.{Instruction}
use Rattle.meaning.specs.Numbers.{header}

-- how many pictures a command shows
abbrev pub counts : Command → ℕ
counts (Pen p) = 0
counts (Look w) = 0
counts (Clear c z) = 0
counts (Triangles n) = 0
counts Show = 1

-- how many triangles a command has
abbrev pub triangles_in : Command → ℕ
triangles_in (Pen p) = 0
triangles_in (Look w) = 0
triangles_in (Clear c z) = 0
triangles_in (Triangles n) = n
triangles_in Show = 0

-- the sum of a number of each command
unfoldable pub total : (Command → ℕ) → List Instruction → ℕ
total f [] = 0
total f (c ∷ cs) = f (header c) + total f cs

-- how many pictures a list of commands shows
abbrev pub shows : List Instruction → ℕ
shows cs = total counts cs

-- how many triangles all commands of a list have
abbrev pub triangle_count : List Instruction → ℕ
triangle_count cs = total triangles_in cs
