-- The numbers that stand for tests, mixes and kinds of commands in a file.
-- Assumes nothing: these are definitions.
use Rattle.std.specs.Prelude.{ℕ, cond, length, ◌==◌}
use Rattle.meaning.specs.declared.pen.Test.{Test}
use Rattle.meaning.specs.declared.pen.Test.TheVariants.{Always, Less, LessOrEqual, Equal, Never}
use Rattle.meaning.specs.declared.pen.Mix.{Mix}
use Rattle.meaning.specs.declared.pen.Mix.TheVariants.{Replace, Blend, Add}
use Rattle.meaning.specs.declared.kind.Kind.{Kind}
use Rattle.meaning.specs.declared.kind.Kind.TheVariants as kinds
use Rattle.meaning.specs.declared.command.Command as command
use Rattle.meaning.specs.declared.command.Command.TheVariants as kind
use Rattle.meaning.specs.Meaning.{Instruction, pen, look, clear, triangles, show}

abbrev pub test_number : Test → ℕ
test_number Always = 0
test_number Less = 1
test_number LessOrEqual = 2
test_number Equal = 3
test_number Never = 4

-- the test of a number; there are five
abbrev pub test_of : ℕ → Test
test_of n = cond (n == 0) Always (cond (n == 1) Less (cond (n == 2) LessOrEqual (cond (n == 3) Equal Never)))

abbrev pub mix_number : Mix → ℕ
mix_number Replace = 0
mix_number Blend = 1
mix_number Add = 2

-- the mix of a number; there are three
abbrev pub mix_of : ℕ → Mix
mix_of n = cond (n == 0) Replace (cond (n == 1) Blend Add)

abbrev pub kind_number : command.Command → ℕ
kind_number (kind.Pen p) = 1
kind_number (kind.Look w) = 2
kind_number (kind.Clear c z) = 3
kind_number (kind.Triangles n) = 4
kind_number kind.Show = 5

abbrev pub kind_code : Kind → ℕ
kind_code kinds.Pen = 1
kind_code kinds.Look = 2
kind_code kinds.Clear = 3
kind_code kinds.Triangles = 4
kind_code kinds.Show = 5

-- the kind of a number; there are five, from 1 on
abbrev pub kind_of_code : ℕ → Kind
kind_of_code n = cond (n == 1) kinds.Pen (cond (n == 2) kinds.Look (cond (n == 3) kinds.Clear (cond (n == 4) kinds.Triangles kinds.Show)))

-- a command of a list as the code reads it: of triangles only how many
abbrev pub header : Instruction → command.Command
header (pen p) = kind.Pen p
header (look w) = kind.Look w
header (clear c z) = kind.Clear c z
header (triangles l) = kind.Triangles (length l)
header show = kind.Show
