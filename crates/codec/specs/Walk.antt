-- The commands of a file that was judged, read again. Assumes nothing.
use Rattle.std.specs.Prelude.{◌≡◌, ℕ, ◌≤◌, List, [], length, drop}
use Rattle.meaning.specs.Meaning.{Instruction}
use Rattle.codec.specs.declared.reader.Reader.{Reader}
use Rattle.codec.specs.declared.summary.Summary.{Summary}
use Rattle.codec.specs.Judged.{Got, got, stop, times}
use Rattle.codec.specs.Reader.{left}
use Rattle.codec.specs.Verdicts.{command}

abbrev pub said : Got (List Instruction) → List Instruction
said (stop n p) = []
said (got l rest) = l

-- the commands of a file
unfoldable pub listed : List ℕ → Summary → List Instruction
listed file m = said (times m.commands (command m) (length file) (drop m.start file))

-- they are where a summary says
pub record There (file : List ℕ) (m : Summary) : Type 0 where
  pub within : m.start ≤ length file
  pub is : times m.commands (command m) (length file) (drop m.start file) ≡ got (listed file m) []

-- n commands of a file from where a reader is
unfoldable pub coming : Summary → ℕ → Reader → List Instruction
coming m n r = said (times n (command m) (length r.bytes.now) (left r))

-- they are there, and nothing is behind them
abbrev pub Coming : Summary → ℕ → Reader → Type 0
Coming m n r = times n (command m) (length r.bytes.now) (left r) ≡ got (coming m n r) []
