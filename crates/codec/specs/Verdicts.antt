-- What the code says of a whole file, against the definition. Assumes nothing.
use Rattle.std.specs.Prelude.{◌≡◌, ℕ, ◌≤◌, Bool, List, [], length, drop, Ok, Err, Result}
use Rattle.meaning.specs.Meaning.{Image, Instruction}
use Rattle.codec.specs.declared.refusal.Refusal.{Refusal}
use Rattle.codec.specs.declared.summary.Summary.{Summary}
use Rattle.codec.specs.Refusals.{refusal_number, refusal_place}
use Rattle.codec.specs.Kinds.{built_yet}
use Rattle.codec.specs.Judged as judged

-- the reader of one command of a file
abbrev pub command : Summary → judged.Reader Instruction
command m = judged.a_command built_yet m.size m.textures

-- a list of commands that a summary stands for, and where in the file they are
abbrev pub Summed : List ℕ → Summary → judged.Verdict → Type 0
Summed file m v =
    (ts : List Image) × (cs : List Instruction) × (v ≡ judged.taken m.size ts cs) × (length ts ≡ m.textures) × (length cs ≡ m.commands) × (m.start ≤ length file)
    × (judged.times m.commands (command m) (length file) (drop m.start file) ≡ judged.got cs [])

-- what the code says of a file is its verdict
abbrev pub VerdictIs : (ℕ → Bool) → List ℕ → Result Summary Refusal → Type 0
VerdictIs built file (Ok m) = Summed file m (judged.judged built file)
VerdictIs built file (Err e) = judged.judged built file ≡ judged.refused (refusal_number e) (refusal_place e)
