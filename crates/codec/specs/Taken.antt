-- A file that was taken, and its commands as they are given one by one. Assumes nothing.
use Rattle.std.specs.Prelude.{◌≡◌, ℕ, true, List, [], ◌∷◌, Ok, Err, Result, Option, MatchOption}
use Rattle.meaning.specs.declared.command.Command.{Command}
use Rattle.meaning.specs.Meaning.{Instruction}
use Rattle.meaning.specs.Numbers.{kind_number, header}
use Rattle.codec.specs.declared.refusal.Refusal.{Refusal}
use Rattle.codec.specs.declared.taken.TakenFile.{TakenFile}
use Rattle.codec.specs.declared.walk.Commands.{Commands}
use Rattle.codec.specs.Kinds.{built_yet}
use Rattle.codec.specs.Verdicts.{VerdictIs}
use Rattle.codec.specs.Walk.{listed, coming}

-- all of its commands
abbrev pub commands_of : TakenFile → List Instruction
commands_of f = listed f.bytes.now f.summary

-- the bytes that are taken are the file's, and what is said of them is its verdict
abbrev pub TakenIs : List ℕ → Result TakenFile Refusal → Type 0
TakenIs file (Ok t) = (t.bytes.now ≡ file) × VerdictIs built_yet file (Ok t.summary)
TakenIs file (Err e) = VerdictIs built_yet file (Err e)

-- those that were not given yet
abbrev pub to_come : Commands → List Instruction
to_come s = coming s.summary s.left s.reader

-- the command of the code is that of the next instruction, of a kind that there is; after the last one nothing comes
abbrev pub GivesNext : Commands → Option Command → Commands → Type 0
GivesNext s r t =
    MatchOption r ((to_come s ≡ []) × (to_come t ≡ []))
    (λ c. (built_yet (kind_number c) ≡ true) × ((next : Instruction) × (header next ≡ c) × (to_come s ≡ next ∷ to_come t)))
