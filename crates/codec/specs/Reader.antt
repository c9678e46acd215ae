-- What a reader of the code gives, against a reader of the definition. Assumes nothing.
use Rattle.std.specs.Prelude.{◌≡◌, ℕ, List, [], ◌∷◌, length, drop, Ok, Err, Result}
use Rattle.std.specs.Borrow.{Bor}
use Rattle.meaning.specs.declared.command.Command.{Command}
use Rattle.meaning.specs.Meaning.{Instruction}
use Rattle.meaning.specs.Numbers.{header}
use Rattle.codec.specs.declared.refusal.Refusal.{Refusal}
use Rattle.codec.specs.declared.reader.Reader.{Reader}
use Rattle.codec.specs.Refusals.{refusal_number, refusal_place}
use Rattle.codec.specs.Judged as judged

-- what is left to read
abbrev pub left : Reader → List ℕ
left r = drop r.at r.bytes.now

-- an answer of the code and what it leaves, as the definition has it; `meant` says what a value of the code stands for
abbrev pub answer : {A B : Type 0} → (B → A) → Result B Refusal → List ℕ → judged.Got A
answer meant (Ok b) l = judged.got (meant b) l
answer meant (Err e) l = judged.stop (refusal_number e) (refusal_place e)

pub record Reads {A B : Type 0} (meant : B → A) (read : judged.Reader A) (before : Reader) (r : Result B Refusal) (after : Reader) : Type 0 where
  pub same : after.bytes.now ≡ before.bytes.now
  pub is : read (length before.bytes.now) (left before) ≡ answer meant r (left after)

-- where a value of the code says less than the definition's: it stands for one of several
abbrev pub Answers : {A B : Type 0} → (B → A → Type 0) → judged.Got A → Result B Refusal → List ℕ → Type 0
Answers {A = A} Stands m (Ok b) l = (a : A) × Stands b a × (m ≡ judged.got a l)
Answers Stands m (Err e) l = m ≡ judged.stop (refusal_number e) (refusal_place e)

pub record ReadsSome {A B : Type 0} (Stands : B → A → Type 0) (read : judged.Reader A) (before : Reader) (r : Result B Refusal) (after : Reader) : Type 0 where
  pub same : after.bytes.now ≡ before.bytes.now
  pub is : Answers Stands (read (length before.bytes.now) (left before)) r (left after)

abbrev pub as_it_is : {A : Type 0} → A → A
as_it_is v = v

abbrev pub as_bytes : Bor (List ℕ) → List ℕ
as_bytes b = b.now

-- a command of the code is that of an instruction
abbrev pub Headed : Command → Instruction → Type 0
Headed c i = header i ≡ c

-- of several that were read only how many
abbrev pub SomeList : {A : Type 0} → ℕ → Unit {0} → List A → Type 0
SomeList n _ l = length l ≡ n

-- the four letters "DOTS" as a number
abbrev pub as_mark : Unit {0} → ℕ
as_mark _ = judged.value (68 ∷ 79 ∷ 84 ∷ 83 ∷ [])
