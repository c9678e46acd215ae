-- The commands of a file that is taken are of the kinds that there are yet.
-- Assumes nothing.
use Rattle.std.proofs.Common.{◌≡◌, ℕ, zero, suc, true, cond, List, length, Ok, refl, subst, arith}
use borrow.Author.Tests.{clash}
use Rattle.std.proofs.lemmas.Bool.{cond_both}
use Rattle.std.proofs.lemmas.Bool.Decides.{nat_tests}
use Rattle.meaning.specs.declared.command.Command.{Command}
use Rattle.meaning.specs.declared.state.Size.{Size}
use Rattle.meaning.specs.Meaning.{Instruction}
use Rattle.meaning.specs.Numbers.{kind_number}
use Rattle.codec.specs.declared.reader.Reader.{Reader}
use Rattle.codec.specs.declared.summary.Summary.{Summary}
use Rattle.codec.specs.Judged as judged
use Rattle.codec.specs.Judged.{Got, stop, got, then, ◌>>=◌, give, place, value, bytes, judge, number, known, a_frame, a_pen, a_clear, of_kind, a_command, kind_of}
use Rattle.codec.specs.Kinds.{built_yet}
use Rattle.codec.specs.Reader.{left, Headed, ReadsSome}
use Rattle.codec.specs.Verdicts.{command}
use Rattle.codec.proofs.Reading.{Holds, holds_then}

-- what holds at the end, whatever was read before
ends : {A B : Type 0} (P : B → Type 0) (m : Got A) (f : A → List ℕ → Got B) → ((a : A) (rest : List ℕ) → Holds (λ b _. P b) (f a rest)) → Holds (λ b _. P b) (then m f)
ends P (stop n p) f h = tt
ends P (got a rest) f h = h a rest

-- P holds of whatever a reader gives
record Gives {A : Type 0} (P : A → Type 0) (r : judged.Reader A) : Type 0 where
  at : (whole : ℕ) (l : List ℕ) → Holds (λ a _. P a) (r whole l)

past : {A B : Type 0} {P : B → Type 0} {f : A → judged.Reader B} (r : judged.Reader A) → ((a : A) → Gives P (f a)) → Gives P (◌>>=◌ r f)
past {P = P} {f = f} r h = record { at = λ whole l. ends P (r whole l) (λ a rest. f a whole rest) (λ a rest. (h a).at whole rest) }

done : {A : Type 0} {P : A → Type 0} {a : A} → P a → Gives P (give a)
done p = record { at = λ whole l. p }

abbrev Built : Instruction → Type 0
Built c = built_yet (kind_of c) ≡ true

of_kind_built : (s : Size) (textures v : ℕ) → known built_yet v ≡ true → Gives Built (of_kind s textures v)
unfolding of_kind a_pen a_clear
of_kind_built s textures zero e = absurd (clash e)
of_kind_built s textures (suc zero) e =
    past (number 5 1 0 4) (λ test. past (number 5 1 0 1) (λ keeps. past (number 5 1 0 2) (λ mix. past (number 5 1 0 textures) (λ texture. past (a_frame s) (λ frame. done refl)))))
of_kind_built s textures (suc (suc zero)) e = absurd (clash e)
of_kind_built s textures (suc (suc (suc zero))) e = past (bytes 3) (λ colour. past (number 5 2 0 65535) (λ depth. done refl))
of_kind_built s textures (suc (suc (suc (suc zero)))) e = absurd (clash e)
of_kind_built s textures (suc (suc (suc (suc (suc zero))))) e = done refl
of_kind_built s textures (suc (suc (suc (suc (suc (suc v)))))) e = absurd (grind (arith, nat_tests))

abbrev Known : ℕ → Type 0
Known v = known built_yet v ≡ true

command_built : (m : Summary) → Gives Built (command m)
unfolding a_command judge
command_built m = record {
  at = λ whole l.
      holds_then (λ v _. Known v) (λ c _. Built c) (judge 4 1 (λ v. v) (known built_yet) whole l) (λ v rest. of_kind m.size m.textures v whole rest)
      (ends Known (bytes 1 whole l) (λ b rest. cond (known built_yet (value b)) (got (value b) rest) (stop 4 (place whole l)))
      (λ b rest. cond_both (known built_yet (value b)) (got (value b) rest) (stop 4 (place whole l)) (Holds (λ v _. Known v)) (λ e. e) (λ _. tt)))
      (λ v rest e. (of_kind_built m.size m.textures v e).at whole rest);
}

-- the next command is of a kind that there is
pub next_built : (m : Summary) (before : Reader) (c : Command) (after : Reader) → ReadsSome Headed (command m) before (Ok c) after → built_yet (kind_number c) ≡ true
next_built m before c after h =
    subst (λ (d : Command). built_yet (kind_number d) ≡ true) h.is.1 (subst (Holds (λ x _. Built x)) h.is.2 ((command_built m).at (length before.bytes.now) (left before)))
