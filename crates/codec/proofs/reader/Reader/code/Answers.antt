use Rattle.std.proofs.Common.{◌≡◌, ℕ, Bool, List, Ok, Err, Result, sym, ◌∙◌, rules}
use Rattle.std.specs.Result.{result_or}
use Rattle.meaning.specs.Codes.{Decodes}
use Rattle.meaning.specs.declared.code.UnknownCode.{UnknownCode}
use Rattle.codec.specs.declared.refusal.Refusal.{Refusal}
use Rattle.codec.specs.declared.reader.Reader.{Reader}
use Rattle.codec.specs.Judged.{bytes, value, judge}
use Rattle.codec.specs.Reader.{Reads, as_it_is}
use Rattle.codec.specs.Refusals.{refusal_number, refusal_place}
use Rattle.codec.proofs.Judging.{judge_out, judge_bad, judge_good, value_one}
use Rattle.codec.proofs.reader.Reader.code.Goals as goal

-- what was taken, and is a code or not
module _ {A : Type 0} (code : A → ℕ) (is_code : ℕ → Bool) (coded : ℕ → A) (bad : ℕ) {x y : Reader} {r : Result (List ℕ) Refusal} {b : List ℕ} (h : Reads as_it_is (bytes 1) x r y) (e : r ≡ Ok b)
    (o : Refusal) (p : refusal_number o ≡ bad) (q : refusal_place o ≡ x.at) (n : ℕ) (v : value b ≡ n) where
  decoded : (t : Result A UnknownCode) → Decodes code is_code coded n t → Reads code (judge bad 1 as_it_is is_code) x (result_or t (Err o)) y
  decoded (Ok a) d = judge_good bad 1 as_it_is is_code h e a (v ∙ sym d.1) (rw d.1 d.0)
  decoded (Err u) d = judge_bad bad 1 as_it_is is_code h e o p q (rw v d.0)

pub returns-in_err-code : goal.returns-in_err-code
returns-in_err-code g c = judge_out _ _ _ _ c.array.ensures c.in_err-code.was c.from_residual.ensures.1

pub returns : goal.returns
returns g c =
    rw c.or.ensures
    (decoded _ _ g.T.Coded.coded _ c.array.ensures c.in_ok-code.was _ c.refuse.ensures.number c.refuse.ensures.place _ (value_one c.in_ok-code.field-0 (search rules)) c.try_from.result
    (g.met.T.Coded.decodes _ _ c.try_from.ensures))
