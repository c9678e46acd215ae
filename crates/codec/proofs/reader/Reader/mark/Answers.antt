use Rattle.std.proofs.Common.{◌≡◌, ℕ, ◌<◌, [], ◌∷◌, length, get_or, sym, refl, ap, ne_eqb, rules, arith}
use borrow.Author.Tests.{clash}
use Rattle.std.proofs.lemmas.Slice.Eq.{bytes_eq-Decides}
use Rattle.std.proofs.ByRecursion.{All-from_get_or}
use Rattle.codec.specs.Judged.{dots_letters, value}
use Rattle.codec.specs.Reader.{as_it_is}
use Rattle.codec.proofs.Judging.{judge_out, judge_bad, judge_good}
use Rattle.codec.proofs.NumberCodecs.{same_value}
use Rattle.codec.proofs.reader.Reader.mark.Goals as goal

pub returns-in_err-mark : goal.returns-in_err-mark
returns-in_err-mark c = judge_out 2 4 as_it_is dots_letters c.array.ensures c.in_err-mark.was c.from_residual.ensures.1

pub returns-then-ne : goal.returns-then-ne
unfolding value
returns-then-ne c =
    let m = c.in_ok-mark.mark in
    let below : (k : ℕ) → get_or m k 0 < 256 = search rules in
    let long : length m ≡ 4 = search rules in
    let other : value m ≡ 1398034244 → ⊥ = λ e.
    let same = (bytes_eq-Decides m (68 ∷ 79 ∷ 84 ∷ 83 ∷ [])).1 (same_value m _ long (All-from_get_or (λ b. b < 256) m 0 (λ i _. below i)) (search rules) e) in
    clash (sym (rw same at c.if-ne.ensures)) in
    judge_bad 2 4 as_it_is dots_letters c.array.ensures c.in_ok-mark.was _ refl (sym c.requires) (ne_eqb (value m) 1398034244 other)

pub returns : goal.returns
unfolding value
returns c =
    let same = (bytes_eq-Decides c.in_ok-mark.mark (68 ∷ 79 ∷ 84 ∷ 83 ∷ [])).0 (grind (arith, c.if-ne.ensures)) in
    judge_good 2 4 as_it_is dots_letters c.array.ensures c.in_ok-mark.was tt (ap value same) refl
