use Rattle.std.proofs.Common.{◌^◌, ◌≤◌, sym, ◌∙◌, subst, rules}
use lib.Signed.{mag}
use mir.Syntax.{w128}
use Rattle.std.proofs.lemmas.Int.{to_z-of_z}
use Rattle.meaning.specs.Meaning.{turns}
use Rattle.meaning.proofs.triangle.Triangle.turn.Goals as goal

pub returns : goal.returns
unfolding turns
returns c =
    let e = to_z-of_z w128 c.side.result (search rules) in
    record { value = e ∙ c.side.ensures.value; bound = subst (λ z. mag z ≤ 2 ^ 66) (sym e) c.side.ensures.bound }
