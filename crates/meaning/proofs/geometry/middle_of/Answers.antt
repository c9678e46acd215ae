use Rattle.std.proofs.Common.{w32, rules}
use Rattle.std.proofs.lemmas.Int.{to_z-of_z}
use Rattle.meaning.specs.Meaning.{middle}
use Rattle.meaning.proofs.geometry.middle_of.Goals as goal

pub returns : goal.returns
unfolding middle
returns c =
    let p = to_z-of_z w32 c.middle_along.result (search rules) in
    let q = to_z-of_z w32 c.middle_along-2.result (search rules) in
    let r = c.middle_along.ensures in
    let s = c.middle_along-2.ensures in
    cc
