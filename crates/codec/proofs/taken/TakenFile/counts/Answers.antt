use Rattle.std.proofs.Common.{◌≡◌, ◌+◌, ap, ◌∙◌, inl, inr, arith}
use Rattle.codec.specs.Shows.{counts, triangles_in, total}
use Rattle.codec.specs.Taken.{to_come}
use Rattle.codec.proofs.Given.{one_fewer, total_more, total_none}
use Rattle.codec.proofs.taken.TakenFile.counts.Goals as goal

pub loop-command-preserved-in-Show : goal.loop-command-preserved-in-Show
loop-command-preserved-in-Show c =
    let s = c.loop-command.command-iterator in
    let t = c.next.new.self in
    let o = c.in-Some.ensures.steps in
    let k = one_fewer s t c.in-Some.command o in
    let e = total_more s t c.in-Some.command o counts ∙ ap (λ d. counts d + total counts (to_come t)) c.in-Show.is in
    let f = total_more s t c.in-Some.command o triangles_in ∙ ap (λ d. triangles_in d + total triangles_in (to_come t)) c.in-Show.is in
    (tt, tt, omega arith, omega arith, omega arith, omega arith)

pub loop-command-preserved : goal.loop-command-preserved
loop-command-preserved c =
    let s = c.loop-command.command-iterator in
    let t = c.next.new.self in
    let o = c.in-Some.ensures.steps in
    let k = one_fewer s t c.in-Some.command o in
    let e = total_more s t c.in-Some.command o counts in
    let f = total_more s t c.in-Some.command o triangles_in in
    let none : (counts c.in-Some.command ≡ 0) × (triangles_in c.in-Some.command ≡ 0) =
    elim c.in-Pen.is [
      | inl p ↦ (ap counts p.1, ap triangles_in p.1)
      | inr (inl p) ↦ (ap counts p.1, ap triangles_in p.1)
      | inr (inr p) ↦ (ap counts p.2, ap triangles_in p.2)
    ] in (tt, tt, omega arith, omega arith, omega arith, omega arith)

pub returns-clause-shows : goal.returns-clause-shows
returns-clause-shows c =
    let e = ap (total counts) c.in-None.ensures.steps.0 ∙ total_none counts in
    omega arith

pub returns-clause-triangles : goal.returns-clause-triangles
returns-clause-triangles c =
    let e = ap (total triangles_in) c.in-None.ensures.steps.0 ∙ total_none triangles_in in
    omega arith
