use Rattle.std.proofs.Common.{◌≡◌, ◌<◌, true, List, [], sym, ap, ◌∙◌, subst, arith}
use Rattle.meaning.specs.Meaning.{Instruction}
use Rattle.meaning.specs.Numbers.{header, kind_number}
use Rattle.meaning.specs.States.{obeyed}
use Rattle.meaning.specs.declared.command.Command.{Command}
use Rattle.codec.specs.Kinds.{built_yet}
use Rattle.codec.specs.Shows.{counts, shows}
use Rattle.codec.specs.Taken.{commands_of, to_come}
use Rattle.codec.proofs.Given.{one_fewer, total_more}
use Rattle.reference.proofs.EachDot.{SoFar, so_far_all, so_far_silent, so_far_show, dot_room}
use Rattle.reference.proofs.dots.obey_all.Goals as goal

pub put_colour-requires : goal.put_colour-requires
put_colour-requires c =
    let a = c.args in
    let l = c.loop-command in
    let s = a.file.summary.size in
    let e = total_more l.command-iterator c.next.new.self c.in-Some.command c.in-Some.ensures.steps counts in
    let n : l.number < shows (commands_of a.file) = omega (arith, e, (l.invariant.3 []).many, ap counts c.in-Show.is) in
    omega (arith, dot_room s.width s.height _ l.number a.i a.j c.requires.across c.requires.down n, c.place_of.ensures, c.requires.room)

pub loop-command-preserved-in-Show : goal.loop-command-preserved-in-Show
loop-command-preserved-in-Show c =
    let a = c.args in
    let l = c.loop-command in
    let s = a.file.summary.size in
    let cs = commands_of a.file in
    let t = c.next.new.self in
    let o = c.in-Some.ensures.steps in
    let k = one_fewer l.command-iterator t c.in-Some.command o in
    let e : c.obey-state.result ≡ l.state = c.obey-state.ensures ∙ ap (obeyed a.i a.j l.state) c.in-Show.is in (
      tt,
      tt,
      omega arith,
      λ ts.
          rw e
          (so_far_show ts s cs a.i a.j a.shown.now (to_come t) l.state l.number l.shown o.1.0
          (subst (λ (x : List Instruction). SoFar ts s cs a.i a.j a.shown.now x l.state l.number l.shown) o.1.2 (l.invariant.3 ts))
          c.put_colour.new.colours (o.1.1 ∙ c.in-Show.is) c.requires.across c.requires.down (rw (c.place_of.ensures, e) at c.put_colour.ensures)),
    )

pub loop-command-preserved : goal.loop-command-preserved
loop-command-preserved c =
    let a = c.args in
    let l = c.loop-command in
    let s = a.file.summary.size in
    let cs = commands_of a.file in
    let t = c.next.new.self in
    let o = c.in-Some.ensures.steps in
    let k = one_fewer l.command-iterator t c.in-Some.command o in
    let built : built_yet (kind_number (header o.1.0)) ≡ true = subst (λ (d : Command). built_yet (kind_number d) ≡ true) (sym o.1.1) o.0 in
    let e : c.obey-state.result ≡ obeyed a.i a.j l.state (header o.1.0) = c.obey-state.ensures ∙ ap (obeyed a.i a.j l.state) (sym o.1.1) in (
      tt,
      tt,
      omega arith,
      λ ts.
          rw e
          (so_far_silent ts s cs a.i a.j a.shown.now (to_come t) l.state l.number l.shown o.1.0
          (subst (λ (x : List Instruction). SoFar ts s cs a.i a.j a.shown.now x l.state l.number l.shown) o.1.2 (l.invariant.3 ts))
          built (λ is. c.in_default.not-Show (sym o.1.1 ∙ is))),
    )

pub returns-clause-dot : goal.returns-clause-dot
returns-clause-dot c =
    let a = c.args in
    let l = c.loop-command in
    let s = a.file.summary.size in
    let cs = commands_of a.file in
    λ ts.
    (so_far_all ts s cs a.i a.j a.shown.now l.state l.number l.shown
    (subst (λ (x : List Instruction). SoFar ts s cs a.i a.j a.shown.now x l.state l.number l.shown) c.in-None.ensures.steps.0 (l.invariant.3 ts))).0

pub returns-clause-shown : goal.returns-clause-shown
returns-clause-shown c =
    let a = c.args in
    let l = c.loop-command in
    let s = a.file.summary.size in
    let cs = commands_of a.file in
    λ ts.
    let o = subst (λ (x : List Instruction). SoFar ts s cs a.i a.j a.shown.now x l.state l.number l.shown) c.in-None.ensures.steps.0 (l.invariant.3 ts) in
    rw (← (so_far_all ts s cs a.i a.j a.shown.now l.state l.number l.shown o).1) o.shown
