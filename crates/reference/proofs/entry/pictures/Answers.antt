use Rattle.std.proofs.Common.{refl, rules}
use Rattle.std.proofs.lemmas.Result.{err_from_is_err_and}
use Rattle.reference.specs.Made.{Made}
use Rattle.reference.proofs.Entering.{made_none, room_lent, made_drawn, made_is_meant}
use Rattle.reference.proofs.entry.pictures.Goals as goal

pub returns-in_err-task : goal.returns-in_err-task
returns-in_err-task g c =
    let a = c.args in
    let e = c.of.ensures in
    let p = err_from_is_err_and c.from_residual.result c.from_residual.ensures.1 in
    let made : Made a.file.now a.colours.now a.depths.now a.work.now a.shown.now c.from_residual.result a.colours.now a.depths.now a.work.now a.shown.now =
    rw (p.1, p.2) (made_none a.file.now a.colours.now a.depths.now a.work.now a.shown.now c.of.result e.colours e.depths e.work e.shown _ c.in_err-task.ensures) in
    record { made = made; same = made_is_meant a.file.now a.colours.now a.depths.now a.work.now a.shown.now c.from_residual.result a.colours.now a.depths.now a.work.now a.shown.now made }

pub invariant_of-canvas : goal.invariant_of-canvas
invariant_of-canvas g c =
    let a = c.args in
    let e = c.of.ensures in
    record { room = room_lent a.file.now a.colours.now a.depths.now a.work.now a.shown.now c.of.result e.colours e.depths e.work e.shown c.in_ok-task.task c.in_ok-task.ensures.0 c.in_ok-task.ensures.1 }

pub returns : goal.returns
returns g c =
    let a = c.args in
    let e = c.of.ensures in
    let o = c.draw.ensures in
    let n = o.same.colours.name in
    let m = o.same.depths.name in
    let k = o.same.shown.name in
    let made = made_drawn a.file.now a.colours.now a.depths.now a.work.now a.shown.now c.of.result e.colours e.depths e.work e.shown c.in_ok-task.task _ c.draw.new.canvas _ _ _ c.in_ok-task.ensures.0 c.in_ok-task.ensures.1
    refl refl refl refl o (search rules) (search rules) (search rules) in
    record { made = made; same = made_is_meant a.file.now a.colours.now a.depths.now a.work.now a.shown.now _ _ _ a.work.now _ made }
