use Rattle.std.proofs.Common.{ℤ, sym, ap, ◌∙◌, subst, w64, SFits, rules}
use Rattle.std.proofs.lemmas.Int.{to_z-of_z}
use Rattle.meaning.specs.Meaning.{is_in_sight, in_bounds}
use Rattle.meaning.specs.Parts.{Bounded}
use Rattle.meaning.proofs.Seen.{hidden_away, hidden_x, hidden_y, sight, x_is, y_is, depth_is, seen, depth_fits}
use Rattle.meaning.proofs.projection.View.point.Goals as goal

pub returns-in_err-away : goal.returns-in_err-away
returns-in_err-away c =
    c.from_residual.ensures ∙ hidden_away c.args.self c.args.corner
    (ap is_in_sight (sym (to_z-of_z w64 c.at.result (search rules) ∙ c.at.ensures)) ∙ c.in_err-away.ensures)

pub returns-in_err-x : goal.returns-in_err-x
returns-in_err-x c =
    let e = x_is c.args.self c.args.corner c.at.result c.in_ok-away.away (search rules) c.at.ensures c.in_ok-away.ensures
    c.at-2.result (search rules) (search rules) c.at-2.ensures in
    c.from_residual-in_err-x.ensures ∙ hidden_x c.args.self c.args.corner (ap in_bounds (sym e) ∙ c.in_err-x.ensures)

pub returns-in_err-y : goal.returns-in_err-y
returns-in_err-y c =
    let e = y_is c.args.self c.args.corner c.at.result c.in_ok-away.away (search rules) c.at.ensures c.in_ok-away.ensures
    c.at-3.result (search rules) (search rules) c.at-3.ensures in
    c.from_residual-in_err-y.ensures ∙ hidden_y c.args.self c.args.corner (ap in_bounds (sym e) ∙ c.in_err-y.ensures)

pub overflow_sub-depth : goal.overflow_sub-depth
overflow_sub-depth c = depth_fits c.in_ok-away.away c.in_ok-away.ensures.near

pub returns : goal.returns
returns c =
    let w = c.args.self in
    let k = c.args.corner in
    let n = c.in_ok-away.away in
    let fa : SFits w64 c.at.result = search rules in
    let s = c.in_ok-away.ensures in
    let ex = x_is w k c.at.result n fa c.at.ensures s c.at-2.result (search rules) (search rules) c.at-2.ensures in
    let ey = y_is w k c.at.result n fa c.at.ensures s c.at-3.result (search rules) (search rules) c.at-3.ensures in
    seen w k c.in_ok-x.x c.in_ok-y.y _ (search rules) (search rules) (sight w k c.at.result n fa c.at.ensures s)
    (subst (λ (i : ℤ). Bounded i c.in_ok-x.x) ex c.in_ok-x.ensures) (subst (λ (i : ℤ). Bounded i c.in_ok-y.y) ey c.in_ok-y.ensures)
    (depth_is w k c.at.result n fa c.at.ensures s)
