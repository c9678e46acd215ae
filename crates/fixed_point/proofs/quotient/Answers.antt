use Rattle.std.proofs.Common.{sym, subst, arith}
use Rattle.fixed_point.specs.Whole.{RoundsDown}
use Rattle.fixed_point.proofs.Bounds.{rounds_down}
use Rattle.fixed_point.proofs.quotient.Goals as goal

pub returns-clause-rounds : goal.returns-clause-rounds
returns-clause-rounds g c = subst (RoundsDown (g.T.Dividend.whole c.args.a) c.args.n) (sym c.over.ensures) (rounds_down _ _ (omega arith))
