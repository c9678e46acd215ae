use Rattle.std.proofs.Common.{sym, rules}
use Rattle.meaning.proofs.Weighing.{Computed, computed}
use Rattle.meaning.proofs.triangle.Triangle.weights.Goals as goal
use Rattle.meaning.proofs.triangle.Triangle.weights.Goals.{After-unsigned_abs-4, at-returns}

all : (c : goal.After-unsigned_abs-4) → Computed c.args.self.a c.args.self.b c.args.self.c c.args.place c.unsigned_abs.result c.unsigned_abs-2.result c.unsigned_abs-3.result c.unsigned_abs-4.result
all c =
    computed c.args.self.a c.args.self.b c.args.self.c c.args.place c.turn-area.result c.side.result c.side-2.result c.side-3.result
    c.unsigned_abs.result c.unsigned_abs-2.result c.unsigned_abs-3.result c.unsigned_abs-4.result
    (search rules) (search rules) (search rules) (search rules) c.turn-area.ensures.value c.turn-area.ensures.bound c.if-area-le0.false (sym c.if-not-covers.ensures)
    c.side.ensures.value c.side-2.ensures.value c.side-3.ensures.value
    c.unsigned_abs.ensures.value c.unsigned_abs-2.ensures.value c.unsigned_abs-3.ensures.value c.unsigned_abs-4.ensures.value

pub invariant_of-result : goal.invariant_of-result
invariant_of-result c = let w = all c in record { some = w.some; sum = w.sum; fits = w.small }

pub returns : goal.returns
returns c =
    let w = all (at-returns c).After-unsigned_abs-4 in
    record { held = w.held; a_is = w.a_is; b_is = w.b_is; c_is = w.c_is; area_is = w.area_is }
