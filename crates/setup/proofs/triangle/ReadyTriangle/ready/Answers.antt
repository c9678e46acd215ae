use Rattle.meaning.specs.Fragments.{triple}
use Rattle.setup.proofs.Standing.{none_placed, none_stands, seen_stands, seen_placed}
use Rattle.setup.proofs.triangle.ReadyTriangle.ready.Goals as goal

pub clockwise-requires : goal.clockwise-requires
clockwise-requires c = seen_placed c.args.view (triple c.args.corners) c.in-Some.triangle c.in-Some.ensures

pub returns-in-Some : goal.returns-in-Some
returns-in-Some c =
    record {
      stands = seen_stands c.args.pen c.args.view (triple c.args.corners) c.clockwise.result c.in-Some.triangle c.in-Some.ensures c.clockwise.ensures;
      placed = c.clockwise.ensures.placed;
    }

pub returns-in-None : goal.returns-in-None
returns-in-None c =
    record {
      stands = none_stands c.args.pen c.args.view (triple c.args.corners) c.none.result c.in-None.ensures c.none.ensures;
      placed = none_placed c.none.result c.none.ensures;
    }
