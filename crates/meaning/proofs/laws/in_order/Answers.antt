use Rattle.meaning.proofs.Order.{commands_in_order, triangles_in_order, turned}
use Rattle.meaning.proofs.laws.in_order.Goals as goal

pub returns : goal.returns
returns c = record { commands = commands_in_order; triangles = triangles_in_order; turned = turned }
