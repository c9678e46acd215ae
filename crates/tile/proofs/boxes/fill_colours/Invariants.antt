use Prim.Native.Nat.{ℕ, ◌<◌, ◌*◌, ◌+◌}
use mathlib.Core.Path.{◌≡◌}
use lib.ListN.{get_or}
use Rattle.tile.proofs.boxes.fill_colours.Given as goal

abbrev pub invariant-loop-k : goal.invariant-loop-k
invariant-loop-k l = (k c : ℕ) → k < l.k → c < 3 → get_or l.row (k * 3 + c) 0 ≡ get_or l.colour c 0
