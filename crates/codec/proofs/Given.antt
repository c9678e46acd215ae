-- What is left of a file's commands when one more was given.
-- Assumes nothing.
use Rattle.std.proofs.Common.{◌≡◌, ℕ, ◌+◌, [], length, Some, ap, ◌∙◌, refl, arith}
use Rattle.meaning.specs.declared.command.Command.{Command}
use Rattle.codec.specs.declared.walk.Commands.{Commands}
use Rattle.codec.specs.Shows.{total}
use Rattle.codec.specs.Taken.{to_come, GivesNext}

module _ (s t : Commands) (c : Command) (o : GivesNext s (Some c) t) where
  pub one_fewer : length (to_come s) ≡ length (to_come t) + 1
  one_fewer = let e = ap length o.1.2 in omega arith

  pub total_more : (f : Command → ℕ) → total f (to_come s) ≡ f c + total f (to_come t)
  unfolding total
  total_more f = ap (total f) o.1.2 ∙ ap (λ (d : Command). f d + total f (to_come t)) o.1.1

pub total_none : (f : Command → ℕ) → total f [] ≡ 0
unfolding total
total_none f = refl
