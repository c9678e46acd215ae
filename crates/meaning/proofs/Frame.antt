-- Dots outside the frame.
-- Assumes nothing.
use Rattle.std.proofs.Common.{◌≡◌, refl, ◌∙◌}
use Rattle.std.proofs.lemmas.Bool.{cond-true, cond-false, or_right, not_from_false}
use Rattle.meaning.specs.declared.state.Dot.{Dot}
use Rattle.meaning.specs.Meaning.{at_dot, step}
use Rattle.meaning.specs.Laws.{Framed}
use Rattle.meaning.proofs.Order.{all_keep}

pub framed : Framed
unfolding step at_dot
framed ts i j n out = (
  λ l. all_keep _ _ i j (λ (d : Dot). d ≡ n.dot)
      (λ a b c d h. cond-true _ _ _ (or_right _ _ (not_from_false _ out)) ∙ h) _ l _ refl,
  λ c z. cond-false _ _ _ out,
)
