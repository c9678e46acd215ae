use Rattle.std.proofs.Common.{ℕ, [], ◌∷◌, ◌++◌, vec_items, ap, ◌∙◌}
use Rattle.output.proofs.Lines.{two}
use Rattle.output.proofs.push_byte.Goals as goal

pub returns : goal.returns
returns c =
    two (vec_items c.args.out.now) (vec_items c.push.new.self) (vec_items c.push-2.new.self) _ _
    (c.in_ok-push.ensures.items ∙ ap (λ (x : ℕ). vec_items c.args.out.now ++ x ∷ []) c.hex_digit.ensures)
    (c.in_ok-push-2.ensures.items ∙ ap (λ (x : ℕ). vec_items c.push.new.self ++ x ∷ []) c.hex_digit-2.ensures)
