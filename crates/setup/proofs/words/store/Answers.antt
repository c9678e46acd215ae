use Rattle.std.proofs.Common.{◌≡◌, ℕ, List, length, get_or, ap, ◌∙◌, rules}
use Rattle.setup.proofs.Sixteen.{same_sixteen, part_new, part_old}
use Rattle.setup.proofs.words.store.Goals as goal

pub returns : goal.returns
returns c =
    let w = c.args.work.now in
    let at = c.args.at in
    let new = c.copy_from_slice.new.self in
    let sixteen : length new ≡ 16 = search rules in
    record {
      stored = same_sixteen _ _ (λ n h. part_new w new at c.requires.room sixteen n h ∙ ap (λ (l : List ℕ). get_or l n 0) c.copy_from_slice.ensures.after) ∙ c.pack.ensures;
      others = part_old w new at c.requires.room sixteen;
    }
