use Rattle.std.proofs.Common.{refl, ◌∙◌}
use Rattle.codec.specs.declared.summary.Summary.{Summary}
use Rattle.codec.specs.Judged.{a_file, times}
use Rattle.codec.specs.Verdicts.{command}
use Rattle.codec.proofs.Chains.{some_on, then_on, found_there, within_too}
use Rattle.codec.proofs.Places.{end_more, end_all}
use Rattle.codec.proofs.reader.Reader.file.Goals as goal

pub returns-then-self : goal.returns-then-self
unfolding a_file
returns-then-self c =
    some_on _ c.in_ok-mark.was c.mark.ensures
    (some_on _ c.in_ok-width.was c.number.ensures.reads
    (some_on _ c.in_ok-height.was c.number-2.ensures.reads
    (some_on _ c.in_ok-textures.was c.number-3.ensures.reads
    (then_on _ c.in_ok-textures-2.was c.textures.ensures
    (λ l4 h4 e4. some_on _ c.in_ok-commands.was c.number-4.ensures.reads
    (then_on _ c.in_ok-commands-2.was c.commands.ensures
    (λ l6 h6 e6. record { same = refl; is = end_more _ _ _ c.if-self.true })))))))

pub returns : goal.returns
unfolding a_file
returns c =
    let s = c.number-4.ensures.reads.same ∙ c.textures.ensures.same ∙ c.number-3.ensures.reads.same ∙ c.number-2.ensures.reads.same ∙ c.number.ensures.reads.same ∙ c.mark.ensures.same in
    let m : Summary = record { size = record { width = c.in_ok-width.width; height = c.in_ok-height.height }; textures = c.in_ok-textures.textures; commands = c.in_ok-commands.commands; start = c.number-4.new.self.at } in
    some_on _ c.in_ok-mark.was c.mark.ensures
    (some_on _ c.in_ok-width.was c.number.ensures.reads
    (some_on _ c.in_ok-height.was c.number-2.ensures.reads
    (some_on _ c.in_ok-textures.was c.number-3.ensures.reads
    (then_on _ c.in_ok-textures-2.was c.textures.ensures
    (λ l4 h4 e4. some_on _ c.in_ok-commands.was c.number-4.ensures.reads
    (then_on _ c.in_ok-commands-2.was c.commands.ensures
    (λ l6 h6 e6. record { same = refl; is = (_, (l4, l6, refl, h4, h6, within_too c.number-4.new.self _ s, found_there (times m.commands (command m)) c.number-4.new.self c.commands.new.self _ l6 s c.if-self.false e6), end_all _ _ _ c.if-self.false) })))))))
