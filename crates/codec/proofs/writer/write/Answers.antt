use Rattle.std.proofs.Common.{sym, refl, arith}
use Rattle.codec.proofs.Fitting.{list_fits}
use Rattle.codec.proofs.writer.write.Goals as goal

pub returns : goal.returns
returns c =
    let judged = sym c.in_ok-judge.ensures.value in
    record {
      judged = judged;
      fits = list_fits c.args.size c.args.textures.now c.args.dots.now c.args.commands.now (λ k. omega (arith, c.type_inv.dots k)) (c.in_ok-judge.ensures.typed refl) judged;
      file = rw c.new-out.ensures.items at c.in_ok-push_file.ensures;
    }
