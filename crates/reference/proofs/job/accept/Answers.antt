use Rattle.std.proofs.Common.{ap, ◌∙◌, arith}
use Rattle.codec.specs.Judged.{Verdict}
use Rattle.codec.specs.Walk.{listed}
use Rattle.reference.specs.Made.{lent}
use Rattle.reference.proofs.Entering.{enough}
use Rattle.reference.proofs.job.accept.Goals as goal

pub returns : goal.returns
returns c =
    let t = c.in_ok-task.task in
    let h = c.in_ok-task.ensures.1 in
    let l = c.args.lent in (
      c.in_ok-task.ensures.0,
      record {
        images = h.images;
        verdict =
            ap (λ (v : Verdict). lent v l.colours l.depths l.work l.shown) h.verdict
            ∙ enough t.file.summary.size h.images (listed c.args.file.now t.file.summary) l.colours l.depths l.work l.shown (omega arith) (omega arith) (omega arith) (omega arith);
        there = h.there;
        fits = h.fits;
        many = h.many;
        colours = omega arith;
        depths = omega arith;
        room = omega arith;
      },
    )
