use Rattle.std.proofs.Common.{sym, arith}
use Rattle.meaning.specs.Meaning.{blended}
use Rattle.meaning.proofs.Shares.{mean_near}
use Rattle.meaning.proofs.weights.Weights.blend.Goals as goal

pub returns : goal.returns
unfolding blended
returns c =
    let w = c.args.self in
    let p = c.from.ensures in
    let q = c.from-2.ensures in
    let r = c.from-3.ensures in
    record {
      value = cc;
      meaning = λ a b d m h. let i = h.a_is in let j = h.b_is in let k = h.c_is in let l = h.area_is in cc;
      bound = λ top hf hg hh. mean_near w.a w.b w.c w.area c.from.result c.from-2.result c.from-3.result top (sym w.sum) (omega arith) (omega arith) (omega arith);
    }
