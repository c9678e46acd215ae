use Rattle.std.proofs.Common.{◌≡◌, ◌-◌, ◌≤◌, length, take, drop, refl, arith}
use Rattle.std.proofs.lemmas.List.{take_all, length-drop}
use Rattle.codec.proofs.Places.{bytes_there}
use Rattle.codec.proofs.reader.Reader.take.Goals as goal

pub returns-clause-reads : goal.returns-clause-reads
returns-clause-reads c =
    let r = c.args.self.now in
    let all : take (length r.bytes.now - r.at) (drop r.at r.bytes.now) ≡ drop r.at r.bytes.now = take_all _ _ (omega (arith, length-drop r.at r.bytes.now)) in
    let enough : c.args.n ≤ length (drop r.at r.bytes.now) = rw all at c.if-left-n.false in
    record { same = refl; is = rw all (bytes_there r.bytes.now r.at r.inside c.args.n (omega (arith, length-drop r.at r.bytes.now))) }
