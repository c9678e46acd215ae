use Rattle.std.proofs.Common.{◌+◌, ◌*◌, ◌&&◌, ltb, leb, pos}
use Rattle.meaning.specs.Meaning.{middle}
use Rattle.setup.specs.Boxes.{between}
use Rattle.setup.proofs.Spans.{spanned, crossed}
use Rattle.setup.proofs.bounds.bounds.Goals as goal

pub returns : goal.returns
unfolding middle
returns c i j =
    let a = c.args.triangle.a.at in
    let b = c.args.triangle.b.at in
    let d = c.args.triangle.c.at in
    let f = c.args.frame in
    let p = c.requires in
    let x = pos (256 * i + 128) in
    let y = pos (256 * j + 128) in
    crossed _ _ (leb f.left i && ltb i f.right) (between a.x b.x d.x x) (leb f.top j && ltb j f.bottom) (between a.y b.y d.y y)
    (spanned _ _ a.x b.x d.x x p.a.x p.b.x p.c.x (c.span-left.ensures i))
    (spanned _ _ a.y b.y d.y y p.a.y p.b.y p.c.y (c.span-top.ensures j))
