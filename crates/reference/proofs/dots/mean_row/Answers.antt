use Rattle.std.proofs.Common.{◌≡◌, ℕ, ◌+◌, subst, arith}
use Rattle.reference.specs.Boxes.{in_box}
use Rattle.reference.specs.Dots.{Drawn}
use Rattle.reference.proofs.Regions.{across}
use Rattle.reference.proofs.Canvases.{drawn_more}
use Rattle.reference.proofs.dots.mean_row.Goals as goal

pub loop-i-preserved : goal.loop-i-preserved
loop-i-preserved c =
    let a = c.args in
    let o = c.loop-i in
    drawn_more (in_box 0 a.j o.i (a.j + 1)) (in_box o.i a.j (o.i + 1) (a.j + 1)) (in_box 0 a.j (o.i + 1) (a.j + 1)) a.canvas.now o.canvas c.mean_dot.new.canvas
    (across 0 o.i (o.i + 1) a.j (a.j + 1) (omega arith) (omega arith)) o.invariant c.mean_dot.ensures

pub mean_dot-requires : goal.mean_dot-requires
mean_dot-requires c =
    let f = c.loop-i.invariant.same.file in
    record { across = rw f (omega arith); down = rw f c.requires }

pub returns : goal.returns
returns c =
    let a = c.args in
    let o = c.loop-i in
    let e : o.i ≡ a.canvas.now.file.summary.size.width = omega arith in
    subst (λ (m : ℕ). Drawn (in_box 0 a.j m (a.j + 1)) a.canvas.now o.canvas) e o.invariant
