use Rattle.std.proofs.Common.{◌≡◌, ℕ, ◌+◌, subst, arith}
use Rattle.codec.specs.declared.taken.TakenFile.{TakenFile}
use Rattle.reference.specs.Boxes.{in_box}
use Rattle.reference.specs.Dots.{Drawn}
use Rattle.reference.proofs.Regions.{down}
use Rattle.reference.proofs.Canvases.{drawn_more}
use Rattle.reference.proofs.dots.DotByDotDraws.draw.Goals as goal

pub loop-j-preserved : goal.loop-j-preserved
loop-j-preserved c =
    let a = c.args in
    let o = c.loop-j in
    let w = a.canvas.now.file.summary.size.width in
    drawn_more (in_box 0 0 w o.j) (in_box 0 o.j w (o.j + 1)) (in_box 0 0 w (o.j + 1)) a.canvas.now o.canvas c.mean_row.new.canvas
    (down 0 w 0 o.j (o.j + 1) (omega arith) (omega arith)) o.invariant
    (subst (λ (f : TakenFile). Drawn (in_box 0 o.j f.summary.size.width (o.j + 1)) o.canvas c.mean_row.new.canvas) o.invariant.same.file c.mean_row.ensures)

pub mean_row-requires : goal.mean_row-requires
mean_row-requires c = rw c.loop-j.invariant.same.file (omega arith)

pub returns : goal.returns
returns c =
    let a = c.args in
    let o = c.loop-j in
    let s = a.canvas.now.file.summary.size in
    let e : o.j ≡ s.height = omega arith in
    subst (λ (m : ℕ). Drawn (in_box 0 0 s.width m) a.canvas.now o.canvas) e o.invariant
