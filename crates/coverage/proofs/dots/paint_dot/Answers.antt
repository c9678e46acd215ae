use Rattle.std.proofs.Common.{◌≡◌, ◌+◌, ◌*◌, ◌<◌, true, length, get_or, sym, ap, ◌∙◌, subst, arith}
use Rattle.std.proofs.lemmas.Bool.{and_parts, cond-true}
use Rattle.meaning.specs.declared.geometry.Place.{Place}
use Rattle.meaning.specs.declared.state.Dot.{Dot}
use Rattle.meaning.specs.Meaning.{middle, covers, painted, if_covered}
use Rattle.meaning.specs.Textures.{image_if}
use Rattle.meaning.specs.Weights.{holds}
use Rattle.reference.specs.Changes.{dot_of}
use Rattle.reference.proofs.Rows.{row_below}
use Rattle.reference.proofs.EachDot.{dot_colours, dot_depths}
use Rattle.coverage.specs.Spots.{spot}
use Rattle.coverage.proofs.dots.paint_dot.Goals as goal

pub returns : goal.returns
unfolding if_covered
returns c =
    let a = c.args in
    let f = a.fragment in
    let w = a.size.width in
    let t = image_if a.brush.texture in
    let n = f.triangle in
    let C = a.colours.now in
    let D = a.depths.now in
    let deep : a.j * w + a.i < length D = omega (arith, row_below w a.j a.size.height c.requires.down) in
    let first : 0 * a.size.height + a.j ≡ a.j = omega arith in
    let e : c.place_of-place.result ≡ a.j * w + a.i = c.place_of-place.ensures ∙ ap (λ k. k * w + a.i) first in
    let was : c.dot_at.result ≡ dot_of w C D a.i a.j = c.dot_at.ensures ∙ ap (spot C D) e in
    let inside : covers n.a n.b n.c (middle a.i a.j) ≡ true = (and_parts _ _ (subst (λ (m : Place). holds n.a n.b n.c m ≡ true) c.requires.place f.weighs.held)).1 in
    let is : c.paint-dot.result ≡ if_covered t a.brush.pen n.a n.b n.c (middle a.i a.j) (dot_of w C D a.i a.j) =
    c.paint-dot.ensures ∙ (λ k. painted t a.brush.pen n.a n.b n.c (c.requires.place k) (was k)) ∙ sym (cond-true (covers n.a n.b n.c (middle a.i a.j)) _ _ inside) in
    record {
      colours = dot_colours w a.i a.j c.requires.across (λ i j k. get_or (if_covered t a.brush.pen n.a n.b n.c (middle i j) (dot_of w C D i j)).colour k 0) c.paint-dot.result.colour C c.put_dot.new.colours
          (λ k. ap (λ (d : Dot). get_or d.colour k 0) is) (rw e at c.put_dot.ensures.colours);
      depths =
          rw (c.put_dot.ensures.depths, e)
          (dot_depths w a.i a.j c.requires.across (λ i j. (if_covered t a.brush.pen n.a n.b n.c (middle i j) (dot_of w C D i j)).depth) c.paint-dot.result.depth D (ap (λ (d : Dot). d.depth) is) deep);
    }
