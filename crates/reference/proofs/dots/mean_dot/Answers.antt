use Rattle.std.proofs.Common.{◌≡◌, ◌+◌, ◌*◌, get_or, refl, ap, ◌∙◌, arith, rules}
use Rattle.meaning.specs.declared.state.Dot.{Dot}
use Rattle.meaning.specs.Meaning.{after, begin}
use Rattle.codec.specs.Taken.{commands_of}
use Rattle.reference.proofs.Rows.{row_below}
use Rattle.reference.proofs.EachDot.{dot_colours, dot_depths, first_place}
use Rattle.reference.proofs.dots.mean_dot.Goals as goal

pub obey_all-dot-requires : goal.obey_all-dot-requires
obey_all-dot-requires c = record { across = c.requires.across; down = c.requires.down; room = c.args.canvas.now.room.shown }

pub returns : goal.returns
returns c =
    let a = c.args in
    let x = a.canvas.now in
    let s = x.file.summary.size in
    let cs = commands_of x.file in
    let e : c.place_of-place.result ≡ a.j * s.width + a.i = c.place_of-place.ensures ∙ first_place s.width s.height a.i a.j in
    record {
      same = record {
        file = refl;
        colours = record { name = refl; long = search rules };
        depths = record { name = refl; long = search rules };
        shown = record { name = refl; long = search rules };
      };
      meant = λ ts.
          let is = c.obey_all-dot.ensures.dot ts in
          record {
            colours = dot_colours s.width a.i a.j c.requires.across (λ i j k. get_or (after ts i j (begin s) cs).dot.colour k 0) c.obey_all-dot.result.colour x.colours.now c.put_dot.new.colours
                (λ k. ap (λ (d : Dot). get_or d.colour k 0) is) (rw e at c.put_dot.ensures.colours);
            depths = rw (c.put_dot.ensures.depths, e) (dot_depths s.width a.i a.j c.requires.across (λ i j. (after ts i j (begin s) cs).dot.depth) c.obey_all-dot.result.depth x.depths.now (ap (λ (d : Dot). d.depth) is)
                (omega (arith, row_below s.width a.j s.height c.requires.down, x.room.depths)));
            shown = c.obey_all-dot.ensures.shown ts;
          };
    }
