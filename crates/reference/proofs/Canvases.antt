-- Lent memory that is drawn on, one region after the other.
-- Assumes nothing.
use Rattle.std.proofs.Common.{◌≡◌, ℕ, Bool, ◌||◌, refl, ◌∙◌, subst}
use Rattle.codec.specs.declared.taken.TakenFile.{TakenFile}
use Rattle.codec.specs.Taken.{commands_of}
use Rattle.reference.specs.declared.canvas.Canvas.{Canvas}
use Rattle.reference.specs.Dots.{SameCanvas, Drawn}
use Rattle.reference.specs.Shows.{Region}
use Rattle.reference.proofs.Regions.{region_more}

pub same_canvas : (x : Canvas) → SameCanvas x x
same_canvas x =
    record { file = refl; colours = record { name = refl; long = refl }; depths = record { name = refl; long = refl }; shown = record { name = refl; long = refl } }

pub still_same : (x y z : Canvas) → SameCanvas x y → SameCanvas y z → SameCanvas x z
still_same x y z a b =
    record {
      file = b.file ∙ a.file;
      colours = record { name = b.colours.name ∙ a.colours.name; long = b.colours.long ∙ a.colours.long };
      depths = record { name = b.depths.name ∙ a.depths.name; long = b.depths.long ∙ a.depths.long };
      shown = record { name = b.shown.name ∙ a.shown.name; long = b.shown.long ∙ a.shown.long };
    }

pub drawn_more : (A B R : ℕ → ℕ → Bool) (x y z : Canvas) → ((i j : ℕ) → R i j ≡ (A i j || B i j)) → Drawn A x y → Drawn B y z → Drawn R x z
drawn_more A B R x y z both a b =
    record {
      same = still_same x y z a.same b.same;
      meant = λ ts.
          region_more ts x.file.summary.size (commands_of x.file) x.colours.now x.depths.now x.shown.now A B R y.colours.now y.depths.now y.shown.now z.colours.now z.depths.now z.shown.now
          both (a.meant ts)
          (subst (λ (f : TakenFile). Region ts f.summary.size (commands_of f) B y.colours.now y.depths.now y.shown.now z.colours.now z.depths.now z.shown.now) a.same.file (b.meant ts));
    }
