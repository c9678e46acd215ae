use Rattle.std.proofs.Common.{◌≡◌, refl, ◌∙◌, subst, rules}
use Rattle.meaning.specs.declared.command.Command.{Command}
use Rattle.meaning.specs.declared.command.Command.TheVariants.{Pen, Look, Clear, Triangles, Show}
use Rattle.meaning.specs.Meaning.{Instruction, pen, look, clear, triangles, show, in_frame}
use Rattle.meaning.specs.Numbers.{header}
use Rattle.reference.proofs.Steps.{through_pen, through_clear, through_show}
use Rattle.reference.proofs.Canvases.{same_canvas}
use Rattle.maker.proofs.tiles.obey.Goals as goal

-- the instruction that a command stands for, unless it has triangles
abbrev Stands : Command → Instruction → Type 0
Stands (Pen p) x = x ≡ pen p
Stands (Look w) x = x ≡ look w
Stands (Clear c z) x = x ≡ clear c z
Stands (Triangles n) x = Unit {0}
Stands Show x = x ≡ show

stands : (x : Instruction) → Stands (header x) x
stands (pen p) = refl
stands (look w) = refl
stands (clear c z) = refl
stands (triangles l) = tt
stands show = refl

said : (x : Instruction) (c d : Command) → header x ≡ c → c ≡ d → Stands d x
said x c d e f = subst (λ (k : Command). Stands k x) (e ∙ f) (stands x)

pub returns-in-Pen-clause-obeyed : goal.returns-in-Pen-clause-obeyed
returns-in-Pen-clause-obeyed c =
    let a = c.args in
    let x = a.context in
    let y = a.canvas.now in
    record {
      same = same_canvas y;
      is = λ ts cs left next m e o.
          through_pen ts y.file.summary.size cs (in_frame a.tile) m.colours.now m.depths.now m.shown.now left x.pen x.view x.shown y.colours.now y.depths.now y.shown.now c.in-Pen.pen
          (rw (said next a.command (Pen c.in-Pen.pen) e c.in-Pen.is) at o);
    }

pub returns-in-Clear-clause-obeyed : goal.returns-in-Clear-clause-obeyed
returns-in-Clear-clause-obeyed c =
    let a = c.args in
    let x = a.context in
    let y = a.canvas.now in
    record {
      same = record { file = refl; colours = record { name = refl; long = search rules }; depths = record { name = refl; long = search rules }; shown = record { name = refl; long = refl } };
      is = λ ts cs left next m e o.
          through_clear ts y.file.summary.size cs (in_frame a.tile) m.colours.now m.depths.now m.shown.now left x.pen x.view x.shown y.colours.now y.depths.now y.shown.now
          (in_frame c.meet-frame.result) c.in-Clear.colour c.in-Clear.depth c.clear_box.new.colours c.clear_box.new.depths (search rules)
          c.meet-frame.ensures.is c.clear_box.ensures.colours c.clear_box.ensures.depths
          (rw (said next a.command (Clear c.in-Clear.colour c.in-Clear.depth) e c.in-Clear.is) at o);
    }

pub returns-in-Show-clause-obeyed : goal.returns-in-Show-clause-obeyed
returns-in-Show-clause-obeyed c =
    let a = c.args in
    let x = a.context in
    let y = a.canvas.now in
    record {
      same = record { file = refl; colours = record { name = refl; long = refl }; depths = record { name = refl; long = refl }; shown = record { name = refl; long = search rules } };
      is = λ ts cs left next m e o.
          through_show ts y.file.summary.size cs (in_frame a.tile) m.colours.now m.depths.now m.shown.now left x.pen x.view x.shown y.colours.now y.depths.now y.shown.now c.show_box.new.shown c.show_box.ensures
          (rw (said next a.command Show e c.in-Show.is) at o);
    }
