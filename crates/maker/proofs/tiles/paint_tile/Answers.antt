use Rattle.std.proofs.Common.{◌≤◌, ◌∷◌, ap, ◌≡◌, ℕ, ◌+◌, List, [], get_or, sym, refl, subst, arith, rules}
use Rattle.meaning.specs.declared.command.Command.{Command}
use Rattle.meaning.specs.declared.pen.Frame.{Frame}
use Rattle.meaning.specs.declared.state.Size.{Size}
use Rattle.meaning.specs.declared.state.State.{State}
use Rattle.meaning.specs.Meaning.{Image, Instruction, in_frame, begin}
use Rattle.meaning.specs.Numbers.{header}
use Rattle.codec.specs.declared.taken.TakenFile.{TakenFile}
use Rattle.codec.specs.Shows.{counts, shows}
use Rattle.codec.specs.Taken.{commands_of, to_come}
use Rattle.codec.proofs.Given.{one_fewer, total_more}
use Rattle.reference.specs.declared.canvas.Canvas.{Canvas}
use Rattle.reference.specs.Boxes.{Colours, Depths}
use Rattle.reference.specs.Shows.{Through}
use Rattle.reference.proofs.Steps.{through_start, through_end}
use Rattle.reference.proofs.Canvases.{still_same}
use Rattle.maker.specs.Tiles.{Midway, Obeyed}
use Rattle.maker.specs.declared.tiles.Context.{Context}
use Rattle.maker.proofs.tiles.paint_tile.Goals as goal

-- before the first command: C and D are the picture with the dots of the frame cleared
start : (ts : List Image) (s : Size) (cs : List Instruction) (f : Frame) (b : State) (x : Canvas) (C D : List ℕ) → b ≡ begin s →
    Colours s.width (in_frame f) (λ i j c. get_or b.dot.colour c 0) x.colours.now C → Depths s.width (in_frame f) (λ i j. b.dot.depth) x.depths.now D →
    Through ts s cs (in_frame f) x.colours.now x.depths.now x.shown.now cs b.pen b.view 0 C D x.shown.now
start ts s cs f b x C D e =
    subst (λ (n : State). Colours s.width (in_frame f) (λ i j c. get_or n.dot.colour c 0) x.colours.now C → Depths s.width (in_frame f) (λ i j. n.dot.depth) x.depths.now D →
    Through ts s cs (in_frame f) x.colours.now x.depths.now x.shown.now cs n.pen n.view 0 C D x.shown.now) (sym e)
    (through_start ts s cs (in_frame f) x.colours.now x.depths.now x.shown.now C D)

-- one command more, on a canvas that is still the one of the file
one_more : (c : Command) (f : Frame) (before behind : Context) (x y : Canvas) (s : Size) → x.file.summary.size ≡ s → Obeyed c f before x behind y →
    (ts : List Image) (cs left all : List Instruction) (next : Instruction) (start : Canvas) → header next ≡ c → all ≡ next ∷ left →
    Midway ts s cs f start all before x → Midway ts s cs f start left behind y
one_more c f before behind x y s e o ts cs left all next start h k m =
    subst (λ (n : Size). Midway ts n cs f start left behind y) e
    (o.is ts cs left next start h
    (subst (λ (n : Size). Midway ts n cs f start (next ∷ left) before x) (sym e)
    (subst (λ (l : List Instruction). Midway ts s cs f start l before x) k m)))

pub obey-context-requires-clause-inside : goal.obey-context-requires-clause-inside
obey-context-requires-clause-inside c =
    subst (λ (f : TakenFile). c.args.tile.bottom ≤ f.summary.size.height) (sym c.loop-command.invariant.3.file) c.requires

pub obey-context-requires-clause-few : goal.obey-context-requires-clause-few
obey-context-requires-clause-few c =
    omega (arith, one_fewer c.loop-command.command-iterator c.next.new.self c.in-Some.command c.in-Some.ensures.steps, c.loop-command.invariant.2)

pub obey-context-requires-clause-room : goal.obey-context-requires-clause-room
obey-context-requires-clause-room c =
    let a = c.args in
    let x = a.canvas.now in
    let f = x.file in
    let l = c.loop-command in
    let e = total_more l.command-iterator c.next.new.self c.in-Some.command c.in-Some.ensures.steps counts in
    let o = l.invariant.4 [] x (start [] f.summary.size (commands_of f) a.tile c.begin-begin.result x c.clear_box.new.colours c.clear_box.new.depths c.begin-begin.ensures c.clear_box.ensures.colours c.clear_box.ensures.depths) in
    subst (λ (g : TakenFile). l.context.shown + counts c.in-Some.command ≤ shows (commands_of g)) (sym l.invariant.3.file) (omega (arith, o.many, e))

pub loop-command-preserved : goal.loop-command-preserved
loop-command-preserved c =
    let a = c.args in
    let l = c.loop-command in
    let t = c.next.new.self in
    let o = c.in-Some.ensures.steps in
    let k = one_fewer l.command-iterator t c.in-Some.command o in
    let p = c.obey-context.ensures.obeyed in (
      tt,
      tt,
      omega (arith, k, c.obey-context.ensures.few, l.invariant.2),
      still_same _ l.canvas c.obey-context.new.canvas l.invariant.3 p.same,
      λ ts x m.
          one_more c.in-Some.command a.tile l.context c.obey-context.result l.canvas c.obey-context.new.canvas a.canvas.now.file.summary.size (ap (λ (f : TakenFile). f.summary.size) l.invariant.3.file) p
          ts (commands_of a.canvas.now.file) (to_come t) (to_come l.command-iterator) o.1.0 x o.1.1 o.1.2 (l.invariant.4 ts x m),
    )

pub returns : goal.returns
returns c =
    let a = c.args in
    let x = a.canvas.now in
    let s = x.file.summary.size in
    let cs = commands_of x.file in
    let l = c.loop-command in
    let m = l.context in
    record {
      same = still_same x _ l.canvas (record {
        file = refl;
        colours = record { name = refl; long = search rules };
        depths = record { name = refl; long = search rules };
        shown = record { name = refl; long = refl };
      }) l.invariant.3;
      meant = λ ts.
          through_end ts s cs (in_frame a.tile) x.colours.now x.depths.now x.shown.now [] m.pen m.view m.shown l.canvas.colours.now l.canvas.depths.now l.canvas.shown.now
          (subst (λ (left : List Instruction). Midway ts s cs a.tile x left m l.canvas) c.in-None.ensures.steps.0
          (l.invariant.4 ts x (start ts s cs a.tile c.begin-begin.result x c.clear_box.new.colours c.clear_box.new.depths c.begin-begin.ensures c.clear_box.ensures.colours c.clear_box.ensures.depths)));
    }
