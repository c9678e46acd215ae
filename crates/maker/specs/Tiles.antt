-- What the commands of a file leave of a part of the picture.
-- Assumes nothing: these are definitions.
use Rattle.std.specs.Prelude.{◌≡◌, List, ◌∷◌}
use Rattle.meaning.specs.declared.command.Command.{Command}
use Rattle.meaning.specs.declared.pen.Frame.{Frame}
use Rattle.meaning.specs.declared.state.Size.{Size}
use Rattle.meaning.specs.Meaning.{Image, Instruction, in_frame}
use Rattle.meaning.specs.Numbers.{header}
use Rattle.reference.specs.declared.canvas.Canvas.{Canvas}
use Rattle.reference.specs.Shows.{Through}
use Rattle.reference.specs.Dots.{SameCanvas, Drawn}
use Rattle.maker.specs.declared.tiles.Context.{Context}

-- all commands of the file were done for the dots of a frame
abbrev pub Painted : Frame → Canvas → Canvas → Type 0
Painted f = Drawn (in_frame f)

-- some of the commands cs were done for the dots of a frame, with `left` to come: from x to y, with c behind them
abbrev pub Midway : List Image → Size → List Instruction → Frame → Canvas → List Instruction → Context → Canvas → Type 0
Midway ts s cs f x left c y =
    Through ts s cs (in_frame f) x.colours.now x.depths.now x.shown.now left c.pen c.view c.shown y.colours.now y.depths.now y.shown.now

-- one more command was done for the dots of a frame: whatever was done before, what is left are the commands behind it
pub record Obeyed (c : Command) (f : Frame) (before : Context) (x : Canvas) (behind : Context) (y : Canvas) : Type 0 where
  pub same : SameCanvas x y
  pub is : (ts : List Image) (cs left : List Instruction) (next : Instruction) (start : Canvas) → header next ≡ c →
      Midway ts x.file.summary.size cs f start (next ∷ left) before x → Midway ts x.file.summary.size cs f start left behind y
