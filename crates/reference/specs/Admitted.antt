-- What is known once a file and the memory lent for it were judged. Assumes nothing.
use Rattle.std.specs.Prelude.{◌≡◌, ℕ, ◌*◌, ◌≤◌, List, Ok, Err, Result}
use Rattle.meaning.specs.Meaning.{Image}
use Rattle.meaning.specs.Fits.{ListFits}
use Rattle.codec.specs.declared.refusal.Refusal.{Refusal}
use Rattle.codec.specs.Refusals.{refusal_number, refusal_place}
use Rattle.codec.specs.Judged.{Verdict, refused, taken, judged}
use Rattle.codec.specs.Kinds.{built_yet}
use Rattle.codec.specs.Shows.{shows}
use Rattle.codec.specs.Walk.{There, listed}
use Rattle.reference.specs.declared.job.Job.{Job}
use Rattle.reference.specs.declared.job.Needs.{Needs}
use Rattle.reference.specs.declared.job.Task.{Task}
use Rattle.reference.specs.declared.lengths.Lengths.{Lengths}
use Rattle.reference.specs.Made.{dots, work_for, shown_for, lent}

-- the file is taken, its commands can be read again, they are in bounds, and these are the lengths that they need
pub record Sized (file : List ℕ) (n : Needs) : Type 0 where
  pub images : List Image
  pub verdict : judged built_yet file ≡ taken n.summary.size images (listed file n.summary)
  pub there : There file n.summary
  pub fits : ListFits n.summary.size images (listed file n.summary)
  pub many : n.shows ≡ shows (listed file n.summary)
  pub colours : n.lengths.colours ≡ dots n.summary.size * 3
  pub depths : n.lengths.depths ≡ dots n.summary.size
  pub work : n.lengths.work ≡ work_for n.summary.size (listed file n.summary)
  pub shown : n.lengths.shown ≡ shown_for n.summary.size (listed file n.summary)

abbrev pub Measured : List ℕ → Result Needs Refusal → Type 0
Measured file (Ok n) = Sized file n
Measured file (Err e) = judged built_yet file ≡ refused (refusal_number e) (refusal_place e)

-- what a task needs
abbrev pub needs_of : Task → Needs
needs_of t = record { summary = t.file.summary; shows = t.shows; lengths = t.lengths }

abbrev pub Assessed : List ℕ → Result Task Refusal → Type 0
Assessed file (Ok t) = (t.file.bytes.now ≡ file) × Sized file (needs_of t)
Assessed file (Err e) = Measured file (Err e)

-- a file's verdict, with memory of these lengths judged last
abbrev pub verdict_over : Lengths → List ℕ → Verdict
verdict_over l file = lent (judged built_yet file) l.colours l.depths l.work l.shown

-- the file is taken, its commands can be read again, they are in bounds, and there is room for the picture and for what is shown
pub record Ready (file : List ℕ) (l : Lengths) (j : Job) : Type 0 where
  pub images : List Image
  pub verdict : verdict_over l file ≡ taken j.summary.size images (listed file j.summary)
  pub there : There file j.summary
  pub fits : ListFits j.summary.size images (listed file j.summary)
  pub many : j.shows ≡ shows (listed file j.summary)
  pub colours : dots j.summary.size * 3 ≤ l.colours
  pub depths : dots j.summary.size ≤ l.depths
  pub room : shown_for j.summary.size (listed file j.summary) ≤ l.shown

abbrev pub Admitted : List ℕ → Lengths → Result Job Refusal → Type 0
Admitted file l (Ok j) = Ready file l j
Admitted file l (Err e) = verdict_over l file ≡ refused (refusal_number e) (refusal_place e)

-- the job of a task
abbrev pub job_of : Task → Job
job_of t = record { summary = t.file.summary; shows = t.shows }

abbrev pub Accepted : List ℕ → Lengths → Result Task Refusal → Type 0
Accepted file l (Ok t) = (t.file.bytes.now ≡ file) × Ready file l (job_of t)
Accepted file l (Err e) = Admitted file l (Err e)
