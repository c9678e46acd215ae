-- How lent memory is judged, and what a call then leaves.
-- Assumes nothing.
use Rattle.std.proofs.Common.{◌≡◌, ℕ, ◌*◌, ◌≤◌, false, ◌||◌, ltb, List, [], length, drop, Ok, Err, Result, sym, refl, ap, ◌∙◌, subst}
use Rattle.std.proofs.lemmas.Bool.{le-ltb, or_from}
use Rattle.meaning.specs.declared.state.Size.{Size}
use Rattle.meaning.specs.Meaning.{Image, Instruction, shown}
use Rattle.codec.specs.declared.refusal.Refusal.{Refusal}
use Rattle.codec.specs.declared.taken.TakenFile.{TakenFile}
use Rattle.codec.specs.Judged.{Verdict, taken, judged}
use Rattle.codec.specs.Kinds.{built_yet}
use Rattle.codec.specs.Shows.{shows}
use Rattle.codec.proofs.Files.{read_back}
use Rattle.codec.specs.Taken.{commands_of}
use Rattle.codec.specs.Walk.{listed}
use Rattle.reference.specs.declared.job.Job.{Job}
use Rattle.reference.specs.declared.job.Task.{Task}
use Rattle.reference.specs.Boxes.{in_box}
use Rattle.reference.specs.declared.canvas.Canvas.{Canvas}
use Rattle.reference.specs.declared.lengths.Lengths.{Lengths}
use Rattle.reference.specs.Dots.{Drawn}
use Rattle.reference.specs.Shows.{Region, Room}
use Rattle.reference.specs.Whole.{pictures_in}
use Rattle.reference.specs.Made.{dots, work_for, shown_for, lent, Leaves, Made, MadeIsMeant}
use Rattle.reference.specs.Admitted.{Ready, Accepted, job_of, verdict_over}
use Rattle.reference.proofs.Wholes.{whole, pictures_cut, many_pictures}

-- ---- where enough is lent the verdict stays
pub enough : (s : Size) (ts : List Image) (cs : List Instruction) (c d w h : ℕ) → dots s * 3 ≤ c → dots s ≤ d → work_for s cs ≤ w → shown_for s cs ≤ h →
    lent (taken s ts cs) c d w h ≡ taken s ts cs
enough s ts cs c d w h hc hd hw hs =
    let picture : (ltb c (dots s * 3) || ltb d (dots s)) ≡ false = or_from _ _ (le-ltb c (dots s * 3) hc) (le-ltb d (dots s) hd) in
    rw (picture, le-ltb w (work_for s cs) hw, le-ltb h (shown_for s cs) hs)

-- ---- what a call leaves
module _ (file C D W S : List ℕ) (l : Lengths) (colours : l.colours ≡ length C) (depths : l.depths ≡ length D) (work : l.work ≡ length W) (shown : l.shown ≡ length S) where
  lent_so : verdict_over l file ≡ lent (judged built_yet file) (length C) (length D) (length W) (length S)
  lent_so = rw (colours, depths, work, shown)

  pub made_none : (e : Refusal) → Accepted file l (Err e) → Made file C D W S (Err e) C D W S
  made_none e h = subst (λ (v : Verdict). Leaves v C D W S (Err e) C D W S) (sym h ∙ lent_so) (refl, refl, refl, refl, refl, refl)

  -- there is room for what the job names
  room_needed : (j : Job) → Ready file l j → Room j.summary.size (shows (listed file j.summary)) C D S
  room_needed j r = record { colours = rw (← colours) r.colours; depths = rw (← depths) r.depths; shown = rw (← shown) r.room }

  -- what the task's file commands, over its own bytes
  same_list : (t : Task) → t.file.bytes.now ≡ file → listed file t.file.summary ≡ commands_of t.file
  same_list t o = ap (λ (b : List ℕ). listed b t.file.summary) (sym o)

  pub room_lent : (t : Task) → t.file.bytes.now ≡ file → Ready file l (job_of t) → Room t.file.summary.size (shows (commands_of t.file)) C D S
  room_lent t o r = subst (λ (cs : List Instruction). Room t.file.summary.size (shows cs) C D S) (same_list t o) (room_needed (job_of t) r)

  pub made_all : (j : Job) (C' D' W' S' : List ℕ) (r : Ready file l j) → length C' ≡ length C → length D' ≡ length D → length S' ≡ length S →
      Region r.images j.summary.size (listed file j.summary) (in_box 0 0 j.summary.size.width j.summary.size.height) C D S C' D' S' →
      Made file C D W S (Ok j.shows) C' D' W' S'
  made_all j C' D' W' S' r lc ld ls o =
      subst (λ (v : Verdict). Leaves v C D W S (Ok j.shows) C' D' W' S') (sym r.verdict ∙ lent_so)
      (r.many, whole r.images j.summary.size (listed file j.summary) C D S C' D' S' r.fits (room_needed j r) lc ld ls o)

  -- x is the canvas of the lent slices, and C', D' and S' are what they hold in the end
  pub made_drawn : (t : Task) (x y : Canvas) (C' D' S' : List ℕ) → t.file.bytes.now ≡ file → Ready file l (job_of t) → x.file ≡ t.file → x.colours.now ≡ C → x.depths.now ≡ D → x.shown.now ≡ S →
      Drawn (in_box 0 0 x.file.summary.size.width x.file.summary.size.height) x y →
      C' ≡ y.colours.now → D' ≡ y.depths.now → S' ≡ y.shown.now → Made file C D W S (Ok t.shows) C' D' W S'
  made_drawn t x y C' D' S' n r f p q s o c d e =
      let u = t.file.summary.size in
      let region : Region r.images u (listed file t.file.summary) (in_box 0 0 u.width u.height) x.colours.now x.depths.now x.shown.now y.colours.now y.depths.now y.shown.now =
      subst (λ (is : List Instruction). Region r.images u is (in_box 0 0 u.width u.height) x.colours.now x.depths.now x.shown.now y.colours.now y.depths.now y.shown.now) (sym (same_list t n))
      (subst (λ (k : TakenFile). Region r.images k.summary.size (commands_of k) (in_box 0 0 k.summary.size.width k.summary.size.height) x.colours.now x.depths.now x.shown.now y.colours.now y.depths.now y.shown.now)
      f (o.meant r.images)) in
      rw (c, d, e)
      (made_all (job_of t) y.colours.now y.depths.now W y.shown.now r (rw (← p) o.same.colours.long) (rw (← q) o.same.depths.long) (rw (← s) o.same.shown.long) (rw (p, q, s) at region))

-- ---- the pictures that are made are those that the commands mean
pub made_is_meant : MadeIsMeant
made_is_meant file C D W S r C' D' W' S' made s ts cs fits built is more =
    let verdict : judged built_yet file ≡ taken s ts cs = ap (λ (b : List ℕ). judged built_yet b) is ∙ read_back built_yet s ts cs fits built in
    let all : lent (judged built_yet file) (length C) (length D) (length W) (length S) ≡ taken s ts cs =
    ap (λ (v : Verdict). lent v (length C) (length D) (length W) (length S)) verdict
    ∙ enough s ts cs (length C) (length D) (length W) (length S) more.colours more.depths more.work more.shown in
    go r (subst (λ (v : Verdict). Leaves v C D W S r C' D' W' S') all made)
  where
    go : (r : Result ℕ Refusal) → Leaves (taken s ts cs) C D W S r C' D' W' S' →
        (r ≡ Ok (length (shown ts s [] cs))) × (pictures_in (length (shown ts s [] cs)) s S' ≡ shown ts s [] cs)
    go (Err e) l = absurd l
    go (Ok k) l =
        let n : length (shown ts s [] cs) ≡ shows cs = many_pictures ts s cs in (
          ap (λ (i : ℕ). Ok i) (l.0 ∙ sym n),
          ap (λ (i : ℕ). pictures_in i s S') n ∙ ap (λ (z : List ℕ). pictures_in (shows cs) s z) l.1.shown ∙ pictures_cut ts s cs (drop (shown_for s cs) S) fits,
        )
