use Rattle.std.proofs.Common.{◌≡◌, ℕ, ◌<◌, List, Ok, get_or, sym, ap, ◌∙◌, subst}
use Rattle.meaning.specs.Fits.{ListFits}
use Rattle.codec.specs.declared.taken.TakenFile.{TakenFile}
use Rattle.codec.specs.Judged.{judged, taken}
use Rattle.codec.specs.Kinds.{built_yet}
use Rattle.codec.specs.Walk.{There, listed}
use Rattle.codec.specs.Taken.{commands_of, TakenIs}
use Rattle.codec.proofs.Files.{written_so}
use Rattle.codec.proofs.Walks.{same_list}
use Rattle.reference.proofs.job.assess.Goals as goal

module _ (file : List ℕ) (t : TakenFile) (h : TakenIs file (Ok t)) where
  -- the file's verdict, by the list that is read again
  verdict : judged built_yet file ≡ taken t.summary.size h.1.0 (commands_of t)
  verdict =
      let e : commands_of t ≡ listed file t.summary = ap (λ (b : List ℕ). listed b t.summary) h.0 in
      h.1.2 ∙ ap (taken t.summary.size h.1.0) (sym (e ∙ same_list file t.summary (judged built_yet file) h.1))

  -- a file that is taken is in bounds
  bounds : ((k : ℕ) → get_or file k 0 < 256) → ListFits t.summary.size h.1.0 (commands_of t)
  bounds below = (written_so built_yet file t.summary.size h.1.0 (commands_of t) below verdict).0

pub returns : goal.returns
returns c =
    let f = c.args.file.now in
    let t = c.in_ok-file.file in
    let h = c.in_ok-file.ensures in
    let same = ap (λ (b : List ℕ). listed b t.summary) h.0 in
    let eh = c.from-height.ensures in
    let ew = c.from-width.ensures in
    let en = c.counts-counts.ensures.shows in
    let et = c.counts-counts.ensures.triangles in (
      h.0,
      record {
        images = h.1.0;
        verdict = rw same at (verdict f t h);
        there = subst (λ (b : List ℕ). There b t.summary) h.0 t.there;
        fits = rw same at (bounds f t h (λ k. (c.type_inv.file k).fits));
        many = rw same at en;
        colours = cc;
        depths = cc;
        work = cc;
        shown = cc;
      },
    )
