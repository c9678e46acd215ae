-- Commands read again from a file that was judged: each of them is there.
-- Assumes nothing.
use Rattle.std.proofs.Common.{◌≡◌, ℕ, zero, suc, ◌+◌, List, [], ◌∷◌, length, Ok, Err, Result, IsOk, sym, refl, ap, ◌∙◌, subst, arith}
use Rattle.meaning.specs.declared.command.Command.{Command}
use Rattle.meaning.specs.Meaning.{Instruction}
use Rattle.meaning.specs.Numbers.{header}
use Rattle.codec.specs.declared.reader.Reader.{Reader}
use Rattle.codec.specs.declared.refusal.Refusal.{Refusal}
use Rattle.codec.specs.declared.summary.Summary.{Summary}
use Rattle.codec.specs.Judged as judged
use Rattle.codec.specs.Judged.{Got, got, stop, then, times, Verdict}
use Rattle.codec.specs.Reader.{left, Headed, ReadsSome}
use Rattle.codec.specs.Verdicts.{command, Summed}
use Rattle.codec.specs.Walk as walk
use Rattle.codec.specs.Walk.{There, Coming, coming, listed, said}

-- a file that was taken has its commands where the summary says
module _ (file : List ℕ) (m : Summary) (v : Verdict) (h : Summed file m v) where
  pub same_list : listed file m ≡ h.1
  unfolding listed
  same_list = ap said h.6

  pub there : There file m
  there = record { within = h.5; is = h.6 ∙ ap (λ (l : List Instruction). got l []) (sym same_list) }

-- the first of several, and the others
pub record First {A : Type 0} (r : judged.Reader A) (n whole : ℕ) (l : List ℕ) (cs : List A) (rest : List ℕ) : Type 0 where
  pub first : A
  pub behind : List ℕ
  pub others : List A
  pub reads : r whole l ≡ got first behind
  pub both : cs ≡ first ∷ others
  pub again : times n r whole behind ≡ got others rest

times_first : {A : Type 0} (r : judged.Reader A) (n whole : ℕ) (l : List ℕ) (cs : List A) (rest : List ℕ) → times (suc n) r whole l ≡ got cs rest → First r n whole l cs rest
unfolding times
times_first {A = A} r n whole l cs rest h = go (r whole l) refl h
  where
    inner : (a : A) (l' : List ℕ) → r whole l ≡ got a l' → (m : Got (List A)) → times n r whole l' ≡ m → then m (λ more end. got (a ∷ more) end) ≡ got cs rest → First r n whole l cs rest
    inner a l' e (stop k p) f g = absurd (let z : ◌≡◌ {A = ℕ} 0 1 = cc in omega arith)
    inner a l' e (got more end) f g =
        let p : a ∷ more ≡ cs = cc in
        let q : end ≡ rest = cc in
        record { first = a; behind = l'; others = more; reads = e; both = sym p; again = f ∙ ap (λ (x : List ℕ). got more x) q }

    go : (m : Got A) → r whole l ≡ m → then m (λ a l'. then (times n r whole l') (λ more end. got (a ∷ more) end)) ≡ got cs rest → First r n whole l cs rest
    go (stop k p) e g = absurd (let z : ◌≡◌ {A = ℕ} 0 1 = cc in omega arith)
    go (got a l') e g = inner a l' e (times n r whole l') refl g

-- as many as were to be read
pub times_long : {A : Type 0} (r : judged.Reader A) (n whole : ℕ) (l : List ℕ) (cs : List A) (rest : List ℕ) → times n r whole l ≡ got cs rest → length cs ≡ n
unfolding times
times_long r zero whole l cs rest h = let p : [] ≡ cs = cc in ap length (sym p)
times_long r (suc n) whole l cs rest h =
    let f = times_first r n whole l cs rest h in ap length f.both ∙ ap suc (times_long r n whole f.behind f.others rest f.again)

stopped : {A : Type 0} (a : A) (l : List ℕ) {n p : ℕ} → got a l ≡ stop n p → ⊥
stopped a l e = cc

-- the command that a reader gave is that of the first of some instructions, and k others come
pub record Others (m : Summary) (k : ℕ) (cs : List Instruction) (c : Command) (s : Reader) : Type 0 where
  pub next : Instruction
  pub head : header next ≡ c
  pub coming : Coming m k s
  pub both : cs ≡ next ∷ walk.coming m k s

-- n commands that come from where a reader is
module _ (m : Summary) (n : ℕ) (r : Reader) (cs : List Instruction) (h : times n (command m) (length r.bytes.now) (left r) ≡ got cs []) where
  pub none_comes : n ≡ 0 → cs ≡ []
  unfolding times
  none_comes z =
      let e : got [] (left r) ≡ got cs [] = rw z at h in
      let p : [] ≡ cs = cc in
      sym p

  module _ (k : ℕ) (z : n ≡ k + 1) where
    one : First (command m) k (length r.bytes.now) (left r) cs []
    one = let e : n ≡ suc k = omega arith in times_first (command m) k (length r.bytes.now) (left r) cs [] (rw e at h)

    -- the reader does not refuse the first of them
    pub one_comes : (a : Result Command Refusal) (s : Reader) → ReadsSome Headed (command m) r a s → IsOk a
    one_comes (Ok c) s o = refl
    one_comes (Err e) s o = absurd (stopped one.first one.behind (sym one.reads ∙ o.is))

    -- what it is, and those behind it
    pub others_come : (c : Command) (s : Reader) → ReadsSome Headed (command m) r (Ok c) s → Others m k cs c s
    unfolding coming
    others_come c s o =
        let e : got one.first one.behind ≡ got o.is.0 (left s) = sym one.reads ∙ o.is.2 in
        let p : one.first ≡ o.is.0 = cc in
        let q : one.behind ≡ left s = cc in
        let t : times k (command m) (length s.bytes.now) (left s) ≡ got one.others [] =
        subst (λ (b : List ℕ). times k (command m) (length b) (left s) ≡ got one.others []) (sym o.same) (rw (← q) one.again) in
        let u : one.others ≡ coming m k s = ap said (sym t) in
        record {
          next = o.is.0;
          head = o.is.1;
          coming = t ∙ ap (λ (l : List Instruction). got l []) u;
          both = one.both ∙ ap (λ (x : Instruction). x ∷ one.others) p ∙ ap (λ (l : List Instruction). o.is.0 ∷ l) u;
        }
