-- A loop of the code over a reader, against `times` of the definition.
-- Assumes nothing.
use Rattle.std.proofs.Common.{◌≡◌, ℕ, suc, ◌+◌, ◌-◌, ◌<◌, ◌≤◌, List, [], ◌∷◌, ◌++◌, length, Ok, Err, Result, sym, refl, ap, ◌∙◌, subst, append_assoc, append-nil, arith}
use Rattle.std.specs.Result.{IsErrAnd}
use Rattle.std.proofs.lemmas.List.{length_push}
use Rattle.std.proofs.lemmas.Result.{err_from_is_err_and}
use Rattle.codec.specs.declared.refusal.Refusal.{Refusal}
use Rattle.codec.specs.declared.reader.Reader.{Reader}
use Rattle.codec.specs.Refusals.{refusal_number, refusal_place}
use Rattle.codec.specs.Judged as judged
use Rattle.codec.specs.Judged.{Got, stop, got, then, times, give}
use Rattle.codec.specs.Reader.{Reads, ReadsSome, SomeList, left}
use Rattle.codec.proofs.Chains.{there, stopped, some_there, some_stopped}

-- i of n were read on the way from x to y
pub record Loop {A : Type 0} (read : judged.Reader A) (n i : ℕ) (x y : Reader) : Type 0 where
  pub same : y.bytes.now ≡ x.bytes.now
  pub done : List A
  pub long : length done ≡ i
  pub is : times n read (length x.bytes.now) (left x) ≡ then (times (n - i) read (length x.bytes.now) (left y)) (λ more rest. got (done ++ more) rest)

module _ {A : Type 0} where
  then_got : (m : Got (List A)) → m ≡ then m (λ more rest. got ([] ++ more) rest)
  then_got (stop k p) = refl
  then_got (got l rest) = refl

  then_more : (m : Got (List A)) (a : A) (d : List A) →
      then (then m (λ more rest. got (a ∷ more) rest)) (λ more rest. got (d ++ more) rest) ≡ then m (λ more rest. got ((d ++ a ∷ []) ++ more) rest)
  then_more (stop k p) a d = refl
  then_more (got l rest) a d = ap (λ (z : List A). got z rest) (sym (append_assoc d (a ∷ []) l))

  pub loop_start : (read : judged.Reader A) (n : ℕ) (x : Reader) → Loop read n 0 x x
  loop_start read n x = let e : n - 0 ≡ n = omega arith in record { same = refl; done = []; long = refl; is = rw e (then_got (times n read (length x.bytes.now) (left x))) }

  module _ {B : Type 0} {f : B → A} {read : judged.Reader A} {n i : ℕ} {x y z : Reader} {r : Result B Refusal} (o : Loop read n i x y) (h : Reads f read y r z) where
    pub loop_more : {b : B} → i < n → r ≡ Ok b → Loop read n (i + 1) x z
    unfolding times
    loop_more {b} l e =
        let k : n - i ≡ suc (n - (i + 1)) = omega arith in
        let g : read (length x.bytes.now) (left y) ≡ got (f b) (left z) = subst (λ (w : List ℕ). read (length w) (left y) ≡ got (f b) (left z)) o.same (there h e) in
        let t : times (n - i) read (length x.bytes.now) (left y) ≡ then (times (n - (i + 1)) read (length x.bytes.now) (left z)) (λ more rest. got (f b ∷ more) rest) = rw (k, g) in
        record {
          same = h.same ∙ o.same;
          done = o.done ++ f b ∷ [];
          long = length_push o.done (f b) ∙ ap (λ (j : ℕ). j + 1) o.long;
          is = o.is ∙ ap (λ (m : Got (List A)). then m (λ more rest. got (o.done ++ more) rest)) t ∙ then_more (times (n - (i + 1)) read (length x.bytes.now) (left z)) (f b) o.done;
        }

    pub loop_stop : {b : Refusal} {q : Result (Unit {0}) Refusal} → i < n → r ≡ Err b → IsErrAnd q (λ e. e ≡ b) → ReadsSome (SomeList n) (times n read) x q z
    unfolding times
    loop_stop {b} {q} l e d =
        let p = err_from_is_err_and q d in
        let k : n - i ≡ suc (n - (i + 1)) = omega arith in
        let g : read (length x.bytes.now) (left y) ≡ stop (refusal_number b) (refusal_place b) =
        subst (λ (w : List ℕ). read (length w) (left y) ≡ stop (refusal_number b) (refusal_place b)) o.same (stopped h e) in
        let t : times (n - i) read (length x.bytes.now) (left y) ≡ stop (refusal_number b) (refusal_place b) = rw (k, g) in
        record { same = h.same ∙ o.same; is = rw (p.1, p.2) (o.is ∙ rw t) }

  pub loop_end : (read : judged.Reader A) (n i : ℕ) (x y : Reader) (o : Loop read n i x y) → n ≤ i → times n read (length x.bytes.now) (left x) ≡ got o.done (left y)
  unfolding times
  loop_end read n i x y o l =
      let k : n - i ≡ 0 = omega arith in
      o.is ∙ rw (k, append-nil)

  -- the same where the code says only how many
  pub loop_reads : {read : judged.Reader A} {n i : ℕ} {x y : Reader} (o : Loop read n i x y) → n ≤ i → i ≤ n → ReadsSome (SomeList n) (times n read) x (Ok tt) y
  loop_reads {read} {n} {i} {x} {y} o l m = record { same = o.same; is = (o.done, omega (arith, o.long), loop_end read n i x y o l) }

  -- the same where the code says less
  module _ {B : Type 0} {R : B → A → Type 0} {read : judged.Reader A} {n i : ℕ} {x y z : Reader} {r : Result B Refusal} (o : Loop read n i x y) (h : ReadsSome R read y r z) where
    pub some_more : {b : B} → i < n → r ≡ Ok b → Loop read n (i + 1) x z
    some_more {b} l e = let w = some_there h e in let g : Reads (λ (a : A). a) read y (Ok w.0) z = record { same = h.same; is = w.2 } in loop_more o g l refl

    pub some_stop : {b : Refusal} {q : Result (Unit {0}) Refusal} → i < n → r ≡ Err b → IsErrAnd q (λ e. e ≡ b) → ReadsSome (SomeList n) (times n read) x q z
    some_stop {b} l e d = let g : Reads (λ (a : A). a) read y (Err b) z = record { same = h.same; is = some_stopped h e } in loop_stop o g l refl d
