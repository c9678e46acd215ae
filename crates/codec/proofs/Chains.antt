-- A reader of the code that calls others by `?`, against one of the definition that is made of theirs.
-- Assumes nothing.
use Rattle.std.proofs.Common.{◌≡◌, ℕ, ◌≤◌, List, [], length, drop, Ok, Err, Result, sym, refl, ap, ◌∙◌, subst}
use Rattle.std.specs.Result.{IsErrAnd}
use Rattle.std.proofs.lemmas.List.{drop_all}
use Rattle.std.proofs.lemmas.Result.{err_from_is_err_and}
use Rattle.codec.specs.declared.refusal.Refusal.{Refusal}
use Rattle.codec.specs.declared.reader.Reader.{Reader}
use Rattle.codec.specs.Refusals.{refusal_number, refusal_place}
use Rattle.codec.specs.Judged as judged
use Rattle.codec.specs.Judged.{then, ◌>>=◌}
use Rattle.codec.specs.Reader.{Reads, ReadsSome, answer, Answers, left}

-- what was read before a `?` that goes on, and before one that goes out
module _ {A B : Type 0} {f : B → A} {read : judged.Reader A} {x y : Reader} {r : Result B Refusal} (h : Reads f read x r y) where
  pub there : {b : B} → r ≡ Ok b → read (length x.bytes.now) (left x) ≡ judged.got (f b) (left y)
  there e = h.is ∙ ap (λ (o : Result B Refusal). answer f o (left y)) e

  pub stopped : {b : Refusal} → r ≡ Err b → read (length x.bytes.now) (left x) ≡ judged.stop (refusal_number b) (refusal_place b)
  stopped e = h.is ∙ ap (λ (o : Result B Refusal). answer f o (left y)) e

module _ {A B : Type 0} {R : B → A → Type 0} {read : judged.Reader A} {x y : Reader} {r : Result B Refusal} (h : ReadsSome R read x r y) where
  pub some_there : {b : B} → r ≡ Ok b → Answers R (read (length x.bytes.now) (left x)) (Ok b) (left y)
  some_there e = subst (λ (o : Result B Refusal). Answers R (read (length x.bytes.now) (left x)) o (left y)) e h.is

  pub some_stopped : {b : Refusal} → r ≡ Err b → read (length x.bytes.now) (left x) ≡ judged.stop (refusal_number b) (refusal_place b)
  some_stopped e = subst (λ (o : Result B Refusal). Answers R (read (length x.bytes.now) (left x)) o (left y)) e h.is

module _ {A B C D : Type 0} {f : B → A} {g : D → C} {read : judged.Reader A} {x y : Reader} (more : A → judged.Reader C) where
  pub go_on : {z : Reader} {r : Result B Refusal} {b : B} {q : Result D Refusal} → r ≡ Ok b → Reads f read x r y → Reads g (more (f b)) y q z → Reads g (◌>>=◌ read more) x q z
  go_on {z} {r} {b} {q} e h k =
      record { same = k.same ∙ h.same; is = rw (there h e) (subst (λ (n : ℕ). more (f b) n (left y) ≡ answer g q (left z)) (ap length h.same) k.is) }

  pub go_out : {r : Result B Refusal} {b : Refusal} {q : Result D Refusal} → r ≡ Err b → IsErrAnd q (λ e. e ≡ b) → Reads f read x r y → Reads {B = D} g (◌>>=◌ read more) x q y
  go_out {q = q} e p h = let d = err_from_is_err_and q p in record { same = h.same; is = rw (stopped h e, d.1, d.2) }

-- the same where the code says less in the end
module _ {A B C D : Type 0} {f : B → A} {S : D → C → Type 0} {read : judged.Reader A} {x y : Reader} (more : A → judged.Reader C) where
  pub some_on : {z : Reader} {r : Result B Refusal} {b : B} {q : Result D Refusal} → r ≡ Ok b → Reads f read x r y → ReadsSome S (more (f b)) y q z → ReadsSome S (◌>>=◌ read more) x q z
  some_on {z} {r} {b} {q} e h k =
      let j : more (f b) (length y.bytes.now) (left y) ≡ ◌>>=◌ read more (length x.bytes.now) (left x) =
      ap (λ (w : List ℕ). more (f b) (length w) (left y)) h.same ∙ sym (ap (λ (m : judged.Got A). then m (λ a rest. more a (length x.bytes.now) rest)) (there h e)) in
      record { same = k.same ∙ h.same; is = subst (λ (m : judged.Got C). Answers S m q (left z)) j k.is }

  pub some_out : {r : Result B Refusal} {b : Refusal} {q : Result D Refusal} → r ≡ Err b → IsErrAnd q (λ e. e ≡ b) → Reads f read x r y → ReadsSome S (◌>>=◌ read more) x q y
  some_out {q = q} e p h = let d = err_from_is_err_and q p in record { same = h.same; is = rw (stopped h e, d.1, d.2) refl }

-- the same where the code says less on the way
module _ {A B C D : Type 0} {R : B → A → Type 0} {S : D → C → Type 0} {read : judged.Reader A} {x y : Reader} (more : A → judged.Reader C) where
  pub then_on : {z : Reader} {r : Result B Refusal} {b : B} {q : Result D Refusal} → r ≡ Ok b → ReadsSome R read x r y →
      ((a : A) → R b a → read (length x.bytes.now) (left x) ≡ judged.got a (left y) → ReadsSome S (more a) y q z) → ReadsSome S (◌>>=◌ read more) x q z
  then_on {z} {r} {b} {q} e h k =
      let w = some_there h e in
      let a : A = w.0 in
      let g = k a w.1 w.2 in
      let j : more a (length y.bytes.now) (left y) ≡ ◌>>=◌ read more (length x.bytes.now) (left x) =
      ap (λ (v : List ℕ). more a (length v) (left y)) h.same ∙ sym (ap (λ (m : judged.Got A). then m (λ c rest. more c (length x.bytes.now) rest)) w.2) in
      record { same = g.same ∙ h.same; is = subst (λ (m : judged.Got C). Answers S m q (left z)) j g.is }

  pub then_out : {r : Result B Refusal} {b : Refusal} {q : Result D Refusal} → r ≡ Err b → IsErrAnd q (λ e. e ≡ b) → ReadsSome R read x r y → ReadsSome S (◌>>=◌ read more) x q y
  then_out {q = q} e p h = let d = err_from_is_err_and q p in record { same = h.same; is = rw (some_stopped h e, d.1, d.2) refl }

-- one reader's answer as another's
pub given : {A B : Type 0} {S : B → A → Type 0} {x : Reader} {a : A} {d : B} → S d a → ReadsSome S (judged.give a) x (Ok d) x
given {a = a} s = record { same = refl; is = (a, s, refl) }

module _ {A B C : Type 0} {f : B → A} {S : C → A → Type 0} {read : judged.Reader A} {x y : Reader} {r : Result B Refusal} where
  pub renamed : {b : B} (d : C) → r ≡ Ok b → S d (f b) → Reads f read x r y → ReadsSome S read x (Ok d) y
  renamed {b} d e s h = record { same = h.same; is = (f b, s, there h e) }

  pub refused_too : {b : Refusal} {q : Result C Refusal} → r ≡ Err b → IsErrAnd q (λ e. e ≡ b) → Reads f read x r y → ReadsSome S read x q y
  refused_too {q = q} e p h = let d = err_from_is_err_and q p in record { same = h.same; is = rw (d.1, d.2) (stopped h e) }

-- what was read at the end of a file, said of the file as it was
pub found_there : {A : Type 0} (read : judged.Reader A) (x y : Reader) (file : List ℕ) (a : A) → x.bytes.now ≡ file → length y.bytes.now ≤ y.at →
    read (length x.bytes.now) (left x) ≡ judged.got a (left y) → read (length file) (drop x.at file) ≡ judged.got a []
found_there read x y file a p h q =
    subst (λ (b : List ℕ). read (length b) (drop x.at b) ≡ judged.got a []) p (q ∙ ap (λ (l : List ℕ). judged.got a l) (drop_all y.at y.bytes.now h))

pub within_too : (x : Reader) (file : List ℕ) → x.bytes.now ≡ file → x.at ≤ length file
within_too x file p = subst (λ (b : List ℕ). x.at ≤ length b) p x.inside

-- the steps of a reader that is made of others
pub ruleset steps = (go_on, go_out)

pub ruleset some_steps = (some_on, some_out, then_on, then_out, given, renamed, refused_too)
