-- Numbers of the code that are judged when their bytes are taken, against those of the definition.
-- Assumes nothing.
use Rattle.std.proofs.Common.{◌≡◌, ℕ, suc, ◌+◌, ◌-◌, ◌*◌, ◌^◌, ◌<◌, ◌≤◌, Bool, true, false, cond, ◌&&◌, ltb, leb, ◌⊎◌, List, [], ◌∷◌, length, get_or, ℤ, pos, negsuc, ◌-ℤ◌, Ok, Err, Result, sym, refl, ap, ◌∙◌, inl, inr, arith, w32, to_z, le-leb}
use borrow.Author.Tests.{lt-leb}
use Rattle.std.specs.Result.{IsErrAnd}
use Rattle.std.proofs.lemmas.Result.{err_from_is_err_and}
use Rattle.std.proofs.lemmas.Bool.{and_from, and_left, and_right}
use Rattle.std.proofs.lemmas.Int.{ints}
use Rattle.codec.specs.declared.refusal.Refusal.{Refusal}
use Rattle.codec.specs.declared.reader.Reader.{Reader}
use Rattle.codec.specs.Refusals.{refusal_number, refusal_place}
use Rattle.codec.specs.Judged.{Got, stop, got, then, bytes, value, twos, judge, number}
use Rattle.codec.specs.Reader.{Reads, left}
use Rattle.codec.proofs.Chains.{there, stopped}
use Rattle.codec.proofs.Places.{place_is}

-- what is made of n bytes that were taken
module _ {A B D : Type 0} {f : B → List ℕ} {g : D → A} (bad n : ℕ) (as_read : ℕ → A) (ok : A → Bool) {x y : Reader} {r : Result B Refusal} (h : Reads f (bytes n) x r y) where
  pub judge_out : {b : Refusal} {q : Result D Refusal} → r ≡ Err b → IsErrAnd q (λ e. e ≡ b) → Reads g (judge bad n as_read ok) x q y
  unfolding judge
  judge_out {q = q} e d = let p = err_from_is_err_and q d in record { same = h.same; is = rw (stopped h e, p.1, p.2) refl }

  module _ {b : B} (e : r ≡ Ok b) where
    pub judge_bad : (o : Refusal) → refusal_number o ≡ bad → refusal_place o ≡ x.at → ok (as_read (value (f b))) ≡ false → Reads g (judge bad n as_read ok) x (Err o) y
    unfolding judge
    judge_bad o p q i = record { same = h.same; is = rw (there h e, i, p, q, place_is x.bytes.now x.at x.inside) refl }

    pub judge_good : (d : D) → as_read (value (f b)) ≡ g d → ok (g d) ≡ true → Reads g (judge bad n as_read ok) x (Ok d) y
    unfolding judge
    judge_good d i t = record { same = h.same; is = rw (there h e, i, t) refl }

-- the same of a number that lies between two
module _ (n : ℕ) {B D : Type 0} {f : B → List ℕ} {g : D → ℕ} {x y : Reader} {r : Result B Refusal} (h : Reads f (bytes n) x r y) (bad least most : ℕ) where
  pub number_out : {b : Refusal} {q : Result D Refusal} → r ≡ Err b → IsErrAnd q (λ e. e ≡ b) → Reads g (number bad n least most) x q y
  unfolding number
  number_out = judge_out bad n (λ v. v) (λ v. leb least v && leb v most) h

  module _ {b : B} (e : r ≡ Ok b) where
    pub number_bad : (o : Refusal) → refusal_number o ≡ bad → refusal_place o ≡ x.at → (v : ℕ) → value (f b) ≡ v → (v < least) ⊎ (most < v) → Reads g (number bad n least most) x (Err o) y
    unfolding number
    number_bad o p q v i s = judge_bad bad n (λ v. v) (λ v. leb least v && leb v most) h e o p q (rw i (fails s))
      where
        fails : (v < least) ⊎ (most < v) → (leb least v && leb v most) ≡ false
        fails (inl p) = and_left (leb least v) (leb v most) (lt-leb least v p)
        fails (inr p) = and_right (leb least v) (leb v most) (lt-leb v most p)

    pub number_good : (d : D) → value (f b) ≡ g d → least ≤ g d → g d ≤ most → Reads g (number bad n least most) x (Ok d) y
    unfolding number
    number_good d i p q = judge_good bad n (λ v. v) (λ v. leb least v && leb v most) h e d i (and_from (leb least (g d)) (leb (g d) most) (le-leb least (g d) p) (le-leb (g d) most q))

-- what passes a test, and then one more
module _ {A : Type 0} (bad p : ℕ) (as_read : ℕ → A) (ok more : A → Bool) where
  abbrev tested : (A → Bool) → Got (List ℕ) → Got A
  tested ok' m = then m (λ b rest. cond (ok' (as_read (value b))) (got (as_read (value b)) rest) (stop bad p))

  passes : (m : Got (List ℕ)) (a : A) (l : List ℕ) → tested ok m ≡ got a l → more a ≡ true → tested (λ v. ok v && more v) m ≡ got a l
  passes (stop k q) a l e t = e
  passes (got b rest) a l e t = go (ok (as_read (value b))) (as_read (value b)) e
    where
      go : (c : Bool) (v : A) → cond c (got v rest) (stop bad p) ≡ got a l → cond (c && more v) (got v rest) (stop bad p) ≡ got a l
      go true v e = let q : v ≡ a = cc in rw (q, t) (rw q at e)
      go false v e = e

  stops : (m : Got (List ℕ)) (k q : ℕ) → tested ok m ≡ stop k q → tested (λ v. ok v && more v) m ≡ stop k q
  stops (stop j r) k q e = e
  stops (got b rest) k q e = go (ok (as_read (value b))) (as_read (value b)) e
    where
      go : (c : Bool) (v : A) → cond c (got v rest) (stop bad p) ≡ stop k q → cond (c && more v) (got v rest) (stop bad p) ≡ stop k q
      go true v e = absurd (let z : ◌≡◌ {A = ℕ} 0 1 = cc in omega arith)
      go false v e = e

  fails : (m : Got (List ℕ)) (a : A) (l : List ℕ) → tested ok m ≡ got a l → more a ≡ false → tested (λ v. ok v && more v) m ≡ stop bad p
  fails (stop k q) a l e t = absurd (let z : ◌≡◌ {A = ℕ} 0 1 = cc in omega arith)
  fails (got b rest) a l e t = go (ok (as_read (value b))) (as_read (value b)) e
    where
      go : (c : Bool) (v : A) → cond c (got v rest) (stop bad p) ≡ got a l → cond (c && more v) (got v rest) (stop bad p) ≡ stop bad p
      go true v e = let q : v ≡ a = cc in rw (q, t)
      go false v e = refl

module _ {A D : Type 0} {g : D → A} (bad n : ℕ) (as_read : ℕ → A) (ok more : A → Bool) {x y : Reader} {r : Result D Refusal} (h : Reads g (judge bad n as_read ok) x r y) where
  pub both_pass : {d : D} → r ≡ Ok d → more (g d) ≡ true → Reads g (judge bad n as_read (λ v. ok v && more v)) x (Ok d) y
  unfolding judge
  both_pass {d} e t = record { same = h.same; is = passes bad _ as_read ok more (bytes n (length x.bytes.now) (left x)) (g d) _ (there h e) t }

  pub first_stops : {b : Refusal} → r ≡ Err b → Reads g (judge bad n as_read (λ v. ok v && more v)) x (Err b) y
  unfolding judge
  first_stops {b} e = record { same = h.same; is = stops bad _ as_read ok more (bytes n (length x.bytes.now) (left x)) _ _ (stopped h e) }

  pub second_fails : {d : D} {B : Type 0} (f : B → A) → r ≡ Ok d → more (g d) ≡ false → (o : Refusal) → refusal_number o ≡ bad → refusal_place o ≡ x.at → Reads f (judge bad n as_read (λ v. ok v && more v)) x (Err o) y
  unfolding judge
  second_fails {d} f e t o p q = record { same = h.same; is = fails bad _ as_read ok more (bytes n (length x.bytes.now) (left x)) (g d) _ (there h e) t ∙ rw (p, q, place_is x.bytes.now x.at x.inside) }

pub value_one : (l : List ℕ) → length l ≡ 1 → value l ≡ get_or l 0 0
unfolding value
value_one [] h = omega arith
value_one (a ∷ []) h = omega arith
value_one (a ∷ b ∷ l) h = omega arith

pub value_two : (l : List ℕ) → length l ≡ 2 → value l ≡ get_or l 0 0 + 256 * get_or l 1 0
unfolding value
value_two [] h = omega arith
value_two (a ∷ []) h = omega arith
value_two (a ∷ b ∷ []) h = omega arith
value_two (a ∷ b ∷ c ∷ l) h = omega arith

pub three : (l : List ℕ) → length l ≡ 3 → l ≡ get_or l 0 0 ∷ get_or l 1 0 ∷ get_or l 2 0 ∷ []
three [] h = absurd (omega arith)
three (a ∷ []) h = absurd (omega arith)
three (a ∷ b ∷ []) h = absurd (omega arith)
three (a ∷ b ∷ c ∷ []) h = refl
three (a ∷ b ∷ c ∷ d ∷ l) h = absurd (omega arith)

pub value_four : (l : List ℕ) → length l ≡ 4 → value l ≡ get_or l 0 0 + get_or l 1 0 * 256 + get_or l 2 0 * 65536 + get_or l 3 0 * 16777216
unfolding value
value_four [] h = omega arith
value_four (a ∷ []) h = omega arith
value_four (a ∷ b ∷ []) h = omega arith
value_four (a ∷ b ∷ c ∷ []) h = omega arith
value_four (a ∷ b ∷ c ∷ d ∷ []) h = omega arith
value_four (a ∷ b ∷ c ∷ d ∷ e ∷ l) h = omega arith

pub four : (l : List ℕ) → length l ≡ 4 → l ≡ get_or l 0 0 ∷ get_or l 1 0 ∷ get_or l 2 0 ∷ get_or l 3 0 ∷ []
four [] h = absurd (omega arith)
four (a ∷ []) h = absurd (omega arith)
four (a ∷ b ∷ []) h = absurd (omega arith)
four (a ∷ b ∷ c ∷ []) h = absurd (omega arith)
four (a ∷ b ∷ c ∷ d ∷ []) h = refl
four (a ∷ b ∷ c ∷ d ∷ e ∷ l) h = absurd (omega arith)

-- ---- numbers with sign
twos_toZ : (v : ℕ) → v < 2 ^ 32 → twos v ≡ to_z w32 v
unfolding twos
twos_toZ v h = go (ltb v (2 ^ 31)) refl
  where
    over : pos v -ℤ pos (2 ^ 32) ≡ negsuc (2 ^ 32 - suc v)
    over = omega (arith, ints)

    go : (c : Bool) → ltb v (2 ^ 31) ≡ c → cond c (pos v) (pos v -ℤ pos (2 ^ 32)) ≡ to_z w32 v
    go true e = rw e
    go false e = rw e over

-- four bytes as the code and as the definition read them
pub signed_four : (l : List ℕ) (z : ℤ) → length l ≡ 4 → ((k : ℕ) → get_or l k 0 < 256) → z ≡ to_z w32 (get_or l 0 0 + get_or l 1 0 * 256 + get_or l 2 0 * 65536 + get_or l 3 0 * 16777216) →
    twos (value l) ≡ z
signed_four l z long below is =
    let p = below 0 in
    let q = below 1 in
    let r = below 2 in
    let s = below 3 in
    ap twos (value_four l long) ∙ twos_toZ _ (omega arith) ∙ sym is
