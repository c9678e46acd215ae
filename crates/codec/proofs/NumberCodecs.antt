-- Numbers in a file: each is written in one way, and read back.
-- Assumes nothing.
use Rattle.std.proofs.Common.{◌≡◌, ℕ, zero, suc, ◌+◌, ◌-◌, ◌*◌, ◌/◌, ◌%◌, ◌^◌, ◌<◌, ◌≤◌, Bool, true, false, ◌&&◌, ltb, leb, List, [], ◌∷◌, length, ℤ, pos, negsuc, ◌-ℤ◌, Decides, sym, refl, ap, ◌∙◌, pow-suc, arith}
use borrow.Author.Differences.{ints}
use Rattle.std.proofs.lemmas.Bool.{lt-ltb, le-ltb, cond_both}
use Rattle.std.proofs.lemmas.Bool.Decides.{nat_tests}
use Rattle.meaning.specs.Fits.{Within, Bytes}
use Rattle.codec.specs.File.{le, signed}
use Rattle.codec.specs.Judged.{bytes, value, twos, judge, number, within, whole_number}
use Rattle.codec.proofs.Reading.{Holds, holds_then, Codec, like, bytes_codec}

length_le : (n x : ℕ) → length (le n x) ≡ n
unfolding le
length_le zero x = refl
length_le (suc n) x = ap suc (length_le n (x / 256))

bytes_le : (n x : ℕ) → Bytes (le n x)
unfolding le
bytes_le zero x = tt
bytes_le (suc n) x = (omega arith, bytes_le n (x / 256))

value_le : (n x : ℕ) → x < 256 ^ n → value (le n x) ≡ x
unfolding le value
value_le zero x h = omega arith
value_le (suc n) x h =
    let p : 256 ^ suc n ≡ 256 ^ n * 256 = pow-suc _ _ in
    let e : value (le n (x / 256)) ≡ x / 256 = value_le n (x / 256) (omega arith) in
    omega arith

value_below : (b : List ℕ) → Bytes b → value b < 256 ^ length b
unfolding value
value_below [] h = omega arith
value_below (x ∷ b) h =
    let p : 256 ^ suc (length b) ≡ 256 ^ length b * 256 = pow-suc _ _ in
    omega (arith, value_below b h.1, h.0)

le_value : (b : List ℕ) → Bytes b → le (length b) (value b) ≡ b
unfolding le value
le_value [] h = refl
le_value (x ∷ b) h =
    let p : (x + 256 * value b) % 256 ≡ x = omega arith in
    let q : (x + 256 * value b) / 256 ≡ value b = omega arith in
    rw (p, q, le_value b h.1)

-- as many bytes of the same value are the same
pub same_value : (a b : List ℕ) → length a ≡ length b → Bytes a → Bytes b → value a ≡ value b → a ≡ b
same_value a b long h k e = sym (le_value a h) ∙ rw (long, e) (le_value b k)

-- a number of n bytes that passes a test; `code a` is the number that stands for a
module _ {A : Type 0} (bad n : ℕ) (as_read : ℕ → A) (code : A → ℕ) (ok : A → Bool) (code-back : (v : ℕ) → v < 256 ^ n → code (as_read v) ≡ v) where
  abbrev Judged : A → Type 0
  Judged a = (code a < 256 ^ n) × (as_read (code a) ≡ a) × (ok a ≡ true)

  judge_codec : Codec (judge bad n as_read ok) (λ a. le n (code a)) Judged
  unfolding judge
  judge_codec = record {
    reads = λ a j. rw ((bytes_codec n).reads (le n (code a)) (length_le n (code a), bytes_le n (code a)), value_le n (code a) j.0, j.1, j.2);
    sound = record {
      at = λ t l below. holds_then _ _ (bytes n t l) _ ((bytes_codec n).sound.at t l below) (λ b rest h.
          let small : value b < 256 ^ n = rw (← h.fits.0) (value_below b h.fits.1) in
          let back : code (as_read (value b)) ≡ value b = code-back (value b) small in
          let same : le n (value b) ≡ b = rw (← h.fits.0) (le_value b h.fits.1) in
          cond_both (ok (as_read (value b))) _ _ (Holds _) (λ e. record { fits = (rw back small, ap as_read back, e); spelt = rw (back, same) h.spelt }) (λ _. tt));
    };
  }

-- without sign
pub tested_codec : (bad n : ℕ) (ok : ℕ → Bool) → Codec (judge bad n (λ v. v) ok) (le n) (λ v. (v < 256 ^ n) × (ok v ≡ true))
tested_codec bad n ok =
    like (judge_codec bad n (λ v. v) (λ v. v) ok (λ v _. refl)) (λ a h. (h.0, refl, h.1)) (λ a h. (h.0, h.2)) (λ a h. refl)

pub number_codec : (bad n least most : ℕ) → most < 256 ^ n → Codec (number bad n least most) (le n) (λ v. (least ≤ v) × (v ≤ most))
unfolding number
number_codec bad n least most room =
    like (tested_codec bad n (λ v. leb least v && leb v most)) (λ v h. (omega arith, grind (arith, nat_tests))) (λ v h. (grind (arith, nat_tests), grind (arith, nat_tests))) (λ a h. refl)

-- of one byte
le_one : (a : ℕ) → a < 256 → a ∷ [] ≡ le 1 a
unfolding le
le_one a h = let e : a % 256 ≡ a = omega arith in rw e

pub byte_codec : (bad most : ℕ) → most < 256 → Codec (number bad 1 0 most) (λ v. v ∷ []) (λ v. v ≤ most)
byte_codec bad most room = like (number_codec bad 1 0 most room) (λ a h. (omega arith, h)) (λ a h. h.1) (λ a h. le_one a (omega arith))

pub tested_byte_codec : (bad : ℕ) (ok : ℕ → Bool) → Codec (judge bad 1 (λ v. v) ok) (λ v. v ∷ []) (λ v. (v < 256) × (ok v ≡ true))
tested_byte_codec bad ok = like (tested_codec bad 1 ok) (λ a h. h) (λ a h. h) (λ a h. le_one a h.0)

-- of two bytes that may be anything
pub word_codec : (bad : ℕ) → Codec (number bad 2 0 65535) (le 2) (λ v. v < 65536)
word_codec bad = like (number_codec bad 2 0 65535 (omega arith)) (λ v h. omega arith) (λ v h. omega arith) (λ _ _. refl)

-- with sign
unfoldable code : ℤ → ℕ
code (pos x) = x
code (negsuc x) = 2 ^ 32 - suc x

signed_code : (a : ℤ) → signed 4 a ≡ le 4 (code a)
unfolding signed code
signed_code (pos x) = let e : ltb x 0 ≡ false = le-ltb x 0 (omega arith) in rw e
signed_code (negsuc x) = refl

code_twos : (v : ℕ) → v < 256 ^ 4 → code (twos v) ≡ v
unfolding twos code
code_twos v h =
    let over : pos v -ℤ pos (2 ^ 32) ≡ negsuc (2 ^ 32 - suc v) = omega (arith, ints) in
    cond_both (ltb v (2 ^ 31)) (pos v) (pos v -ℤ pos (2 ^ 32)) (λ a. code a ≡ v) (λ _. refl) (λ _. rw over (omega arith))

code_fits : (a : ℤ) → Within a (2 ^ 31) → (code a < 256 ^ 4) × (twos (code a) ≡ a)
unfolding twos code
code_fits (pos x) h = let e : ltb x (2 ^ 31) ≡ true = lt-ltb x (2 ^ 31) h in (omega arith, rw e)
code_fits (negsuc x) h =
    let e : ltb (2 ^ 32 - suc x) (2 ^ 31) ≡ false = le-ltb (2 ^ 32 - suc x) (2 ^ 31) (omega arith) in
    (omega arith, rw e (omega (arith, ints)))

within_is : (m : ℕ) (a : ℤ) → Decides (within m a) (Within a m)
unfolding within
within_is m (pos x) = (λ h. grind (arith, ints), λ h. grind (arith, ints))
within_is m (negsuc x) = (λ h. grind (arith, ints), λ h. grind (arith, ints))

pub whole_codec : (m : ℕ) → m ≤ 2 ^ 31 → Codec (whole_number m) (signed 4) (λ a. Within a m)
unfolding whole_number
whole_codec m small =
    like (judge_codec 5 4 twos code (within m) code_twos) (λ a h. let f = code_fits a (omega arith) in (f.0, f.1, (within_is m a).1 h)) (λ a h. (within_is m a).0 h.2) (λ a _. signed_code a)
