-- Readers and what is written for them: what is written is read back, and what is read was written so.
-- Assumes nothing.
use Rattle.std.proofs.Common.{◌≡◌, ℕ, zero, suc, false, ltb, List, [], ◌∷◌, ◌++◌, length, sym, refl, ap, append_assoc, arith}
use Rattle.std.specs.List.{AllByRecursion}
use Rattle.std.proofs.lemmas.Bool.{ltb-false, le-ltb, cond_both}
use Rattle.std.proofs.ByRecursion.{All-take}
use Rattle.std.proofs.lemmas.List.{take-append-drop, length-take-le, take_at, drop_at, length-append}
use Rattle.meaning.specs.Fits.{Bytes}
use Rattle.codec.specs.File.{all}
use Rattle.codec.specs.Judged.{Got, stop, got, Reader, then, ◌>>=◌, give, times, bytes}

-- what holds of what was read, if nothing stopped it
abbrev pub Holds : {A : Type 0} → (A → List ℕ → Type 0) → Got A → Type 0
Holds P (stop n p) = Unit {0}
Holds P (got a rest) = P a rest

pub holds_then : {A B : Type 0} (P : A → List ℕ → Type 0) (Q : B → List ℕ → Type 0) (m : Got A) (f : A → List ℕ → Got B) →
    Holds P m → ((a : A) (rest : List ℕ) → P a rest → Holds Q (f a rest)) → Holds Q (then m f)
holds_then P Q (stop n p) f h g = tt
holds_then P Q (got a rest) f h g = g a rest h

-- Q holds of the bytes l, of what r reads from them and of the bytes that it leaves; t is the length of the whole file
pub record Sound {A : Type 0} (r : Reader A) (Q : List ℕ → A → List ℕ → Type 0) : Type 0 where
  pub at : (t : ℕ) (l : List ℕ) → Bytes l → Holds (Q l) (r t l)

-- a was written at the front of l
pub record Read {A : Type 0} (write : A → List ℕ) (Ok : A → Type 0) (l : List ℕ) (a : A) (rest : List ℕ) : Type 0 where
  pub fits : Ok a
  pub spelt : l ≡ write a ++ rest

-- a reader reads back what `write` writes, and nothing else
pub record Codec {A : Type 0} (r : Reader A) (write : A → List ℕ) (Ok : A → Type 0) : Type 0 where
  pub reads : {t : ℕ} (a : A) {rest : List ℕ} → Ok a → r t (write a ++ rest) ≡ got a rest
  pub sound : Sound r (Read write Ok)

-- a reader and then more
bytes_back : (a b : List ℕ) → Bytes (a ++ b) → Bytes b
bytes_back [] b h = h
bytes_back (x ∷ a) b h = bytes_back a b h.1

pub after : {A B : Type 0} {r : Reader A} {write : A → List ℕ} {Ok : A → Type 0} {f : A → Reader B} {Q : List ℕ → B → List ℕ → Type 0} → Codec r write Ok →
    ((a : A) → Ok a → Sound (f a) (λ l. Q (write a ++ l))) → Sound (◌>>=◌ r f) Q
after {r = r} {write = write} {f = f} {Q = Q} c k = record {
  at = λ t l b. holds_then _ (Q l) (r t l) (λ a rest. f a t rest) (c.sound.at t l b) (λ a rest h.
      rw h.spelt ((k a h.fits).at t rest (bytes_back (write a) rest (rw h.spelt at b))));
}

pub done : {A : Type 0} {a : A} {Q : List ℕ → A → List ℕ → Type 0} → ((l : List ℕ) → Q l a l) → Sound (give a) Q
done q = record { at = λ t l b. q l }

-- the same under other names for what is written and what fits
pub like : {A : Type 0} {r : Reader A} {w : A → List ℕ} {Ok : A → Type 0} {v : A → List ℕ} {Fit : A → Type 0} → Codec r w Ok →
    ((a : A) → Fit a → Ok a) → ((a : A) → Ok a → Fit a) → ((a : A) → Ok a → v a ≡ w a) → Codec r v Fit
like {A = A} {r = r} {w = w} {Ok = Ok} {v = v} {Fit = Fit} c to from same = record {
  reads = λ a f. rw (same a (to a f)) (c.reads a (to a f));
  sound = record { at = λ t l b. weaker l (r t l) (c.sound.at t l b) };
}
  where
    weaker : (l : List ℕ) (m : Got A) → Holds (Read w Ok l) m → Holds (Read v Fit l) m
    weaker l (stop n p) h = tt
    weaker l (got a rest) h = record { fits = from a h.fits; spelt = rw (same a h.fits) h.spelt }

-- n bytes
pub bytes_codec : (n : ℕ) → Codec (bytes n) (λ b. b) (λ b. (length b ≡ n) × Bytes b)
unfolding bytes
bytes_codec n = record {
  reads = λ a {rest} ok.
      let h : ltb (length (a ++ rest)) n ≡ false = le-ltb (length (a ++ rest)) n (omega (arith, length-append a rest)) in
      rw (h, take_at a rest n ok.0, drop_at a rest n ok.0);
  sound = record {
    at = λ t l b. cond_both (ltb (length l) n) _ _ (Holds _) (λ _. tt) (λ h.
        record { fits = (length-take-le n l (ltb-false (length l) n h), All-take _ n l b); spelt = sym (take-append-drop n l) });
  };
}

-- n parts, one after another
pub times_codec : {A : Type 0} {r : Reader A} {w : A → List ℕ} {Ok : A → Type 0} (n : ℕ) → Codec r w Ok → Codec (times n r) (all w) (λ l. (length l ≡ n) × AllByRecursion Ok l)
unfolding times all
times_codec {A = A} {r = r} {w = w} {Ok = Ok} n c = record { reads = λ l. reads n _ l _; sound = sound n }
  where
    reads : (n t : ℕ) (l : List A) (rest : List ℕ) → (length l ≡ n) × AllByRecursion Ok l → times n r t (all w l ++ rest) ≡ got l rest
    reads zero t [] rest h = refl
    reads zero t (a ∷ l) rest h = absurd (omega arith)
    reads (suc n) t [] rest h = absurd (omega arith)
    reads (suc n) t (a ∷ l) rest h = rw (append_assoc, c.reads a h.1.0, reads n t l rest (omega arith, h.1.1))

    sound : (n : ℕ) → Sound (times n r) (Read (all w) (λ l. (length l ≡ n) × AllByRecursion Ok l))
    sound zero = done (λ l. record { fits = (refl, tt); spelt = refl })
    sound (suc n) =
        after c (λ a h. after (record { reads = λ l. reads n _ l _; sound = sound n }) (λ as' g. done (λ rest.
        record { fits = (ap suc g.0, (h, g.1)); spelt = sym (append_assoc (w a) (all w as') rest) })))
