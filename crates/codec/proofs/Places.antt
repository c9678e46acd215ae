-- Readers of the definition at a place of the file.
-- Assumes nothing.
use Rattle.std.proofs.Common.{◌≡◌, ℕ, ◌+◌, ◌-◌, ◌<◌, ◌≤◌, true, false, ltb, List, length, take, drop, ap, arith, le-ltb, lt-ltb}
use Rattle.std.proofs.lemmas.List.{length-drop, drop-drop, drop_more, drop_all}
use Rattle.codec.specs.Judged.{stop, got, place, bytes, end}

module _ (b : List ℕ) (at : ℕ) (inside : at ≤ length b) where
  pub place_is : place (length b) (drop at b) ≡ at
  place_is = omega (arith, length-drop at b)

  module _ (n : ℕ) where
    pub bytes_short : length b - at < n → bytes n (length b) (drop at b) ≡ stop 1 (length b)
    unfolding bytes
    bytes_short h = let e : ltb (length (drop at b)) n ≡ true = lt-ltb (length (drop at b)) n (omega (arith, length-drop at b)) in rw e

    pub bytes_there : n ≤ length b - at → bytes n (length b) (drop at b) ≡ got (take n (drop at b)) (drop (at + n) b)
    unfolding bytes
    bytes_there h =
        let e : ltb (length (drop at b)) n ≡ false = le-ltb (length (drop at b)) n (omega (arith, length-drop at b)) in
        rw (e, drop-drop n at b)

pub end_more : {A : Type 0} (a : A) (b : List ℕ) (at : ℕ) → at < length b → end a (length b) (drop at b) ≡ stop 1 at
end_more a b at h =
    let e = drop_more b at 0 h in
    let p : place (length b) (drop at b) ≡ at = place_is b at (omega arith) in
    rw e (ap (λ (k : ℕ). stop 1 k) (rw e at p))

pub end_all : {A : Type 0} (a : A) (b : List ℕ) (at : ℕ) → length b ≤ at → end a (length b) (drop at b) ≡ got a (drop at b)
end_all a b at h = rw (drop_all at b h)
