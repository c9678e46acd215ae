-- Whole files: what is written is read back, what is read was written so, and a file is one list at most.
-- Assumes nothing.
use Rattle.std.proofs.Common.{◌≡◌, ℕ, ◌≤◌, Bool, true, List, [], ◌∷◌, length, refl, subst, append-nil, arith}
use Rattle.std.specs.List.{AllByRecursion}
use Rattle.std.proofs.lemmas.Bool.{eqb-true, eq-eqb}
use Rattle.std.proofs.ByRecursion.{All-weaker, All-from_get_or}
use Rattle.meaning.specs.declared.state.Size.{Size}
use Rattle.meaning.specs.Fits.{ListFits}
use Rattle.codec.specs.File.{le, all, command_bytes, file_of}
use Rattle.codec.specs.Judged.{Verdict, refused, taken, Got, stop, got, value, judge, number, end, dots_letters, a_file, verdict, judged, AllBuilt, ReadBack, WrittenSo, OneList}
use Rattle.codec.proofs.Reading.{Holds, Sound, Codec, after, like, times_codec}
use Rattle.codec.proofs.NumberCodecs.{tested_codec, number_codec, byte_codec, word_codec}
use Rattle.codec.proofs.PartCodecs.{texture_codec}
use Rattle.codec.proofs.CommandCodecs.{command_codec}

-- "DOTS", as a number
letters_codec : Codec (judge 2 4 (λ v. v) dots_letters) (λ v. 68 ∷ 79 ∷ 84 ∷ 83 ∷ []) (λ v. v ≡ 1398034244)
unfolding value le
letters_codec = like (tested_codec 2 4 dots_letters) (λ v h. (omega arith, eq-eqb v 1398034244 h)) (λ v h. eqb-true v 1398034244 h.1)
    (λ v h. let e : v ≡ 1398034244 = eqb-true v 1398034244 h.1 in rw e)

size_codec : Codec (number 3 2 1 1024) (le 2) (λ v. (1 ≤ v) × (v ≤ 1024))
size_codec = number_codec 3 2 1 1024 (omega arith)

all_both : {A : Type 0} (P Q : A → Type 0) (l : List A) → AllByRecursion P l → AllByRecursion Q l → AllByRecursion (λ a. P a × Q a) l
all_both P Q [] h g = tt
all_both P Q (a ∷ l) h g = ((h.0, g.0), all_both P Q l h.1 g.1)

pub read_back : ReadBack
unfolding judged a_file file_of
read_back built s ts cs h b =
    let commands = times_codec (length cs) (command_codec built (record { width = s.width; height = s.height }) ts (length ts) refl h.textures h.width h.height) in
    rw (
      ← append-nil (all command_bytes cs),
      letters_codec.reads 1398034244 refl,
      size_codec.reads s.width (h.some_width, h.width),
      size_codec.reads s.height (h.some_height, h.height),
      (byte_codec 3 64 (omega arith)).reads (length ts) h.textures,
      (times_codec (length ts) texture_codec).reads ts (refl, h.each_texture),
      (word_codec 3).reads (length cs) (omega arith),
      commands.reads cs (refl, all_both _ _ cs h.each_command b),
    )

pub one_list : OneList
one_list s t ts us cs ds h g e =
    let p = read_back (λ k. true) s ts cs h (All-weaker _ _ (λ c _. refl) cs h.each_command) in
    let q = read_back (λ k. true) t us ds g (All-weaker _ _ (λ c _. refl) ds g.each_command) in
    let r : taken s ts cs ≡ taken t us ds = cc in
    (cc, cc, cc)

-- what a verdict says of the bytes
abbrev Says : (ℕ → Bool) → List ℕ → Verdict → Type 0
Says built b (refused n p) = Unit {0}
Says built b (taken s ts cs) = ListFits s ts cs × AllBuilt built cs × (file_of s ts cs ≡ b)

-- nothing is left behind it
ended : {A : Type 0} {a : A} {Q : List ℕ → A → List ℕ → Type 0} → Q [] a [] → Sound (end a) Q
ended {A = A} {a = a} {Q = Q} q = record { at = λ t l b. go t l }
  where
    go : (t : ℕ) (l : List ℕ) → Holds (Q l) (end a t l)
    go t [] = q
    go t (x ∷ l) = tt

file_sound : (built : ℕ → Bool) → Sound (a_file built) (λ b v _. Says built b v)
unfolding a_file file_of
file_sound built =
    after letters_codec (λ _ _. after size_codec (λ width hw. after size_codec (λ height hh.
    after (byte_codec 3 64 (omega arith)) (λ k hk. after (times_codec k texture_codec) (λ ts ht.
    let s : Size = record { width = width; height = height } in
    after (word_codec 3) (λ n hn. after (times_codec n (command_codec built s ts k ht.0 hk hw.1 hh.1)) (λ cs hc. ended (
      record {
        some_width = hw.0;
        width = hw.1;
        some_height = hh.0;
        height = hh.1;
        textures = omega (arith, ht.0);
        each_texture = ht.1;
        commands = omega (arith, hc.0);
        each_command = All-weaker _ _ (λ c h. h.0) cs hc.1;
      },
      All-weaker _ _ (λ c h. h.1) cs hc.1,
      simp (append-nil, ht.0, hc.0),
    ))))))))

says : (built : ℕ → Bool) (b : List ℕ) (m : Got Verdict) → Holds (λ v rest. Says built b v) m → Says built b (verdict m)
says built b (stop n p) h = tt
says built b (got v rest) h = h

pub written_so : WrittenSo
unfolding judged
written_so built b s ts cs below e =
    subst (λ (v : Verdict). Says built b v) e (says built b (a_file built (length b) b) ((file_sound built).at (length b) b (All-from_get_or _ b 0 (λ k _. below k))))
