-- Commands: each is written in one way, and read back.
-- Assumes nothing.
use Rattle.std.proofs.Common.{◌≡◌, ℕ, zero, suc, ◌≤◌, Bool, true, false, cond, eqb, List, ◌∷◌, ◌++◌, length, refl, append_assoc, arith}
use borrow.Author.Tests.{clash}
use Rattle.std.proofs.lemmas.Bool.Decides.{nat_tests}
use Rattle.meaning.specs.declared.pen.Test.{Test}
use Rattle.meaning.specs.declared.pen.Test.TheVariants.{Always, Less, LessOrEqual, Equal, Never}
use Rattle.meaning.specs.declared.pen.Mix.{Mix}
use Rattle.meaning.specs.declared.pen.Mix.TheVariants.{Replace, Blend, Add}
use Rattle.meaning.specs.declared.state.Size.{Size}
use Rattle.meaning.specs.Meaning.{Image, Instruction, pen, look, clear, triangles, show}
use Rattle.meaning.specs.Numbers.{test_number, test_of, mix_number, mix_of}
use Rattle.meaning.specs.Fits.{FrameFits, InstructionFits}
use Rattle.codec.specs.File.{frame_bytes, pen_bytes, view_bytes, command_bytes}
use Rattle.codec.specs.Judged.{got, a_frame, a_pen, a_look, a_clear, some_triangles, of_kind, known, a_command, kind_of}
use Rattle.codec.proofs.Reading.{Sound, Read, Codec, after, done, bytes_codec, times_codec}
use Rattle.codec.proofs.NumberCodecs.{number_codec, byte_codec, tested_byte_codec, word_codec}
use Rattle.codec.proofs.PartCodecs.{triple_codec, row_codec, place_codec}

-- tests, mixes and whether depths are kept
test_back : (t : Test) → (test_number t ≤ 4) × (test_of (test_number t) ≡ t)
test_back Always = (omega arith, refl)
test_back Less = (omega arith, refl)
test_back LessOrEqual = (omega arith, refl)
test_back Equal = (omega arith, refl)
test_back Never = (omega arith, refl)

test_so : (v : ℕ) → v ≤ 4 → v ≡ test_number (test_of v)
test_so v h = grind (arith, nat_tests)

mix_back : (m : Mix) → (mix_number m ≤ 2) × (mix_of (mix_number m) ≡ m)
mix_back Replace = (omega arith, refl)
mix_back Blend = (omega arith, refl)
mix_back Add = (omega arith, refl)

mix_so : (v : ℕ) → v ≤ 2 → v ≡ mix_number (mix_of v)
mix_so v h = grind (arith, nat_tests)

keeps_back : (b : Bool) → (cond b 1 0 ≤ 1) × (eqb (cond b 1 0) 1 ≡ b)
keeps_back true = (omega arith, refl)
keeps_back false = (omega arith, refl)

keeps_so : (v : ℕ) → v ≤ 1 → v ≡ cond (eqb v 1) 1 0
keeps_so v h = grind (arith, nat_tests)

-- commands of a list with k textures, of the kinds that are built
module _ (built : ℕ → Bool) (s : Size) (ts : List Image) (k : ℕ) (many : length ts ≡ k) (few : k ≤ 64) (narrow : s.width ≤ 1024) (low : s.height ≤ 1024) where
  frame_codec : Codec (a_frame s) frame_bytes (FrameFits s)
  unfolding a_frame frame_bytes
  frame_codec = record {
    reads = λ f h. simp append_assoc (rw (
      (word_codec 5).reads f.left (omega arith),
      (word_codec 5).reads f.top (omega arith),
      (number_codec 5 2 f.left s.width (omega arith)).reads f.right (h.across, h.right),
      (number_codec 5 2 f.top s.height (omega arith)).reads f.bottom (h.down, h.bottom),
    ));
    sound =
        after (word_codec 5) (λ left _. after (word_codec 5) (λ top _.
        after (number_codec 5 2 left s.width (omega arith)) (λ right x. after (number_codec 5 2 top s.height (omega arith)) (λ bottom y. done (λ l.
        record { fits = record { across = x.0; right = x.1; down = y.0; bottom = y.1 }; spelt = simp append_assoc })))));
  }

  abbrev CommandFits : Instruction → Type 0
  CommandFits c = InstructionFits s ts c × (built (kind_of c) ≡ true)

  command_reads : (t : ℕ) (c : Instruction) (rest : List ℕ) → CommandFits c → a_command built s k t (command_bytes c ++ rest) ≡ got c rest
  unfolding a_command of_kind command_bytes a_pen pen_bytes a_look view_bytes a_clear some_triangles
  command_reads t (pen p) rest h =
      rw (
        (tested_byte_codec 4 (known built)).reads 1 (omega arith, h.1),
        (byte_codec 5 4 (omega arith)).reads (test_number p.test) (test_back p.test).0,
        (byte_codec 5 1 (omega arith)).reads (cond p.keeps 1 0) (keeps_back p.keeps).0,
        (byte_codec 5 2 (omega arith)).reads (mix_number p.mix) (mix_back p.mix).0,
        (byte_codec 5 k (omega arith)).reads p.texture (omega (arith, h.0.texture)),
        frame_codec.reads p.frame h.0.frame,
        (test_back p.test).1,
        (keeps_back p.keeps).1,
        (mix_back p.mix).1,
      )
  command_reads t (look w) rest h =
      simp append_assoc (rw (
        (tested_byte_codec 4 (known built)).reads 2 (omega arith, h.1),
        row_codec.reads w.across h.0.across,
        row_codec.reads w.down h.0.down,
        row_codec.reads w.away h.0.away,
        (number_codec 5 4 0 1048575 (omega arith)).reads w.scale (omega (arith, h.0.scale)),
        place_codec.reads w.middle h.0.middle,
      ))
  command_reads t (clear c z) rest h =
      simp append_assoc (rw ((tested_byte_codec 4 (known built)).reads 3 (omega arith, h.1), (bytes_codec 3).reads c (h.0.0, h.0.1), (word_codec 5).reads z h.0.2))
  command_reads t (triangles l) rest h =
      simp append_assoc (rw (
        (tested_byte_codec 4 (known built)).reads 4 (omega arith, h.1),
        (word_codec 5).reads (length l) (omega (arith, h.0.0)),
        (times_codec (length l) triple_codec).reads l (refl, h.0.1),
      ))
  command_reads t show rest h = rw ((tested_byte_codec 4 (known built)).reads 5 (omega arith, h.1))

  kinds : (v : ℕ) → known built v ≡ true → Sound (of_kind s k v) (λ l. Read command_bytes CommandFits (v ∷ l))
  unfolding of_kind command_bytes a_pen pen_bytes a_look view_bytes a_clear some_triangles
  kinds zero e = absurd (clash e)
  kinds (suc zero) e =
      after (byte_codec 5 4 (omega arith)) (λ test ht. after (byte_codec 5 1 (omega arith)) (λ keeps hk. after (byte_codec 5 2 (omega arith)) (λ mix hm.
      after (byte_codec 5 k (omega arith)) (λ texture hx. after frame_codec (λ frame hf. done (λ l.
      record { fits = (record { texture = omega arith; frame = hf }, e); spelt = cc (test_so test ht, keeps_so keeps hk, mix_so mix hm) }))))))
  kinds (suc (suc zero)) e =
      after row_codec (λ x hx. after row_codec (λ y hy. after row_codec (λ z hz. after (number_codec 5 4 0 1048575 (omega arith)) (λ scale hs. after place_codec (λ m hm. done (λ l.
      record { fits = (record { across = hx; down = hy; away = hz; scale = omega (arith, hs.1); middle = hm }, e); spelt = simp append_assoc }))))))
  kinds (suc (suc (suc zero))) e =
      after (bytes_codec 3) (λ c hc. after (word_codec 5) (λ z hz. done (λ l. record { fits = ((hc.0, hc.1, hz), e); spelt = simp append_assoc })))
  kinds (suc (suc (suc (suc zero)))) e =
      after (word_codec 5) (λ n hn. after (times_codec n triple_codec) (λ ks hk. done (λ l.
      record { fits = ((omega (arith, hk.0), hk.1), e); spelt = simp (append_assoc, hk.0) })))
  kinds (suc (suc (suc (suc (suc zero))))) e = done (λ l. record { fits = (tt, e); spelt = refl })
  kinds (suc (suc (suc (suc (suc (suc v)))))) e = absurd (grind (arith, nat_tests))

  pub command_codec : Codec (a_command built s k) command_bytes CommandFits
  unfolding a_command
  command_codec = record { reads = λ c. command_reads _ c _; sound = after (tested_byte_codec 4 (known built)) (λ v h. kinds v h.1) }
