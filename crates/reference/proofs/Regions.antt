-- Regions of a picture that were done one after the other.
-- Assumes nothing.
use Rattle.std.proofs.Common.{◌≡◌, ℕ, ◌+◌, ◌*◌, ◌≤◌, Bool, true, false, cond, ◌&&◌, ◌||◌, ltb, List, get_or, refl, ◌∙◌, arith}
use mathlib.Core.Bool.{and-false, and-or_distrib_left, and-or_distrib_right}
use Rattle.std.proofs.lemmas.Bool.Decides.{nat_tests}
use Rattle.meaning.specs.declared.state.Size.{Size}
use Rattle.meaning.specs.Meaning.{Image, Instruction, begin}
use Rattle.codec.specs.Shows.{shows}
use Rattle.reference.specs.Boxes.{from_to, in_box}
use Rattle.reference.specs.Shows.{Region, seen_dots, no_dot}

joined : {A : Type 0} (a b : Bool) (v x : A) → cond b v (cond a v x) ≡ cond (a || b) v x
joined true true v x = refl
joined true false v x = refl
joined false b v x = refl

joined_and : {A : Type 0} (q a b : Bool) (v x : A) → cond (q && b) v (cond (q && a) v x) ≡ cond (q && (a || b)) v x
joined_and true a b v x = joined a b v x
joined_and false a b v x = refl

module _ (ts : List Image) (s : Size) (cs : List Instruction) (C D S : List ℕ) where
  pub region_none : (R : ℕ → ℕ → Bool) → ((i j : ℕ) → R i j ≡ false) → Region ts s cs R C D S C D S
  region_none R none =
      record {
        colours = λ i j c iw c3. rw (none i j);
        depths = λ i j iw. rw (none i j);
        shown = λ q i j c iw jh c3. rw (none i j, and-false);
      }

  pub region_more : (A B R : ℕ → ℕ → Bool) (C' D' S' C'' D'' S'' : List ℕ) → ((i j : ℕ) → R i j ≡ (A i j || B i j)) →
      Region ts s cs A C D S C' D' S' → Region ts s cs B C' D' S' C'' D'' S'' → Region ts s cs R C D S C'' D'' S''
  region_more A B R C' D' S' C'' D'' S'' both x y =
      record {
        colours = λ i j c iw c3. y.colours i j c iw c3 ∙ rw (both i j, x.colours i j c iw c3) (joined (A i j) (B i j) _ _);
        depths = λ i j iw. y.depths i j iw ∙ rw (both i j, x.depths i j iw) (joined (A i j) (B i j) _ _);
        shown = λ q i j c iw jh c3. y.shown q i j c iw jh c3 ∙ rw (both i j, x.shown q i j c iw jh c3) (joined_and (ltb q (shows cs)) (A i j) (B i j) (get_or (get_or (seen_dots ts i j (begin s) cs) q no_dot).colour c 0) (get_or S (((q * s.height + j) * s.width + i) * 3 + c) 0));
      }

two_parts : (a b c k : ℕ) → a ≤ b → b ≤ c → from_to a c k ≡ (from_to a b k || from_to b c k)
two_parts a b c k h g = grind (arith, nat_tests)

pub across : (l m r t b : ℕ) → l ≤ m → m ≤ r → (i j : ℕ) → in_box l t r b i j ≡ (in_box l t m b i j || in_box m t r b i j)
across l m r t b h g i j = rw (two_parts l m r i h g) (and-or_distrib_right (from_to l m i) (from_to m r i) (from_to t b j))

pub down : (l r t m b : ℕ) → t ≤ m → m ≤ b → (i j : ℕ) → in_box l t r b i j ≡ (in_box l t r m i j || in_box l m r b i j)
down l r t m b h g i j = rw (two_parts t m b j h g) (and-or_distrib_left (from_to l r i) (from_to t m j) (from_to m b j))

nothing : (a k : ℕ) → from_to a a k ≡ false
nothing a k = grind (arith, nat_tests)

pub across_none : (l t b i j : ℕ) → in_box l t l b i j ≡ false
across_none l t b i j = rw (nothing l i)

pub down_none : (l r t i j : ℕ) → in_box l t r t i j ≡ false
down_none l r t i j = rw (nothing t j) (and-false (from_to l r i))
