-- What a row that was written and put back leaves at each place.
-- Assumes nothing.
use Rattle.std.proofs.Common.{◌≡◌, ℕ, ◌+◌, ◌-◌, ◌*◌, ◌<◌, ◌≤◌, Bool, false, cond, ◌&&◌, ◌⊎◌, List, length, get_or, take, drop, sym, ap, ◌∙◌, subst, inl, inr, mul-le-mul_right, add-mul, arith}
use borrow.Rule.Slice.PartMut.{put_mid}
use Rattle.std.proofs.lemmas.List.{places, get_or-take, get_or-drop}
use Rattle.std.proofs.lemmas.Bool.{cases_order, cases_lt, eq-eqb, ne_eqb}
use Rattle.std.proofs.lemmas.Bool.Decides.{nat_tests}
use Rattle.reference.specs.Boxes.{from_to, in_box, Colours, Depths}
use Rattle.reference.specs.Shows.{OnePicture}

-- ---- a part that was put back
pub put_before : (a n : ℕ) (xs ys : List ℕ) (k : ℕ) → k < a → a ≤ length xs → get_or (put_mid a n xs ys) k 0 ≡ get_or xs k 0
put_before a n xs ys k h g = grind (arith, places)

pub put_in : (a n : ℕ) (xs ys : List ℕ) (k : ℕ) → a ≤ k → k < a + n → a ≤ length xs → length ys ≡ n → get_or (put_mid a n xs ys) k 0 ≡ get_or ys (k - a) 0
put_in a n xs ys k h g f e = grind (arith, places)

pub put_after : (a n : ℕ) (xs ys : List ℕ) (k : ℕ) → a + n ≤ k → a ≤ length xs → length ys ≡ n → get_or (put_mid a n xs ys) k 0 ≡ get_or xs k 0
put_after a n xs ys k h f e = grind (arith, places)

-- ---- rows
-- rows of one width do not meet
pub row_below : (w j m : ℕ) → j < m → j * w + w ≤ m * w
row_below w j m h = omega (arith, mul-le-mul_right w h, add-mul j 1 w)

-- a box that has one row more
in_row : (l t r j i m v o x : ℕ) → t ≤ j → m ≡ j → l ≤ i → i < r → x ≡ v → x ≡ cond (in_box l t r (j + 1) i m) v o
in_row l t r j i m v o x tj mj li ir e = grind (arith, nat_tests)

out_row : (l t r j i m v o x : ℕ) → t ≤ j → (m ≡ j → (i < l) ⊎ (r ≤ i)) → x ≡ cond (in_box l t r j i m) v o → x ≡ cond (in_box l t r (j + 1) i m) v o
out_row l t r j i m v o x tj out e = grind (arith, nat_tests)

-- what lies at place k, for dot (i, m), after row j of a box was put back from place a on
row_more : (l t r j i m a n k v o : ℕ) (xs ys : List ℕ) → t ≤ j → a ≤ length xs → length ys ≡ n →
    (m < j → k < a) → (j < m → a + n ≤ k) → (m ≡ j → i < l → k < a) → (m ≡ j → r ≤ i → a + n ≤ k) →
    (m ≡ j → l ≤ i → i < r → (a ≤ k) × (k < a + n) × (get_or ys (k - a) 0 ≡ v)) →
    get_or xs k 0 ≡ cond (in_box l t r j i m) v o → get_or (put_mid a n xs ys) k 0 ≡ cond (in_box l t r (j + 1) i m) v o
row_more l t r j i m a n k v o xs ys tj lx ly above below before behind within inv =
    elim (cases_order m j) [
      | inl same ↦ elim (cases_lt i l) [
        | inl less ↦ put_before a n xs ys k (before same less) lx ∙ out_row l t r j i m v o _ tj (λ _. inl less) inv
        | inr from ↦ elim (cases_lt i r) [
          | inl less ↦
              let p = within same from less in
              put_in a n xs ys k p.0 p.1 lx ly ∙ in_row l t r j i m v o _ tj same from less p.2
          | inr more ↦ put_after a n xs ys k (behind same more) lx ly ∙ out_row l t r j i m v o _ tj (λ _. inr more) inv
        ]
      ]
      | inr (inl less) ↦ put_before a n xs ys k (above less) lx ∙ out_row l t r j i m v o _ tj (λ s. absurd (omega arith)) inv
      | inr (inr more) ↦ put_after a n xs ys k (below more) lx ly ∙ out_row l t r j i m v o _ tj (λ s. absurd (omega arith)) inv
    ]

module _ (w l r t j : ℕ) (xs ys old : List ℕ) (lr : l ≤ r) (rw' : r ≤ w) (tj : t ≤ j) where
  same_row : (m : ℕ) → m ≡ j → m * w ≡ j * w
  same_row m e = ap (λ (x : ℕ). x * w) e

  pub colours_more : (V : ℕ → ℕ → ℕ → ℕ) → (j * w + r) * 3 ≤ length xs → length ys ≡ (j * w + r) * 3 - (j * w + l) * 3 →
      ((k c : ℕ) → k < r - l → c < 3 → get_or ys (k * 3 + c) 0 ≡ V (l + k) j c) →
      Colours w (in_box l t r j) V old xs → Colours w (in_box l t r (j + 1)) V old (put_mid ((j * w + l) * 3) ((j * w + r) * 3 - (j * w + l) * 3) xs ys)
  colours_more V lx ly all inv i m c iw c3 =
      row_more l t r j i m _ _ _ (V i m c) _ xs ys tj (omega arith) ly
      (λ less. omega (arith, row_below w m j less)) (λ more. omega (arith, row_below w j m more))
      (λ same less. omega (arith, same_row m same)) (λ same more. omega (arith, same_row m same))
      (λ same from less.
      let mw = same_row m same in
      let e : (m * w + i) * 3 + c - (j * w + l) * 3 ≡ (i - l) * 3 + c = omega arith in
      let f : l + (i - l) ≡ i = omega arith in
      (omega arith, omega arith, ap (λ (x : ℕ). get_or ys x 0) e ∙ all (i - l) c (omega arith) c3 ∙ ap (λ (x : ℕ). V x j c) f ∙ ap (λ (x : ℕ). V i x c) (sym same)))
      (inv i m c iw c3)

  pub depths_more : (V : ℕ → ℕ → ℕ) → j * w + r ≤ length xs → length ys ≡ (j * w + r) - (j * w + l) →
      ((k : ℕ) → k < r - l → get_or ys k 0 ≡ V (l + k) j) →
      Depths w (in_box l t r j) V old xs → Depths w (in_box l t r (j + 1)) V old (put_mid (j * w + l) ((j * w + r) - (j * w + l)) xs ys)
  depths_more V lx ly all inv i m iw =
      row_more l t r j i m _ _ _ (V i m) _ xs ys tj (omega arith) ly
      (λ less. omega (arith, row_below w m j less)) (λ more. omega (arith, row_below w j m more))
      (λ same less. omega (arith, same_row m same)) (λ same more. omega (arith, same_row m same))
      (λ same from less.
      let mw = same_row m same in
      let e : m * w + i - (j * w + l) ≡ i - l = omega arith in
      let f : l + (i - l) ≡ i = omega arith in
      (omega arith, omega arith, ap (λ (x : ℕ). get_or ys x 0) e ∙ all (i - l) (omega arith) ∙ ap (λ (x : ℕ). V x j) f ∙ ap (λ (x : ℕ). V i x) (sym same)))
      (inv i m iw)

-- one dot more of a row
pub three_more : (row ys rgb : List ℕ) (n size : ℕ) → size ≡ 3 → n * 3 + 3 ≤ length row → length ys ≡ 3 → ys ≡ rgb →
    ((k c : ℕ) → k < n → c < 3 → get_or row (k * 3 + c) 0 ≡ get_or rgb c 0) →
    (k c : ℕ) → k < n + 1 → c < 3 → get_or (put_mid (n * 3) size row ys) (k * 3 + c) 0 ≡ get_or rgb c 0
three_more row ys rgb n size s3 long three same inv k c kn c3 =
    elim (cases_lt k n) [
      | inl less ↦ put_before (n * 3) size row ys (k * 3 + c) (omega arith) (omega arith) ∙ inv k c less c3
      | inr here ↦
          let e : k * 3 + c - n * 3 ≡ c = omega arith in
          put_in (n * 3) size row ys (k * 3 + c) (omega arith) (omega arith) (omega arith) (omega arith) ∙ (λ x. get_or (same x) (e x) 0)
    ]

-- ---- a row of one picture that was copied to a row of another
copied : (w l r base j : ℕ) (xs ys : List ℕ) → ys ≡ take ((j * w + r) * 3 - (j * w + l) * 3) (drop ((j * w + l) * 3) xs) →
    (k c : ℕ) → k < r - l → c < 3 → get_or ys (k * 3 + c) 0 ≡ get_or xs ((((base + j) - base) * w + (l + k)) * 3 + c) 0
copied w l r base j xs ys e k c kr c3 =
    let d : (base + j) - base ≡ j = omega arith in
    let m : ((base + j) - base) * w ≡ j * w = ap (λ (x : ℕ). x * w) d in
    let p : (j * w + l) * 3 + (k * 3 + c) ≡ (((base + j) - base) * w + (l + k)) * 3 + c = omega arith in
    ap (λ (z : List ℕ). get_or z (k * 3 + c) 0) e ∙ get_or-take ((j * w + r) * 3 - (j * w + l) * 3) (drop ((j * w + l) * 3) xs) (k * 3 + c) 0 (omega arith)
    ∙ get_or-drop ((j * w + l) * 3) xs (k * 3 + c) 0 ∙ ap (λ (x : ℕ). get_or xs x 0) p

-- rows of `src` that were copied, each `base` rows further down
abbrev pub Copied : ℕ → ℕ → ℕ → ℕ → ℕ → ℕ → List ℕ → List ℕ → List ℕ → Type 0
Copied w base l t r b src old new = Colours w (in_box l (base + t) r (base + b)) (λ i m c. get_or src (((m - base) * w + i) * 3 + c) 0) old new

pub copied_more : (w base l t r j : ℕ) (xs ys old src : List ℕ) → l ≤ r → r ≤ w → t ≤ j → ((base + j) * w + r) * 3 ≤ length xs →
    length ys ≡ ((base + j) * w + r) * 3 - ((base + j) * w + l) * 3 → ys ≡ take ((j * w + r) * 3 - (j * w + l) * 3) (drop ((j * w + l) * 3) src) →
    Copied w base l t r j src old xs →
    Copied w base l t r (j + 1) src old (put_mid (((base + j) * w + l) * 3) (((base + j) * w + r) * 3 - ((base + j) * w + l) * 3) xs ys)
copied_more w base l t r j xs ys old src lr rw' tj lx ly is inv =
    let e : (base + j) + 1 ≡ base + (j + 1) = omega arith in
    subst (λ (m : ℕ). Colours w (in_box l (base + t) r m) (λ i n c. get_or src (((n - base) * w + i) * 3 + c) 0) old
    (put_mid (((base + j) * w + l) * 3) (((base + j) * w + r) * 3 - ((base + j) * w + l) * 3) xs ys)) e
    (colours_more w l r (base + t) (base + j) xs ys old lr rw' (omega arith) (λ i n c. get_or src (((n - base) * w + i) * 3 + c) 0) lx ly (copied w l r base j src ys is) inv)

box_low : (l t r b a i j : ℕ) → j < a → in_box l (a + t) r (a + b) i j ≡ false
box_low l t r b a i j h = grind (arith, nat_tests)

box_high : (l t r b a i j : ℕ) → a + b ≤ j → in_box l (a + t) r (a + b) i j ≡ false
box_high l t r b a i j h = grind (arith, nat_tests)

box_same : (l t r b a i j : ℕ) → in_box l (a + t) r (a + b) i (a + j) ≡ in_box l t r b i j
box_same l t r b a i j = ap (λ (x : Bool). from_to l r i && x) (rows t b a j)
  where
    rows : (t b a j : ℕ) → from_to (a + t) (a + b) (a + j) ≡ from_to t b j
    rows t b a j = grind (arith, nat_tests)

-- rows that were copied to where picture n lies are a part of this picture
pub copied_picture : (w h n l t r b : ℕ) (src old new : List ℕ) → b ≤ h → Copied w (n * h) l t r b src old new → OnePicture w h n (in_box l t r b) src old new
copied_picture w h n l t r b src old new bh x q i j c iw jh c3 =
    elim (cases_order q n) [
      | inl same ↦
          let qh : q * h ≡ n * h = ap (λ (k : ℕ). k * h) same in
          let e : (n * h + j) - n * h ≡ j = omega arith in
          rw (qh, eq-eqb q n same) (x i (n * h + j) c iw c3 ∙ rw (box_same l t r b (n * h) i j, e))
      | inr (inl less) ↦
          x i (q * h + j) c iw c3 ∙ rw (box_low l t r b (n * h) i (q * h + j) (omega (arith, row_below h q n less)), ne_eqb q n (λ s. omega arith))
      | inr (inr more) ↦
          x i (q * h + j) c iw c3 ∙ rw (box_high l t r b (n * h) i (q * h + j) (omega (arith, row_below h n q more)), ne_eqb q n (λ s. omega arith))
    ]
