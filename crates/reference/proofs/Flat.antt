-- Lists of lists of one length laid end to end, and lists that agree at each place of each row.
-- Assumes nothing.
use Rattle.std.proofs.Common.{◌≡◌, ℕ, zero, suc, ◌+◌, ◌-◌, ◌*◌, ◌/◌, ◌%◌, ◌<◌, ◌≤◌, List, [], ◌∷◌, ◌++◌, length, get_or, drop, sym, refl, ap, ◌∙◌, subst, inl, inr, mul-le-mul_right, mod-lt, mul_assoc, suc-mul, div-add-mod', zero-mul, arith}
use Rattle.std.proofs.lemmas.List.{length-append, length-drop, get_or_append_left, get_or-append-add, get_or-append_right, get_or-drop, ext_get_or, take_at, drop_at, append_assoc}
use Rattle.std.proofs.lemmas.Bool.{cases_lt}
use Rattle.meaning.specs.Meaning.{row}
use Rattle.std.specs.List.{AllByRecursion}
use Rattle.std.proofs.ByRecursion.{All-append}
use Rattle.reference.specs.Whole.{flat, cut, grid}
use Rattle.reference.proofs.Rows.{row_below}

abbrev pub Long : {A : Type 0} → ℕ → List A → Type 0
Long n l = length l ≡ n

pub length_flat : {A : Type 0} (n : ℕ) (l : List (List A)) → AllByRecursion (Long n) l → length (flat l) ≡ length l * n
length_flat n [] e = sym (zero-mul n)
length_flat n (x ∷ l) e = length-append x (flat l) ∙ omega (arith, e.0, length_flat n l e.1, suc-mul (length l) n)

pub flat_at : {A : Type 0} (n : ℕ) (d : A) (l : List (List A)) → AllByRecursion (Long n) l → (q k : ℕ) → k < n → get_or (flat l) (q * n + k) d ≡ get_or (get_or l q []) k d
flat_at n d [] e q k h = refl
flat_at n d (x ∷ l) e zero k h =
    let z : 0 * n + k ≡ k = omega (arith, zero-mul n) in
    ap (λ (y : ℕ). get_or (x ++ flat l) y d) z ∙ get_or_append_left x (flat l) d k (omega (arith, e.0))
flat_at n d (x ∷ l) e (suc q) k h =
    let z : suc q * n + k ≡ length x + (q * n + k) = omega (arith, suc-mul q n, e.0) in
    ap (λ (y : ℕ). get_or (x ++ flat l) y d) z ∙ get_or-append-add x (flat l) (q * n + k) d ∙ flat_at n d l e.1 q k h

-- what was laid end to end is cut into the same parts
pub cut_flat : {A : Type 0} (k : ℕ) (l : List (List A)) (rest : List A) → AllByRecursion (Long k) l → cut (length l) k (flat l ++ rest) ≡ l
cut_flat k [] rest e = refl
cut_flat k (x ∷ l) rest e = rw (append_assoc, take_at x (flat l ++ rest) k e.0, drop_at x (flat l ++ rest) k e.0, cut_flat k l rest e.1)

row_long : (f : ℕ → List ℕ) (i n : ℕ) → length (row f i n) ≡ n
unfolding row
row_long f i zero = refl
row_long f i (suc n) = ap suc (row_long f (suc i) n)

row_at : (f : ℕ → List ℕ) (i n k : ℕ) → k < n → get_or (row f i n) k [] ≡ f (i + k)
unfolding row
row_at f i zero k h = absurd (omega arith)
row_at f i (suc n) zero h = let z : i ≡ i + 0 = omega arith in ap f z
row_at f i (suc n) (suc k) h = let z : suc i + k ≡ i + suc k = omega arith in row_at f (suc i) n k (omega arith) ∙ ap f z

all_row : (P : List ℕ → Type 0) (f : ℕ → List ℕ) → ((i : ℕ) → P (f i)) → (i n : ℕ) → AllByRecursion P (row f i n)
unfolding row
all_row P f h i zero = tt
all_row P f h i (suc n) = (h i, all_row P f h (suc i) n)

pub all_grid : (P : List ℕ → Type 0) (f : ℕ → ℕ → List ℕ) → ((i j : ℕ) → P (f i j)) → (w j n : ℕ) → AllByRecursion P (grid f w j n)
unfolding grid
all_grid P f h w j zero = tt
all_grid P f h w j (suc n) = All-append P (row (λ i. f i j) 0 w) (grid f w (suc j) n) (all_row P (λ i. f i j) (λ i. h i j) 0 w) (all_grid P f h w (suc j) n)

pub grid_long : (f : ℕ → ℕ → List ℕ) (w j n : ℕ) → length (grid f w j n) ≡ n * w
unfolding grid
grid_long f w j zero = sym (zero-mul w)
grid_long f w j (suc n) =
    length-append (row (λ i. f i j) 0 w) (grid f w (suc j) n) ∙ omega (arith, row_long (λ i. f i j) 0 w, grid_long f w (suc j) n, suc-mul n w)

pub grid_at : (f : ℕ → ℕ → List ℕ) (w j n i m : ℕ) → i < w → m < n → get_or (grid f w j n) (m * w + i) [] ≡ f i (j + m)
unfolding grid
grid_at f w j zero i m iw h = absurd (omega arith)
grid_at f w j (suc n) i zero iw h =
    let z : 0 * w + i ≡ i = omega (arith, zero-mul w) in
    let y : j ≡ j + 0 = omega arith in
    let r = row (λ k. f k j) 0 w in
    ap (λ (x : ℕ). get_or (r ++ grid f w (suc j) n) x []) z ∙ get_or_append_left r (grid f w (suc j) n) [] i (omega (arith, row_long (λ k. f k j) 0 w))
    ∙ row_at (λ k. f k j) 0 w i iw ∙ ap (λ (k : ℕ). f k j) (let o : 0 + i ≡ i = omega arith in o) ∙ ap (λ (k : ℕ). f i k) y
grid_at f w j (suc n) i (suc m) iw h =
    let r = row (λ k. f k j) 0 w in
    let z : suc m * w + i ≡ length r + (m * w + i) = omega (arith, suc-mul m w, row_long (λ k. f k j) 0 w) in
    let y : suc j + m ≡ j + suc m = omega arith in
    ap (λ (x : ℕ). get_or (r ++ grid f w (suc j) n) x []) z ∙ get_or-append-add r (grid f w (suc j) n) (m * w + i) [] ∙ grid_at f w (suc j) n i m iw (omega arith) ∙ ap (λ (k : ℕ). f i k) y

-- b numbers for each dot of a grid
pub bytes_at : (b : ℕ) (f : ℕ → ℕ → List ℕ) (w n : ℕ) → ((i j : ℕ) → length (f i j) ≡ b) → (i m c : ℕ) → i < w → m < n → c < b →
    get_or (flat (grid f w 0 n)) ((m * w + i) * b + c) 0 ≡ get_or (f i m) c 0
bytes_at b f w n all i m c iw mn cb =
    let z : 0 + m ≡ m = omega arith in
    flat_at b 0 (grid f w 0 n) (all_grid (Long b) f all w 0 n) (m * w + i) c cb ∙ ap (λ (l : List ℕ). get_or l c 0) (grid_at f w 0 n i m iw mn ∙ ap (λ (k : ℕ). f i k) z)

-- lists that agree in each row
pub rows_same : (w H : ℕ) (old new list : List ℕ) → 0 < w → length new ≡ length old → length list ≡ H * w → H * w ≤ length old →
    ((i j : ℕ) → i < w → j < H → get_or new (j * w + i) 0 ≡ get_or list (j * w + i) 0) →
    ((i j : ℕ) → i < w → H ≤ j → get_or new (j * w + i) 0 ≡ get_or old (j * w + i) 0) → new ≡ list ++ drop (H * w) old
rows_same w H old new list w0 ln ll lo before behind =
    ext_get_or 0 new (list ++ drop (H * w) old) (sym (length-append list (drop (H * w) old) ∙ omega (arith, length-drop (H * w) old))) (λ k kn.
    let p : k / w * w + k % w ≡ k = div-add-mod' k w in
    let i : k % w < w = mod-lt k w0 in
    elim (cases_lt (k / w) H) [
      | inl less ↦
          subst (λ (x : ℕ). get_or new x 0 ≡ get_or list x 0) p (before (k % w) (k / w) i less)
          ∙ sym (get_or_append_left list (drop (H * w) old) 0 k (omega (arith, row_below w (k / w) H less)))
      | inr more ↦
          let m : H * w ≤ k / w * w = lower (k / w) H w more in
          let q : H * w + (k - H * w) ≡ k = omega arith in
          subst (λ (x : ℕ). get_or new x 0 ≡ get_or old x 0) p (behind (k % w) (k / w) i more)
          ∙ sym (get_or-append_right list (drop (H * w) old) (H * w) k 0 ll (omega arith) ∙ get_or-drop (H * w) old (k - H * w) 0 ∙ ap (λ (x : ℕ). get_or old x 0) q)
    ])
  where
    lower : (m b w : ℕ) → b ≤ m → b * w ≤ m * w
    lower m b w h = mul-le-mul_right w h

pub dots_same : (w H : ℕ) (old new list : List ℕ) → 0 < w → length new ≡ length old → length list ≡ (H * w) * 3 → (H * w) * 3 ≤ length old →
    ((i j c : ℕ) → i < w → j < H → c < 3 → get_or new ((j * w + i) * 3 + c) 0 ≡ get_or list ((j * w + i) * 3 + c) 0) →
    ((i j c : ℕ) → i < w → H ≤ j → c < 3 → get_or new ((j * w + i) * 3 + c) 0 ≡ get_or old ((j * w + i) * 3 + c) 0) → new ≡ list ++ drop ((H * w) * 3) old
dots_same w H old new list w0 ln ll lo before behind =
    let a : (H * w) * 3 ≡ H * (w * 3) = mul_assoc H w 3 in
    let same : (j y : ℕ) → (j * w + y / 3) * 3 + y % 3 ≡ j * (w * 3) + y = λ j y. omega (arith, mul_assoc j w 3) in
    subst (λ (n : ℕ). new ≡ list ++ drop n old) (sym a)
    (rows_same (w * 3) H old new list (omega arith) ln (ll ∙ a) (omega arith)
    (λ y j yw jH. subst (λ (x : ℕ). get_or new x 0 ≡ get_or list x 0) (same j y) (before (y / 3) j (y % 3) (omega arith) jH (omega arith)))
    (λ y j yw jH. subst (λ (x : ℕ). get_or new x 0 ≡ get_or old x 0) (same j y) (behind (y / 3) j (y % 3) (omega arith) jH (omega arith))))
