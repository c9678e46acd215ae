-- A ring solver for ℤ by reflection. An equation between sums, differences and products of integers is proved by `solve`: both sides are written as an `Expr`
-- over numbered variables, their difference is multiplied out into a list of terms (a coefficient and a sorted list of variables), and the check that each
-- coefficient is 0 computes.
-- Assumes nothing.
use Rattle.std.proofs.Common.{◌≡◌, ℕ, zero, suc, ◌*◌, Bool, true, false, T, eqb, leb, List, [], ◌∷◌, ℤ, pos, negsuc, ◌+ℤ◌, ◌-ℤ◌, ◌*ℤ◌, neg_ℤ, sym, refl, ap, ◌∙◌, arith, eqb→eq}
use lib.IntN.{+ℤ_assoc, +ℤ_idl, *ℤ_comm, zero-*ℤ, *ℤ-zero}
use borrow.Author.Differences.{ints, up, down, product_is, sum_is_lem, same_in}

-- ---- laws of the product
pub *ℤ_distr : (a b c : ℤ) → a *ℤ (b +ℤ c) ≡ (a *ℤ b) +ℤ (a *ℤ c)
*ℤ_distr a b c =
    same_in (a *ℤ (b +ℤ c)) ((a *ℤ b) +ℤ (a *ℤ c))
    (omega (arith, sum_is_lem (a *ℤ b) (a *ℤ c), product_is a (b +ℤ c), product_is a b, product_is a c, ap (λ (n : ℕ). up a * n) (sum_is_lem b c), ap (λ (n : ℕ). down a * n) (sum_is_lem b c)))

pub *ℤ_assoc : (a b c : ℤ) → (a *ℤ b) *ℤ c ≡ a *ℤ (b *ℤ c)
*ℤ_assoc a b c =
    same_in ((a *ℤ b) *ℤ c) (a *ℤ (b *ℤ c))
    (rw ((product_is (a *ℤ b) c).0, (product_is (a *ℤ b) c).1, (product_is a (b *ℤ c)).0, (product_is a (b *ℤ c)).1, (product_is a b).0, (product_is a b).1, (product_is b c).0, (product_is b c).1)
    (omega arith))

pub one_*ℤ : (a : ℤ) → pos 1 *ℤ a ≡ a
one_*ℤ a = omega (arith, ints)

pub negℤ_*ℤ : (a : ℤ) → negsuc 0 *ℤ a ≡ neg_ℤ a
negℤ_*ℤ a = omega (arith, ints)

-- ---- expressions
infixl 60 ◌⊕◌ ◌⊖◌
infixl 70 ◌⊗◌
pub data Expr : Type 0 where
  v : ℕ → Expr
  k : ℤ → Expr
  ◌⊕◌ : Expr → Expr → Expr
  ◌⊖◌ : Expr → Expr → Expr
  ◌⊗◌ : Expr → Expr → Expr
  ⊝ : Expr → Expr

abbrev pub at : List ℤ → ℕ → ℤ
at [] n = pos 0
at (z ∷ zs) zero = z
at (z ∷ zs) (suc n) = at zs n

abbrev pub value : List ℤ → Expr → ℤ
value r (v n) = at r n
value r (k z) = z
value r (e ⊕ f) = value r e +ℤ value r f
value r (e ⊖ f) = value r e -ℤ value r f
value r (e ⊗ f) = value r e *ℤ value r f
value r (⊝ e) = neg_ℤ (value r e)

-- ---- terms: a coefficient and a sorted list of variables
pub data Term : Type 0 where
  term : ℤ → List ℕ → Term

abbrev factors : List ℤ → List ℕ → ℤ
factors r [] = pos 1
factors r (n ∷ ns) = at r n *ℤ factors r ns

abbrev sum : List ℤ → List Term → ℤ
sum r [] = pos 0
sum r (term c ns ∷ p) = (c *ℤ factors r ns) +ℤ sum r p

abbrev cond : {A : Type 0} → Bool → A → A → A
cond true a b = a
cond false a b = b

-- a variable into a sorted list
abbrev put : ℕ → List ℕ → List ℕ
put n [] = n ∷ []
put n (m ∷ ms) = cond (leb n m) (n ∷ m ∷ ms) (m ∷ put n ms)

abbrev merge : List ℕ → List ℕ → List ℕ
merge [] ms = ms
merge (n ∷ ns) ms = put n (merge ns ms)

abbrev same : List ℕ → List ℕ → Bool
same [] [] = true
same [] (m ∷ ms) = false
same (n ∷ ns) [] = false
same (n ∷ ns) (m ∷ ms) = cond (eqb n m) (same ns ms) false

-- a term into a sum: onto the one with the same variables, or at the end
abbrev add : ℤ → List ℕ → List Term → List Term
add c ns [] = term c ns ∷ []
add c ns (term d ms ∷ p) = cond (same ns ms) (term (c +ℤ d) ms ∷ p) (term d ms ∷ add c ns p)

abbrev plus : List Term → List Term → List Term
plus [] q = q
plus (term c ns ∷ p) q = add c ns (plus p q)

abbrev scale : ℤ → List ℕ → List Term → List Term
scale c ns [] = []
scale c ns (term d ms ∷ p) = add (c *ℤ d) (merge ns ms) (scale c ns p)

abbrev times : List Term → List Term → List Term
times [] q = []
times (term c ns ∷ p) q = plus (scale c ns q) (times p q)

abbrev pub normal : Expr → List Term
normal (v n) = term (pos 1) (n ∷ []) ∷ []
normal (k z) = term z [] ∷ []
normal (e ⊕ f) = plus (normal e) (normal f)
normal (e ⊖ f) = plus (normal e) (scale (negsuc 0) [] (normal f))
normal (e ⊗ f) = times (normal e) (normal f)
normal (⊝ e) = scale (negsuc 0) [] (normal e)

abbrev zero? : ℤ → Bool
zero? (pos n) = eqb n 0
zero? (negsuc n) = false

abbrev pub zeros : List Term → Bool
zeros [] = true
zeros (term c ns ∷ p) = cond (zero? c) (zeros p) false

-- ---- each step keeps the value
+ℤ_left : (a b c : ℤ) → a +ℤ (b +ℤ c) ≡ b +ℤ (a +ℤ c)
+ℤ_left a b c = omega (arith, ints)

*ℤ_left : (a b c : ℤ) → a *ℤ (b *ℤ c) ≡ b *ℤ (a *ℤ c)
*ℤ_left a b c = sym (*ℤ_assoc a b c) ∙ ap (λ (z : ℤ). z *ℤ c) (*ℤ_comm a b) ∙ *ℤ_assoc b a c

*ℤ_distl : (a b c : ℤ) → (a +ℤ b) *ℤ c ≡ (a *ℤ c) +ℤ (b *ℤ c)
*ℤ_distl a b c = *ℤ_comm (a +ℤ b) c ∙ *ℤ_distr c a b ∙ ap (λ (z : ℤ). z +ℤ (c *ℤ b)) (*ℤ_comm c a) ∙ ap (λ (z : ℤ). (a *ℤ c) +ℤ z) (*ℤ_comm c b)

module _ (r : List ℤ) where
  put_is : (n : ℕ) (ms : List ℕ) → factors r (put n ms) ≡ at r n *ℤ factors r ms
  put_is n [] = refl
  put_is n (m ∷ ms) = go (leb n m) (put_is n ms)
    where
      go : (b : Bool) → factors r (put n ms) ≡ at r n *ℤ factors r ms → factors r (cond b (n ∷ m ∷ ms) (m ∷ put n ms)) ≡ at r n *ℤ (at r m *ℤ factors r ms)
      go true h = refl
      go false h = ap (λ (z : ℤ). at r m *ℤ z) h ∙ *ℤ_left (at r m) (at r n) (factors r ms)

  merge_is : (ns ms : List ℕ) → factors r (merge ns ms) ≡ factors r ns *ℤ factors r ms
  merge_is [] ms = sym (one_*ℤ (factors r ms))
  merge_is (n ∷ ns) ms = put_is n (merge ns ms) ∙ ap (λ (z : ℤ). at r n *ℤ z) (merge_is ns ms) ∙ sym (*ℤ_assoc (at r n) (factors r ns) (factors r ms))

  same_is : (ns ms : List ℕ) → T (same ns ms) → ns ≡ ms
  same_is [] [] t = refl
  same_is [] (m ∷ ms) t = absurd t
  same_is (n ∷ ns) [] t = absurd t
  same_is (n ∷ ns) (m ∷ ms) t = go (eqb n m) (eqb→eq n m) (same_is ns ms) t
    where
      go : (b : Bool) → (T b → n ≡ m) → (T (same ns ms) → ns ≡ ms) → T (cond b (same ns ms) false) → (n ∷ ns) ≡ (m ∷ ms)
      go true h i u = let e : n ≡ m = h tt in let f : ns ≡ ms = i u in cc
      go false h i u = absurd u

  add_is : (c : ℤ) (ns : List ℕ) (p : List Term) → sum r (add c ns p) ≡ (c *ℤ factors r ns) +ℤ sum r p
  add_is c ns [] = refl
  add_is c ns (term d ms ∷ p) = go (same ns ms) (same_is ns ms) (add_is c ns p)
    where
      go : (b : Bool) → (T b → ns ≡ ms) → sum r (add c ns p) ≡ (c *ℤ factors r ns) +ℤ sum r p →
          sum r (cond b (term (c +ℤ d) ms ∷ p) (term d ms ∷ add c ns p)) ≡ (c *ℤ factors r ns) +ℤ ((d *ℤ factors r ms) +ℤ sum r p)
      go true h u =
          ap (λ (z : ℤ). z +ℤ sum r p) (*ℤ_distl c d (factors r ms)) ∙ +ℤ_assoc (c *ℤ factors r ms) (d *ℤ factors r ms) (sum r p)
          ∙ ap (λ (l : List ℕ). (c *ℤ factors r l) +ℤ ((d *ℤ factors r ms) +ℤ sum r p)) (sym (h tt))
      go false h u = ap (λ (z : ℤ). (d *ℤ factors r ms) +ℤ z) u ∙ +ℤ_left (d *ℤ factors r ms) (c *ℤ factors r ns) (sum r p)

  plus_is : (p q : List Term) → sum r (plus p q) ≡ sum r p +ℤ sum r q
  plus_is [] q = sym (+ℤ_idl (sum r q))
  plus_is (term c ns ∷ p) q =
      add_is c ns (plus p q) ∙ ap (λ (z : ℤ). (c *ℤ factors r ns) +ℤ z) (plus_is p q) ∙ sym (+ℤ_assoc (c *ℤ factors r ns) (sum r p) (sum r q))

  product : (c d : ℤ) (ns ms : List ℕ) → (c *ℤ d) *ℤ factors r (merge ns ms) ≡ (c *ℤ factors r ns) *ℤ (d *ℤ factors r ms)
  product c d ns ms =
      ap (λ (z : ℤ). (c *ℤ d) *ℤ z) (merge_is ns ms) ∙ *ℤ_assoc c d (factors r ns *ℤ factors r ms)
      ∙ ap (λ (z : ℤ). c *ℤ z) (*ℤ_left d (factors r ns) (factors r ms)) ∙ sym (*ℤ_assoc c (factors r ns) (d *ℤ factors r ms))

  scale_is : (c : ℤ) (ns : List ℕ) (p : List Term) → sum r (scale c ns p) ≡ (c *ℤ factors r ns) *ℤ sum r p
  scale_is c ns [] = sym (*ℤ-zero (c *ℤ factors r ns))
  scale_is c ns (term d ms ∷ p) =
      add_is (c *ℤ d) (merge ns ms) (scale c ns p) ∙ ap (λ (z : ℤ). z +ℤ sum r (scale c ns p)) (product c d ns ms)
      ∙ ap (λ (z : ℤ). ((c *ℤ factors r ns) *ℤ (d *ℤ factors r ms)) +ℤ z) (scale_is c ns p)
      ∙ sym (*ℤ_distr (c *ℤ factors r ns) (d *ℤ factors r ms) (sum r p))

  times_is : (p q : List Term) → sum r (times p q) ≡ sum r p *ℤ sum r q
  times_is [] q = sym (zero-*ℤ (sum r q))
  times_is (term c ns ∷ p) q =
      plus_is (scale c ns q) (times p q) ∙ ap (λ (z : ℤ). z +ℤ sum r (times p q)) (scale_is c ns q)
      ∙ ap (λ (z : ℤ). ((c *ℤ factors r ns) *ℤ sum r q) +ℤ z) (times_is p q) ∙ sym (*ℤ_distl (c *ℤ factors r ns) (sum r p) (sum r q))

  minus_is : (p : List Term) → sum r (scale (negsuc 0) [] p) ≡ neg_ℤ (sum r p)
  minus_is p = scale_is (negsuc 0) [] p ∙ negℤ_*ℤ (sum r p)

  one_term : (z : ℤ) → (z *ℤ pos 1) +ℤ pos 0 ≡ z
  one_term z = omega (arith, ints)

  var_term : (z : ℤ) → (pos 1 *ℤ (z *ℤ pos 1)) +ℤ pos 0 ≡ z
  var_term z = omega (arith, ints)

  normal_is : (e : Expr) → sum r (normal e) ≡ value r e
  normal_is (v n) = var_term (at r n)
  normal_is (k z) = one_term z
  normal_is (e ⊕ f) = plus_is (normal e) (normal f) ∙ ap (λ (z : ℤ). z +ℤ sum r (normal f)) (normal_is e) ∙ ap (λ (z : ℤ). value r e +ℤ z) (normal_is f)
  normal_is (e ⊖ f) =
      plus_is (normal e) (scale (negsuc 0) [] (normal f)) ∙ ap (λ (z : ℤ). z +ℤ sum r (scale (negsuc 0) [] (normal f))) (normal_is e)
      ∙ ap (λ (z : ℤ). value r e +ℤ z) (minus_is (normal f) ∙ ap neg_ℤ (normal_is f))
  normal_is (e ⊗ f) = times_is (normal e) (normal f) ∙ ap (λ (z : ℤ). z *ℤ sum r (normal f)) (normal_is e) ∙ ap (λ (z : ℤ). value r e *ℤ z) (normal_is f)
  normal_is (⊝ e) = minus_is (normal e) ∙ ap neg_ℤ (normal_is e)

  zero_is : (z : ℤ) → T (zero? z) → z ≡ pos 0
  zero_is (pos n) t = ap pos (eqb→eq n 0 t)
  zero_is (negsuc n) t = absurd t

  zeros_is : (p : List Term) → T (zeros p) → sum r p ≡ pos 0
  zeros_is [] t = refl
  zeros_is (term c ns ∷ p) t = go (zero? c) (zero_is c) (zeros_is p) t
    where
      go : (b : Bool) → (T b → c ≡ pos 0) → (T (zeros p) → sum r p ≡ pos 0) → T (cond b (zeros p) false) → (c *ℤ factors r ns) +ℤ sum r p ≡ pos 0
      go true h i u = ap (λ (z : ℤ). (z *ℤ factors r ns) +ℤ sum r p) (h tt) ∙ ap (λ (z : ℤ). z +ℤ sum r p) (zero-*ℤ (factors r ns)) ∙ +ℤ_idl (sum r p) ∙ i u
      go false h i u = absurd u

apart : (a b : ℤ) → a -ℤ b ≡ pos 0 → a ≡ b
apart a b e = omega (arith, ints)

-- an equation: the values of the variables, both sides, and `tt` for the computed check
pub solve : (r : List ℤ) (e f : Expr) → T (zeros (normal (e ⊖ f))) → value r e ≡ value r f
solve r e f t = apart (value r e) (value r f) (sym (normal_is r (e ⊖ f)) ∙ zeros_is r (normal (e ⊖ f)) t)
