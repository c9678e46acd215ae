-- Signs of products and sums.
-- Assumes nothing.
use Rattle.std.proofs.Common.{◌≡◌, zero, suc, ℤ, pos, negsuc, ◌+ℤ◌, ◌*ℤ◌, ◌≤ℤ◌, ◌<ℤ◌, sym, ap, ◌∙◌, arith}
use lib.IntN.{zero-*ℤ}
use borrow.Author.Differences.{ints}

pub mul_pos : (a b : ℤ) → pos 0 <ℤ a → pos 0 <ℤ b → pos 0 <ℤ (a *ℤ b)
mul_pos (pos zero) b h g = omega (arith, ints)
mul_pos (pos (suc m)) (pos zero) h g = omega (arith, ints)
mul_pos (pos (suc m)) (pos (suc n)) h g = omega (arith, ints)
mul_pos (pos (suc m)) (negsuc n) h g = omega (arith, ints)
mul_pos (negsuc m) b h g = omega (arith, ints)

pub mul_nonneg : (a b : ℤ) → pos 0 ≤ℤ a → pos 0 ≤ℤ b → pos 0 ≤ℤ (a *ℤ b)
mul_nonneg (pos m) (pos n) h g = omega (arith, ints)
mul_nonneg (pos m) (negsuc n) h g = omega (arith, ints)
mul_nonneg (negsuc m) b h g = omega (arith, ints)

-- a u = m n + g h
pub factor_pos : (a u m n g h : ℤ) → a *ℤ u ≡ (m *ℤ n) +ℤ (g *ℤ h) → pos 0 <ℤ a → pos 0 <ℤ m → pos 0 <ℤ n → pos 0 ≤ℤ g → pos 0 ≤ℤ h → pos 0 <ℤ u
factor_pos a (pos zero) m n g h e p q r s t = rest (m *ℤ n) (g *ℤ h) (mul_pos m n q r) (mul_nonneg g h s t) (sym e)
  where
    rest : (x y : ℤ) → pos 0 <ℤ x → pos 0 ≤ℤ y → x +ℤ y ≡ a *ℤ pos zero → pos 0 <ℤ pos zero
    rest x y i j f = omega (arith, ints)
factor_pos a (pos (suc i)) m n g h e p q r s t = omega (arith, ints)
factor_pos a (negsuc i) m n g h e p q r s t = rest a p (m *ℤ n) (g *ℤ h) (mul_pos m n q r) (mul_nonneg g h s t) (sym e)
  where
    rest : (a : ℤ) → pos 0 <ℤ a → (x y : ℤ) → pos 0 <ℤ x → pos 0 ≤ℤ y → x +ℤ y ≡ a *ℤ negsuc i → pos 0 <ℤ negsuc i
    rest (pos b) l x y i j f = omega (arith, ints)
    rest (negsuc b) l x y i j f = omega (arith, ints)

-- a u = m n + e z, with e = 0
pub above_by : (a u m n e z : ℤ) → a *ℤ u ≡ (m *ℤ n) +ℤ (e *ℤ z) → e ≡ pos 0 → pos 0 <ℤ a → pos 0 <ℤ m → pos 0 <ℤ n → pos 0 <ℤ u
above_by a u m n e z h f p q r =
    factor_pos a u m n (pos 0) (pos 0) (h ∙ ap (λ (i : ℤ). (m *ℤ n) +ℤ (i *ℤ z)) f ∙ ap (λ (i : ℤ). (m *ℤ n) +ℤ i) (zero-*ℤ z)) p q r (record { le = tt }) (record { le = tt })
