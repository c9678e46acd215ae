-- Sizes of sums, products and quotients of whole numbers with sign, and what a number is behind its bits.
-- Assumes nothing.
use Rattle.std.proofs.Common.{◌≡◌, ℕ, zero, suc, ◌+◌, ◌*◌, ◌/◌, ◌<◌, ◌≤◌, ℤ, pos, negsuc, ◌+ℤ◌, ◌-ℤ◌, ◌*ℤ◌, neg_ℤ, ◌≤ℤ◌, ◌<ℤ◌, refl, ◌∙◌, zero-le, le_trans, le_of_lt, mul-le-mul, div-le_self, arith, SFits, to_z, of_z}
use mir.Syntax.{Width}
use Rattle.std.proofs.lemmas.Int.{ints, to_z-of_z}
use lib.Signed.{mag}
use Rattle.std.specs.Int.{int_div_euclid}
use Rattle.std.proofs.Math.Nat.{div-mul-le_self, lt-div-mul-add}
use Rattle.fixed_point.specs.Whole.{down, RoundsDown}

mag_neg : (k : ℕ) → mag (neg_ℤ (pos k)) ≤ k
mag_neg zero = zero-le
mag_neg (suc k) = omega arith

pub mul_mag : (a b : ℤ) (m n : ℕ) → mag a < m → mag b < n → mag (a *ℤ b) ≤ m * n
mul_mag (pos a) (pos b) m n h k = mul-le-mul (le_of_lt h) (le_of_lt k)
mul_mag (pos a) (negsuc b) m n h k = le_trans (mag_neg (a * suc b)) (mul-le-mul (le_of_lt h) k)
mul_mag (negsuc a) (pos b) m n h k = le_trans (mag_neg (suc a * b)) (mul-le-mul h (le_of_lt k))
mul_mag (negsuc a) (negsuc b) m n h k = mul-le-mul h k

pub mag_of : (z : ℤ) (n : ℕ) → neg_ℤ (pos n) ≤ℤ z → z <ℤ pos n → mag z < n
mag_of (pos a) n h k = omega (arith, ints)
mag_of (negsuc a) n h k = omega (arith, ints)

pub add_mag : (a b : ℤ) (m n : ℕ) → mag a < m → mag b < n → mag (a +ℤ b) < m + n
add_mag a b m n h k = mag_of (a +ℤ b) (m + n) (omega (arith, ints)) (omega (arith, ints))

pub sub_mag : (a b : ℤ) (m n : ℕ) → mag a < m → mag b < n → mag (a -ℤ b) < m + n
sub_mag a b m n h k = mag_of (a -ℤ b) (m + n) (omega (arith, ints)) (omega (arith, ints))

pub down_mag : (a : ℤ) (n : ℕ) → mag (down a n) ≡ mag a / n
down_mag (pos a) n = refl
down_mag (negsuc a) n = refl

pub down_less : (a : ℤ) (n : ℕ) → mag (down a n) ≤ mag a
down_less a n = rw (down_mag a n) (div-le_self (mag a) n)

pub div_is_down : (a : ℤ) (n : ℕ) → int_div_euclid a (pos n) ≡ down a n
div_is_down (pos a) n = refl
div_is_down (negsuc a) n = refl

above : (a q n : ℕ) → suc q * n ≤ a → negsuc a <ℤ (negsuc q *ℤ pos n)
above a q n h = omega (arith, ints)

above_next : (a q n : ℕ) → q * n ≤ a → negsuc a <ℤ ((negsuc q +ℤ pos 1) *ℤ pos n)
above_next a zero n h = omega (arith, ints)
above_next a (suc q) n h = let e : negsuc (suc q) +ℤ pos 1 ≡ negsuc q = omega (arith, ints) in rw e (above a q n h)

pub rounds_down : (a : ℤ) (n : ℕ) → 0 < n → RoundsDown a n (down a n)
rounds_down (pos a) n h = record { low = omega (arith, ints, div-mul-le_self a n); high = omega (arith, ints, lt-div-mul-add {a = a} h) }
rounds_down (negsuc a) n h = record { low = omega (arith, ints, lt-div-mul-add {a = a} h); high = above_next a (a / n) n (div-mul-le_self a n) }

-- a product, computed at a width at which it fits
pub product_is : (w : Width) (a b x y : ℤ) → SFits w x → SFits w y → x ≡ a → y ≡ b →
    SFits w (to_z w (of_z w x) *ℤ to_z w (of_z w y)) → to_z w (of_z w (to_z w (of_z w x) *ℤ to_z w (of_z w y))) ≡ a *ℤ b
product_is w a b x y fx fy ea eb f = to_z-of_z w _ f ∙ (simp to_z-of_z (λ i. ea i *ℤ eb i))

-- ---- what a call promised of arguments by their bits, over the numbers themselves
pub plain_sub : (w : Width) (r a b : ℤ) → SFits w a → SFits w b → r ≡ to_z w (of_z w a) -ℤ to_z w (of_z w b) → r ≡ a -ℤ b
plain_sub w r a b fa fb e = simp to_z-of_z at e

pub plain_mul : (w : Width) (r a b : ℤ) → SFits w a → SFits w b → r ≡ to_z w (of_z w a) *ℤ to_z w (of_z w b) → r ≡ a *ℤ b
plain_mul w r a b fa fb e = simp to_z-of_z at e
