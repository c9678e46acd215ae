-- Weighted means of numbers that fit a type fit it too.
-- Assumes nothing.
use Rattle.std.proofs.Common.{◌≡◌, ℕ, ◌+◌, ◌-◌, ◌*◌, ◌/◌, ◌^◌, ◌<◌, ◌≤◌, mul-le-mul_right, mul-le-mul_left, le-div_iff_mul-le, arith}
use native.Mathlib.Nat.{div-le_of_le-mul}
use Rattle.meaning.specs.Meaning.{weighed}

-- two parts of a colour by shares of 255, rounded
pub blend_fits : (n o a : ℕ) → n ≤ 255 → o ≤ 255 → a ≤ 255 → (n * a + o * (255 - a) + 127) / 255 < 256
blend_fits n o a hn ho ha = omega (arith, mul-le-mul_right a hn, mul-le-mul_right (255 - a) ho)

-- a mean lies between bounds of what it is the mean of
pub mean_far : (l m n t f g h far : ℕ) → t ≡ l + m + n → 0 < t → far ≤ f → far ≤ g → far ≤ h → far ≤ weighed l m n t f g h
mean_far l m n t f g h far e i p q r = (le-div_iff_mul-le i).1 (rw e (omega (arith, mul-le-mul_left l p, mul-le-mul_left m q, mul-le-mul_left n r)))

pub mean_near : (l m n t f g h top : ℕ) → t ≡ l + m + n → f ≤ top → g ≤ top → h ≤ top → weighed l m n t f g h ≤ top
mean_near l m n t f g h top e p q r = div-le_of_le-mul t (rw e (omega (arith, mul-le-mul_left l p, mul-le-mul_left m q, mul-le-mul_left n r)))

-- the numbers on the way to a mean by weights that are not too large
pub record Small (a b c f g h : ℕ) : Type 0 where
  pub first : a * f < 2 ^ 128
  pub second : b * g < 2 ^ 128
  pub two : a * f + b * g < 2 ^ 128
  pub third : c * h < 2 ^ 128
  pub all : a * f + b * g + c * h < 2 ^ 128

pub small : (a b c area f g h : ℕ) → a + b + c ≡ area → area ≤ 2 ^ 67 → f < 2 ^ 16 → g < 2 ^ 16 → h < 2 ^ 16 → Small a b c f g h
small a b c area f g h e i p q r =
    let x : a * f ≤ a * 65535 = mul-le-mul_left a (omega arith) in
    let y : b * g ≤ b * 65535 = mul-le-mul_left b (omega arith) in
    let z : c * h ≤ c * 65535 = mul-le-mul_left c (omega arith) in
    record { first = omega arith; second = omega arith; two = omega arith; third = omega arith; all = omega arith }
