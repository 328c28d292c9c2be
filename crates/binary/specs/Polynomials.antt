-- Polynomials over two elements, written as numbers: bit i is the coefficient of power i, and the sum is the exclusive or.
-- Assumes nothing.
use Rattle.std.specs.Prelude.{◌≡◌, ℕ, zero, suc, ◌*◌, ◌/◌, ◌%◌, ◌^◌, ◌<◌, Bool, true, cond, ◌==◌, bit_xor, nat_eq}
use Rattle.field.specs.Every.{some_below}

-- the coefficient of power i is 1
abbrev pub has_power : ℕ → ℕ → Bool
has_power b i = b / 2 ^ i % 2 == 1

-- the sum of a shifted by i, over the powers i below n that b has
unfoldable pub shifts_below : ℕ → ℕ → ℕ → ℕ
shifts_below zero a b = 0
shifts_below (suc n) a b = bit_xor (cond (has_power b n) (a * 2 ^ n) 0) (shifts_below n a b)

-- the product of two polynomials, without carries: b is below 2 ^ b, so that it has no power from b on
unfoldable pub carryless : ℕ → ℕ → ℕ
carryless a b = shifts_below b a b

-- what marks the product: a power shifts, either factor may come first, and products spread over sums
pub record Multiplies : Type 0 where
  pub power : (a i : ℕ) → carryless a (2 ^ i) ≡ a * 2 ^ i
  pub comm : (a b : ℕ) → carryless a b ≡ carryless b a
  pub spread : (a b c : ℕ) → carryless a (bit_xor b c) ≡ bit_xor (carryless a b) (carryless a c)

-- i is the highest power of m; 0 has no degree
abbrev pub has_degree : ℕ → ℕ → Bool
has_degree m i = m / 2 ^ i == 1

-- m is a product of two polynomials without the power p and higher ones
unfoldable pub reducible : ℕ → ℕ → Bool
reducible p m = some_below (λ a. some_below (λ b. nat_eq (carryless a b) m) (2 ^ p)) (2 ^ p)

-- x is a multiple of m
abbrev pub Multiple : ℕ → ℕ → Type 0
Multiple m x = ∥ ((k : ℕ) × (x ≡ carryless m k)) ∥₁

-- two polynomials of degrees below p have the product m
pub record Factors (p m : ℕ) : Type 0 where
  pub left : ℕ
  pub right : ℕ
  pub left_degree : ℕ
  pub right_degree : ℕ
  pub left_low : left_degree < p
  pub right_low : right_degree < p
  pub left_has : has_degree left left_degree ≡ true
  pub right_has : has_degree right right_degree ≡ true
  pub product : carryless left right ≡ m

-- k and r are the quotient and the rest of x by d
pub record Divided (x d k r : ℕ) : Type 0 where
  pub equal : bit_xor x (carryless d k) ≡ r
  pub lower : (i : ℕ) → has_degree d i ≡ true → r < 2 ^ i
