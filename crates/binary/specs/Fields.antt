-- A binary field: codes of p bits, sums by exclusive or, products equal to the polynomials' up to a multiple of the field's polynomial.
-- Assumes nothing.
use Rattle.std.specs.Prelude.{◌≡◌, ℕ, ◌*◌, ◌^◌, ◌<◌, min, Bool, true, not, ◌&&◌, Some, None, Option, bit_xor, nat_eq, nat_le}
use Rattle.field.specs.Tables.{Tables, first}
use Rattle.field.specs.Every.{some_below}
use Rattle.binary.specs.Polynomials.{carryless, has_degree, reducible, Multiplies, Multiple, Factors}

-- x and y are equal up to a multiple of m, by a factor below n
abbrev pub equal_up_to : ℕ → ℕ → ℕ → ℕ → Bool
equal_up_to n m x y = some_below (λ k. nat_eq (bit_xor x y) (carryless m k)) n

abbrev code_of : Option ℕ → ℕ
code_of (Some c) = c
code_of None = 0

-- the code below 2 ^ p that is equal to the product of the polynomials a and b up to a multiple of m
unfoldable pub product_by : ℕ → ℕ → ℕ → ℕ → ℕ
product_by p m a b = code_of (first (equal_up_to (2 ^ p) m (carryless a b)) 0 (2 ^ p))

-- the code a shifted by one power, or that less m: the smaller lacks the power of the degree of m
abbrev pub doubled_by : ℕ → ℕ → ℕ
doubled_by m a = min (a * 2) (bit_xor (a * 2) m)

abbrev pub binary_tables : ℕ → ℕ → Tables
binary_tables p m = record { order = 2 ^ p; sum = bit_xor; product = product_by p m }

-- p is 1 to 6, and m has the degree p and no factors of lower degree
unfoldable pub is_binary : ℕ → ℕ → Bool
is_binary p m = nat_le 1 p && (nat_le p 6 && (has_degree m p && not (reducible p m)))

-- c is the one code that is equal to the product of the polynomials a and b up to a multiple of m
pub record TheProduct (p m a b c : ℕ) : Type 0 where
  pub code : c < 2 ^ p
  pub equal : Multiple m (bit_xor (carryless a b) c)
  pub only : (d : ℕ) → d < 2 ^ p → Multiple m (bit_xor (carryless a b) d) → d ≡ c

-- what the definitions mean for the number p and the polynomial m
pub record Meant (p m : ℕ) : Type 0 where
  pub multiplies : Multiplies
  pub split : has_degree m p ≡ true → reducible p m ≡ true → ∥ Factors p m ∥₁
  pub whole : Factors p m → reducible p m ≡ true
  pub products : has_degree m p ≡ true → (a b : ℕ) → a < 2 ^ p → b < 2 ^ p → TheProduct p m a b (product_by p m a b)
