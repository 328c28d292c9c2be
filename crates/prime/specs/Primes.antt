-- The primes up to 64, their fields' tables, and what making one answers. Assumes nothing.
use Rattle.std.specs.Prelude.{◌≡◌, ℕ, ◌+◌, ◌*◌, ◌%◌, ◌≤◌, Bool, true, false, cond, ◌||◌, List, [], ◌∷◌, Ok, Err, Result, ◌==◌, ◌≢◌, nat_lt}
use Rattle.field.specs.Tables.{Tables}

abbrev pub primes : List ℕ
primes = 2 ∷ 3 ∷ 5 ∷ 7 ∷ 11 ∷ 13 ∷ 17 ∷ 19 ∷ 23 ∷ 29 ∷ 31 ∷ 37 ∷ 41 ∷ 43 ∷ 47 ∷ 53 ∷ 59 ∷ 61 ∷ []

abbrev pub member : ℕ → List ℕ → Bool
member x [] = false
member x (y ∷ ys) = x == y || member x ys

unfoldable pub is_prime : ℕ → Bool
is_prime q = member q primes

-- sum and product modulo q
abbrev pub prime_tables : ℕ → Tables
prime_tables q = record { order = q; sum = λ a b. (a + b) % q; product = λ a b. (a * b) % q }

-- the order of the prime field that is made, or the refusal's number
abbrev pub prime_answer : ℕ → Result ℕ ℕ
prime_answer q = cond (nat_lt q 2) (Err 1) (cond (nat_lt 64 q) (Err 1) (cond (is_prime q) (Ok q) (Err 2)))

-- q is at least 2, and no product of two numbers above 1
pub record PrimeNumber (q : ℕ) : Type 0 where
  pub above : 2 ≤ q
  pub whole : (a b : ℕ) → 2 ≤ a → 2 ≤ b → a * b ≢ q

-- up to 64, the list holds exactly the prime numbers
abbrev pub PrimesListed : Type 0
PrimesListed = (q : ℕ) → q ≤ 64 → (is_prime q ≡ true → PrimeNumber q) × (PrimeNumber q → is_prime q ≡ true)
