-- The worked examples of the three kinds, by the definitions that the calls are proved by. Assumes nothing.
use Rattle.std.specs.Prelude.{◌≡◌, ℕ, Some, Ok, Err}
use Rattle.field.specs.Tables.{Tables, product_of}
use Rattle.prime.specs.Primes.{prime_tables, prime_answer}
use Rattle.binary.specs.Fields.{binary_tables}
use Rattle.binary.specs.Answers.{binary_answer}
use Rattle.tower.specs.Towers.{tower_refusal, parts_for, meaning_from}

-- the field that a tower on t is made as
abbrev pub tower_on : Tables → ℕ → ℕ → Tables
tower_on t u v = meaning_from (parts_for t u v)

pub record Examples : Type 0 where
  pub prime_factors : prime_answer 49 ≡ Err 2
  pub prime_range : prime_answer 65 ≡ Err 1
  pub binary_made : binary_answer 4 19 ≡ Ok (4, 19)
  pub binary_once : product_of (binary_tables 4 19) 8 2 ≡ Some 3
  pub binary_square : product_of (binary_tables 4 19) 8 8 ≡ Some 12
  pub binary_factors : binary_answer 4 21 ≡ Err 4
  pub tower_made : tower_refusal (prime_tables 3) 0 2 ≡ 0
  pub tower_once : product_of (tower_on (prime_tables 3) 0 2) 3 3 ≡ Some 2
  pub tower_square : product_of (tower_on (prime_tables 3) 0 2) 4 4 ≡ Some 6
  pub tower_root : tower_refusal (prime_tables 3) 0 1 ≡ 6
