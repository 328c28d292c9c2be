-- Remainder and opposite modulo q without a division. Assumes nothing.
use Rattle.std.proofs.Common.{◌≡◌, ℕ, ◌+◌, ◌-◌, ◌%◌, ◌<◌, true, Some, sym, ap, ◌∙◌, arith}
use native.Mathlib.Nat.{mod_self, zero-mod}
use Rattle.field.specs.Tables.{opposite_of}
use Rattle.field.proofs.Unique.{opposite_is}
use Rattle.prime.specs.Primes.{is_prime, prime_tables}
use Rattle.prime.specs.Laws.{prime_laws}

pub opposite_zero : (q a : ℕ) → is_prime q ≡ true → a < q → a ≡ 0 → Some 0 ≡ opposite_of (prime_tables q) a
opposite_zero q a p h e =
    sym (opposite_is (prime_tables q) (prime_laws q p) a 0 h (omega arith) (ap (λ (x : ℕ). (x + 0) % q) e ∙ zero-mod q))

pub opposite_over : (q a : ℕ) → is_prime q ≡ true → a < q → 0 < a → Some (q - a) ≡ opposite_of (prime_tables q) a
opposite_over q a p h pos =
    let e : a + (q - a) ≡ q = omega arith in
    sym (opposite_is (prime_tables q) (prime_laws q p) a (q - a) h (omega arith) (ap (λ (x : ℕ). x % q) e ∙ mod_self q))
