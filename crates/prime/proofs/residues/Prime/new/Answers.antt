use Rattle.std.proofs.Common.{◌≡◌, ℕ, ◌≤◌, false, Err, sym, ◌∙◌, le-ltb}
use Rattle.prime.specs.Primes.{is_prime, prime_answer}
use Rattle.prime.proofs.Contained.{contained}
use Rattle.prime.proofs.residues.Prime.new.Goals as goal

not_prime : (q : ℕ) → 2 ≤ q → q ≤ 64 → false ≡ is_prime q → Err 2 ≡ prime_answer q
not_prime q lo hi e = rw (le-ltb q 2 lo, le-ltb 64 q hi, ← e)

pub returns-else-contains-clause-answer : goal.returns-else-contains-clause-answer
returns-else-contains-clause-answer c = not_prime c.args.q c.if-q-lt2.false c.if-q-gt64.false (sym c.if-contains.false ∙ c.contains.ensures.value ∙ contained c.args.q)
