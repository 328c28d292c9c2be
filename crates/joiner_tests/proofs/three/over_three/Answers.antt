use Rattle.std.proofs.Common.{◌≡◌, ℕ, Ok, Err, Result, refl, arith}
use Rattle.std.specs.Result.{IsOk}
use Rattle.field.specs.declared.FieldRefusal.{FieldRefusal}
use Rattle.prime.specs.Primes.{is_prime}
use Rattle.prime.specs.Answers.{answer_of}
use Rattle.prime.specs.declared.residues.Prime.{Prime}
use Rattle.joiner_tests.proofs.three.over_three.Goals as goal

made : (r : Result Prime FieldRefusal) → answer_of r ≡ Ok 3 → IsOk r
made (Ok field) e = refl
made (Err refusal) e = let z : ◌≡◌ {A = ℕ} 0 1 = cc in absurd (omega arith)

-- 3 is prime
pub unwrap-field-requires : goal.unwrap-field-requires
unfolding is_prime
unwrap-field-requires g c = made c.new.result c.new.ensures.answer
