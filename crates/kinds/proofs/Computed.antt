-- The worked examples, computed, and what they say of the calls. Assumes nothing.
use Rattle.std.proofs.Common.{◌≡◌, ℕ, cond, eqb, Some, None, Ok, Err, Option, Result, refl, ap, ◌∙◌, subst, ap₂, arith}
use Rattle.std.specs.Result.{result_ok}
use Rattle.field.specs.Tables.{product_of}
use Rattle.field.specs.Refusals.{number_of}
use Rattle.field.specs.declared.FieldRefusal.{FieldRefusal}
use Rattle.field.specs.declared.FieldRefusal.TheVariants.{Order, NotPrime, Degree, Reducible, NotCode, Root}
use Rattle.prime.specs.declared.residues.Prime.{Prime}
use Rattle.prime.specs.Answers.{answer_of as prime_of}
use Rattle.binary.specs.declared.codes.Binary.{Binary}
use Rattle.prime.specs.Primes.{is_prime, prime_tables, prime_answer}
use Rattle.binary.specs.Polynomials.{shifts_below, carryless, reducible}
use Rattle.binary.specs.Fields.{product_by, binary_tables}
use Rattle.binary.specs.Answers.{binary_answer, answer_of as binary_of}
use Rattle.field.specs.Grids.{grid}
use Rattle.tower.specs.Towers.{Parts, has_root, tower_refusal, parts_for, meaning_from}
use Rattle.tower.specs.Made.{refusal_of}
use Rattle.kinds.specs.Examples.{tower_on, Examples}

pub examples : Examples
unfolding is_prime shifts_below carryless reducible product_by has_root grid
examples = record {
  prime_factors = refl;
  prime_range = refl;
  binary_made = refl;
  binary_once = refl;
  binary_square = refl;
  binary_factors = refl;
  tower_made = refl;
  tower_once = refl;
  tower_square = refl;
  tower_root = refl;
}

-- the field of order 3 is made
pub three : (q : ℕ) → ◌≡◌ {A = Result ℕ ℕ} (Ok q) (prime_answer 3) → q ≡ 3
unfolding is_prime
three q e = cc

pub three_made : (n : ℕ) → ◌≡◌ {A = Result ℕ ℕ} (Err n) (prime_answer 3) → ⊥
unfolding is_prime
three_made n e = let z : ◌≡◌ {A = ℕ} 0 1 = cc in omega arith

pub three_is : (r : Result Prime FieldRefusal) (p : Prime) → result_ok r ≡ Some p → prime_of r ≡ prime_answer 3 → p.q ≡ 3
three_is (Ok x) p e is = let same : x ≡ p = cc in subst (λ (y : Prime). y.q ≡ 3) same (three x.q is)
three_is (Err f) p e is = absurd (three_made (number_of f) is)

pub three_some : (r : Result Prime FieldRefusal) → result_ok r ≡ None → prime_of r ≡ prime_answer 3 → ⊥
three_some (Ok x) e is = let z : ◌≡◌ {A = ℕ} 0 1 = cc in omega arith
three_some (Err f) e is = three_made (number_of f) is

-- so is the field by the polynomial 19
power : Result (ℕ × ℕ) ℕ → ℕ
power (Ok x) = x.0
power (Err e) = 0

reduced_by : Result (ℕ × ℕ) ℕ → ℕ
reduced_by (Ok x) = x.1
reduced_by (Err e) = 0

pub nineteen : (p m : ℕ) → ◌≡◌ {A = Result (ℕ × ℕ) ℕ} (Ok (p, m)) (binary_answer 4 19) → (p ≡ 4) × (m ≡ 19)
unfolding power reduced_by
nineteen p m e = let w = e ∙ examples.binary_made in (ap power w, ap reduced_by w)

pub nineteen_is : (r : Result Binary FieldRefusal) (b : Binary) → result_ok r ≡ Some b → binary_of r ≡ binary_answer 4 19 → (b.p ≡ 4) × (b.polynomial ≡ 19)
nineteen_is (Ok x) b e is = let same : x ≡ b = cc in subst (λ (y : Binary). (y.p ≡ 4) × (y.polynomial ≡ 19)) same (nineteen x.p x.polynomial is)
nineteen_is (Err f) b e is = let w : ◌≡◌ {A = Result (ℕ × ℕ) ℕ} (Err (number_of f)) (Ok (4, 19)) = is ∙ examples.binary_made in let z : ◌≡◌ {A = ℕ} 0 1 = cc in absurd (omega arith)

pub binary_product : (p m a b c d : ℕ) → (p ≡ 4) × (m ≡ 19) → ◌≡◌ {A = Option ℕ} (Some c) (product_of (binary_tables p m) a b) → product_of (binary_tables 4 19) a b ≡ Some d → c ≡ d
binary_product p m a b c d e is w =
    let whole : ◌≡◌ {A = Option ℕ} (Some c) (Some d) = is ∙ ap₂ (λ (x y : ℕ). product_of (binary_tables x y) a b) e.0 e.1 ∙ w in cc

-- and the tower on the field of order 3
pub nine : (q : ℕ) (p old : Parts) → q ≡ 3 → p ≡ cond (eqb (tower_refusal (prime_tables q) 0 2) 0) (parts_for (prime_tables q) 0 2) old → p ≡ parts_for (prime_tables 3) 0 2
nine q p old e is =
    is ∙ ap (λ (x : ℕ). cond (eqb (tower_refusal (prime_tables x) 0 2) 0) (parts_for (prime_tables x) 0 2) old) e
    ∙ ap (λ (n : ℕ). cond (eqb n 0) (parts_for (prime_tables 3) 0 2) old) examples.tower_made

numbered : (e : FieldRefusal) → number_of e ≡ 0 → ⊥
numbered Order h = omega arith
numbered NotPrime h = omega arith
numbered Degree h = omega arith
numbered Reducible h = omega arith
numbered NotCode h = omega arith
numbered Root h = omega arith

pub nine_made : (q : ℕ) (e : FieldRefusal) → q ≡ 3 → number_of e ≡ tower_refusal (prime_tables q) 0 2 → ⊥
nine_made q e h n = numbered e (n ∙ ap (λ (x : ℕ). tower_refusal (prime_tables x) 0 2) h ∙ examples.tower_made)

pub nine_some : (q : ℕ) (r : Result (Unit {0}) FieldRefusal) → q ≡ 3 → result_ok r ≡ None → refusal_of r ≡ tower_refusal (prime_tables q) 0 2 → ⊥
nine_some q (Ok x) h e n = let z : ◌≡◌ {A = ℕ} 0 1 = cc in omega arith
nine_some q (Err f) h e n = nine_made q f h n

pub tower_product : (p : Parts) (a b c d : ℕ) → p ≡ parts_for (prime_tables 3) 0 2 → ◌≡◌ {A = Option ℕ} (Some c) (product_of (meaning_from p) a b) → product_of (tower_on (prime_tables 3) 0 2) a b ≡ Some d → c ≡ d
tower_product p a b c d e is w =
    let whole : ◌≡◌ {A = Option ℕ} (Some c) (Some d) = is ∙ ap (λ (x : Parts). product_of (meaning_from x) a b) e ∙ w in cc
