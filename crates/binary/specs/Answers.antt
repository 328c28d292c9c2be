-- What the maker of binary fields answers, as numbers: p and the polynomial, or the refusal. Assumes nothing.
use Rattle.std.specs.Prelude.{◌≡◌, ℕ, cond, Some, None, Ok, Err, Option, Result, nat_lt}
use Rattle.field.specs.declared.FieldRefusal.{FieldRefusal}
use Rattle.field.specs.Refusals.{number_of}
use Rattle.binary.specs.Polynomials.{has_degree, reducible}
use Rattle.binary.specs.Fields.{product_by}
use Rattle.binary.specs.declared.codes.Binary.{Binary}

abbrev pub refusal_of : Option FieldRefusal → Option ℕ
refusal_of (Some e) = Some (number_of e)
refusal_of None = None

abbrev pub answer_of : Result Binary FieldRefusal → Result (ℕ × ℕ) ℕ
answer_of (Ok f) = Ok (f.p, f.polynomial)
answer_of (Err e) = Err (number_of e)

-- in the order of testing: p outside 1 to 6, another degree than p, factors of lower degree
abbrev pub binary_refusal : ℕ → ℕ → Option ℕ
binary_refusal p m =
    cond (nat_lt p 1) (Some 1) (cond (nat_lt 6 p) (Some 1) (cond (has_degree m p) (cond (reducible p m) (Some 4) None) (Some 3)))

-- the refusal, or else the field
abbrev pub answer_by : ℕ → ℕ → Option ℕ → Result (ℕ × ℕ) ℕ
answer_by p m (Some n) = Err n
answer_by p m None = Ok (p, m)

abbrev pub binary_answer : ℕ → ℕ → Result (ℕ × ℕ) ℕ
binary_answer p m = answer_by p m (binary_refusal p m)

-- powers multiply as polynomials do, x ^ 4 being x + 1 by the polynomial x ^ 4 + x + 1, and x ^ 4 + x ^ 2 + 1 is a square
pub record Examples : Type 0 where
  pub made : binary_answer 4 19 ≡ Ok (4, 19)
  pub once : product_by 4 19 8 2 ≡ 3
  pub square : product_by 4 19 8 8 ≡ 12
  pub split : binary_answer 4 21 ≡ Err 4
