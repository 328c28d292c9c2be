-- A field as text: `prime:q`, `binary:p:polynomial`, or `tower:FIELD:u:v` with a field inside. Assumes nothing.
use Rattle.std.specs.Prelude.{ℕ, zero, suc, cond, List, [], ◌∷◌, drop, Some, None, Ok, Err, codes, Option, Result}
use Rattle.std.specs.Str.{bytes_eq}
use Rattle.field.specs.Refusals.{number_of as refusal_number}
use Rattle.prime.specs.Primes.{prime_answer}
use Rattle.binary.specs.Answers.{binary_answer}
use Rattle.sheet.specs.Pieces.{split}
use Rattle.notation.specs.Numbers.{number_of}
use Rattle.anyfield.specs.declared.any.AnyField.{AnyField}
use Rattle.anyfield.specs.declared.written.FieldFault.{FieldFault}
use Rattle.anyfield.specs.declared.written.FieldFault.TheVariants.{NotWritten, Refused}
use Rattle.anyfield.specs.Fields.{Made, prime, binary, made_of, tables_of, tower_answer}

-- a text that is not written as fields are, or the number of the refusal
pub data Fault : Type 0 where
  not_written : Fault
  refused : ℕ → Fault

abbrev pub fault_of : FieldFault → Fault
fault_of NotWritten = not_written
fault_of (Refused e) = refused (refusal_number e)

abbrev pub answered : Result AnyField FieldFault → Result Made Fault
answered (Ok f) = Ok (made_of f)
answered (Err e) = Err (fault_of e)

-- the number that the first piece writes
abbrev pub first_number : ℕ → List (List ℕ) → Option ℕ
first_number largest [] = None
first_number largest (p ∷ ps) = number_of largest p

-- what a maker answers, with its refusal as a fault
abbrev pub by_prime : Result ℕ ℕ → Result Made Fault
by_prime (Ok q) = Ok (prime q)
by_prime (Err n) = Err (refused n)

abbrev pub by_binary : Result (ℕ × ℕ) ℕ → Result Made Fault
by_binary (Ok f) = Ok (binary f.0 f.1)
by_binary (Err n) = Err (refused n)

abbrev pub by_tower : Result Made ℕ → Result Made Fault
by_tower (Ok m) = Ok m
by_tower (Err n) = Err (refused n)

abbrev pub prime_of : Option ℕ → Result Made Fault
prime_of None = Err not_written
prime_of (Some q) = by_prime (prime_answer q)

abbrev pub binary_of : Option ℕ → Option ℕ → Result Made Fault
binary_of None m = Err not_written
binary_of (Some p) None = Err not_written
binary_of (Some p) (Some m) = by_binary (binary_answer p m)

abbrev pub tower_of : Made → Option ℕ → Option ℕ → Result Made Fault
tower_of m None v = Err not_written
tower_of m (Some u) None = Err not_written
tower_of m (Some u) (Some v) = by_tower (tower_answer (tables_of m) u v)

-- a field with the pieces behind it
abbrev pub behind : List (List ℕ) → Result Made Fault → Result (Made × List (List ℕ)) Fault
behind ps (Ok m) = Ok (m, ps)
behind ps (Err f) = Err f

-- the field that a word and the pieces behind it name
unfoldable pub base_of : List ℕ → List (List ℕ) → Result (Made × List (List ℕ)) Fault
base_of w ps =
    cond (bytes_eq w (codes "prime")) (behind (drop 1 ps) (prime_of (first_number 255 ps)))
    (cond (bytes_eq w (codes "binary")) (behind (drop 2 ps) (binary_of (first_number 255 ps) (first_number 65535 (drop 1 ps))))
    (Err not_written))

-- the tower on the field in front, by the two pieces behind it
abbrev pub raise : Result (Made × List (List ℕ)) Fault → Result (Made × List (List ℕ)) Fault
raise (Err f) = Err f
raise (Ok x) = behind (drop 2 x.1) (tower_of x.0 (first_number 255 x.1) (first_number 255 (drop 1 x.1)))

unfoldable pub field_of : List (List ℕ) → Result (Made × List (List ℕ)) Fault
field_of [] = Err not_written
field_of (w ∷ ps) = cond (bytes_eq w (codes "tower")) (raise (field_of ps)) (base_of w ps)

-- nothing may follow the field
abbrev pub whole : Result (Made × List (List ℕ)) Fault → Result Made Fault
whole (Err f) = Err f
whole (Ok (m, [])) = Ok m
whole (Ok (m, p ∷ ps)) = Err not_written

abbrev pub read_field : List ℕ → Result Made Fault
read_field text = whole (field_of (split 58 text))

-- as many towers, one on the other
unfoldable pub raises : ℕ → Result (Made × List (List ℕ)) Fault → Result (Made × List (List ℕ)) Fault
raises zero x = x
raises (suc n) x = raises n (raise x)

-- the field in front whose word may have come already
abbrev pub base_from : Option (List ℕ) → List (List ℕ) → Result (Made × List (List ℕ)) Fault
base_from None ps = Err not_written
base_from (Some w) ps = base_of w ps
