-- A field of any kind: what it is made of, what it means, and the tower on it. Assumes nothing.
use Rattle.std.specs.Prelude.{ℕ, cond, Ok, Err, Result, ◌==◌}
use Rattle.field.specs.Tables.{Tables}
use Rattle.field.specs.Refusals.{number_of}
use Rattle.field.specs.declared.FieldRefusal.{FieldRefusal}
use Rattle.prime.specs.Primes.{prime_tables}
use Rattle.binary.specs.Fields.{binary_tables}
use Rattle.tower.specs.Towers.{Parts, parts_for, tower_refusal, meaning_from}
use Rattle.tower.specs.Made.{parts_of}
use Rattle.anyfield.specs.declared.any.AnyField.{AnyField}
use Rattle.anyfield.specs.declared.any.AnyField.TheVariants as kind

-- what fixes a field: the order, p and the polynomial, or what the tower stands on
pub data Made : Type 0 where
  prime : ℕ → Made
  binary : ℕ → ℕ → Made
  tower : Parts → Made

abbrev pub made_of : AnyField → Made
made_of (kind.Prime f) = prime f.q
made_of (kind.Binary f) = binary f.p f.polynomial
made_of (kind.Tower t) = tower (parts_of t)

-- the field's order and tables
abbrev pub tables_of : Made → Tables
tables_of (prime q) = prime_tables q
tables_of (binary p m) = binary_tables p m
tables_of (tower ps) = meaning_from ps

-- a made field, or the number of its refusal
abbrev pub told : Result AnyField FieldRefusal → Result Made ℕ
told (Ok f) = Ok (made_of f)
told (Err e) = Err (number_of e)

abbrev pub tower_answer : Tables → ℕ → ℕ → Result Made ℕ
tower_answer t u v = cond (tower_refusal t u v == 0) (Ok (tower (parts_for t u v))) (Err (tower_refusal t u v))
