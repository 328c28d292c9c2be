-- What the maker of prime fields answers, as numbers. Assumes nothing.
use Rattle.std.specs.Prelude.{ℕ, Ok, Err, Result}
use Rattle.field.specs.declared.FieldRefusal.{FieldRefusal}
use Rattle.field.specs.Refusals.{number_of}
use Rattle.prime.specs.declared.residues.Prime.{Prime}

abbrev pub answer_of : Result Prime FieldRefusal → Result ℕ ℕ
answer_of (Ok p) = Ok p.q
answer_of (Err e) = Err (number_of e)
