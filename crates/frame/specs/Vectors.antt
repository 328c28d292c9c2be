-- The opposite and the inverse of a code, as codes. Assumes nothing.
use Rattle.std.specs.Prelude.{ℕ}
use Rattle.field.specs.Tables.{Tables, opposite_of, inverse_of}
use Rattle.tree.specs.Rows.{code_in}

abbrev pub minus : Tables → ℕ → ℕ
minus t a = code_in (opposite_of t a)

-- of a code that is not 0
abbrev pub over_one : Tables → ℕ → ℕ
over_one t a = code_in (inverse_of t a)
