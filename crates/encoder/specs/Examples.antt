-- Code A over the field of three codes, by the definitions alone. Assumes nothing.
use Rattle.std.specs.Prelude.{◌≡◌, ℕ, ◌+◌, ◌*◌, ◌%◌, false, [], ◌∷◌}
use Rattle.code.specs.declared.table.Edge.{Edge}
use Rattle.field.specs.Tables.{Tables}
use Rattle.linear.specs.Encoded.{the_word, symbols_of}
use Rattle.linear.specs.Rows.{dependent}
use Rattle.linear.specs.Words.{Matrix}
use Rattle.encoder.specs.CheckMatrix.{matrix_of}

-- sum and product modulo 3
abbrev pub three : Tables
three = record { order = 3; sum = λ a b. (a + b) % 3; product = λ a b. (a * b) % 3 }

abbrev pub edge : ℕ → ℕ → ℕ → Edge
edge r c h = record { row = r; column = c; coefficient = h }

-- the rows 1 1 1 0 and 0 1 2 1
abbrev pub code_a : Matrix
code_a = matrix_of 2 4 (edge 0 0 1 ∷ edge 0 1 1 ∷ edge 0 2 1 ∷ edge 1 1 1 ∷ edge 1 2 2 ∷ edge 1 3 1 ∷ [])

-- its rows are independent, (1, 1) encodes to 1 1 1 0, and that gives (1, 1) back
pub record ExampleA : Type 0 where
  pub independent : dependent three code_a ≡ false
  pub encodes : the_word three code_a (1 ∷ 1 ∷ []) ≡ 1 ∷ 1 ∷ 1 ∷ 0 ∷ []
  pub extracts : symbols_of three code_a (1 ∷ 1 ∷ 1 ∷ 0 ∷ []) ≡ 1 ∷ 1 ∷ []
