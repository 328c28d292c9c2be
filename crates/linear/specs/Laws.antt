-- What holds of every matrix over every field. Assumes nothing.
use Rattle.std.specs.Prelude.{◌≡◌, ℕ, ◌+◌, ◌<◌, true, false, List}
use Rattle.field.specs.Tables.{Tables, Lawful}
use Rattle.linear.specs.Columns.{Combination, combined, check_columns, information_columns}
use Rattle.linear.specs.Encoded.{Encoded, the_word, symbols_of}
use Rattle.linear.specs.Rank.{Rank, rank_of}
use Rattle.linear.specs.Rows.{Dependent, dependent}
use Rattle.linear.specs.Words.{Codes, Codeword, Entries, Matrix}

-- the test tells whether some factors give the column from higher ones
pub record ColumnTold (t : Tables) (H : Matrix) (c : ℕ) : Type 0 where
  pub combination : combined t H c ≡ true → (f : List ℕ) × Combination t H c f
  pub none : combined t H c ≡ false → (f : List ℕ) → Combination t H c f → ⊥

-- the test tells whether some factors, not all 0, combine the rows to the zero row
pub record RowsTold (t : Tables) (H : Matrix) : Type 0 where
  pub some : dependent t H ≡ true → Dependent t H
  pub none : dependent t H ≡ false → Dependent t H → ⊥

-- the check columns number the rank, and the number of rows exactly if the rows are independent
pub record Counted (t : Tables) (H : Matrix) : Type 0 where
  pub all : check_columns t H + information_columns t H ≡ H.columns
  pub rank : Rank t H (check_columns t H)
  pub rank_value : rank_of t H ≡ check_columns t H
  pub fewer : dependent t H ≡ true → check_columns t H < H.rows
  pub equal : dependent t H ≡ false → check_columns t H ≡ H.rows

pub record Laws (t : Tables) (H : Matrix) : Type 0 where
  pub columns : (c : ℕ) → ColumnTold t H c
  pub rows : RowsTold t H
  pub counted : Counted t H
  pub only : (s : List ℕ) → Codes t.order (information_columns t H) s → Encoded t H s (the_word t H s)
  pub extracts_encoded : (s : List ℕ) → Codes t.order (information_columns t H) s → symbols_of t H (the_word t H s) ≡ s
  pub encodes_extracted : (w : List ℕ) → Codeword t H w → the_word t H (symbols_of t H w) ≡ w

abbrev pub LawsStand : Type 0
LawsStand = (t : Tables) → Lawful t → (H : Matrix) → Entries t.order H → Laws t H
