-- Rows that depend on each other: a combination with factors not all 0 gives the zero row. Assumes nothing.
use Rattle.std.specs.Prelude.{◌≡◌, ℕ, ◌<◌, Bool, not, ◌&&◌, List, ◌==◌, nat_eq, slice_index}
use Rattle.field.specs.Every.{every_below, some_below}
use Rattle.field.specs.Tables.{Tables}
use Rattle.linear.specs.Search.{some_word}
use Rattle.linear.specs.Words.{Codes, Matrix, total}

-- the entry in column c of the combination of the rows with the factors g
abbrev pub rows_sum : Tables → Matrix → List ℕ → ℕ → ℕ
rows_sum t H g c = total t H.rows (λ r. t.product (slice_index g r) (H.entry r c))

-- some factors, not all 0, combine the rows to the zero row
pub record Dependent (t : Tables) (H : Matrix) : Type 0 where
  pub factors : List ℕ
  pub codes : Codes t.order H.rows factors
  pub row : ℕ
  pub row_below : row < H.rows
  pub not_zero : ¬ (slice_index factors row ≡ 0)
  pub zero_row : (c : ℕ) → c < H.columns → rows_sum t H factors c ≡ 0

-- the same as a test of all factors
abbrev pub gives_zero : Tables → Matrix → List ℕ → Bool
gives_zero t H g = some_below (λ r. not (slice_index g r == 0)) H.rows && every_below (λ c. nat_eq (rows_sum t H g c) 0) H.columns

unfoldable pub dependent : Tables → Matrix → Bool
dependent t H = some_word t.order H.rows (gives_zero t H)

-- some row does not sum to 0
abbrev pub row_fails : Tables → Matrix → List ℕ → Bool
row_fails t H w = some_below (λ r. not (total t H.columns (λ c. t.product (H.entry r c) (slice_index w c)) == 0)) H.rows
