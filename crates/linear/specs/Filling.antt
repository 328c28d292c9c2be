-- Symbols put into the columns that no row owns, and the owned columns filled row by row. Assumes nothing.
use Rattle.std.specs.Prelude.{◌≡◌, ℕ, ◌<◌, Bool, true, false, not, List, Some, None, Option, ◌==◌, slice_index, slice_index_or}
use Rattle.field.specs.Tables.{Tables}
use Rattle.field.specs.Every.{some_below}
use Rattle.linear.specs.Count.{count}
use Rattle.linear.specs.Words.{Matrix, Codes, total, row_sum}

abbrev pub owns : Option ℕ → ℕ → Bool
owns None c = false
owns (Some p) c = p == c

-- some of the first m rows owns column c
unfoldable pub owned_by : List (Option ℕ) → ℕ → ℕ → Bool
owned_by owner m c = some_below (λ r. owns (slice_index_or owner r None) c) m

abbrev pub free_of : List (Option ℕ) → ℕ → ℕ → Bool
free_of owner m c = not (owned_by owner m c)

-- up to column k: 0 in each owned column, and the symbols, rising, in the others
pub record Placed (m : ℕ) (owner : List (Option ℕ)) (s w : List ℕ) (k : ℕ) : Type 0 where
  pub owned : (c : ℕ) → c < k → owned_by owner m c ≡ true → slice_index w c ≡ 0
  pub free : (c : ℕ) → c < k → owned_by owner m c ≡ false → slice_index w c ≡ slice_index s (count c (free_of owner m))

-- the columns of the first k rows have what the row asks for, and the others what they had
pub record FilledTo (t : Tables) (R : Matrix) (owner : List (Option ℕ)) (b w : List ℕ) (k : ℕ) : Type 0 where
  pub codes : Codes t.order R.columns w
  pub rest : (j : ℕ) → j < R.columns → ((r : ℕ) → r < k → ¬ (slice_index_or owner r None ≡ Some j)) → slice_index w j ≡ slice_index b j
  pub asked : (r p : ℕ) → r < k → slice_index_or owner r None ≡ Some p → t.sum (row_sum t R b r) (t.product (R.entry r p) (slice_index w p)) ≡ 0

-- the first k coefficients of row r times the symbols
unfoldable pub part_sum : Tables → Matrix → List ℕ → ℕ → ℕ → ℕ
part_sum t R w r k = total t k (λ c. t.product (R.entry r c) (slice_index w c))

-- the first k symbols' worth of the columns that no row owns
pub record Gathered (m : ℕ) (owner : List (Option ℕ)) (w s : List ℕ) (k : ℕ) : Type 0 where
  pub symbol : (c : ℕ) → c < k → owned_by owner m c ≡ false → slice_index w c ≡ slice_index s (count c (free_of owner m))
