-- Words over a field, matrices, and the words that satisfy every row. Assumes nothing.
use Rattle.std.specs.Prelude.{◌≡◌, ℕ, zero, suc, ◌<◌, List, length, slice_index}
use Rattle.field.specs.Tables.{Tables}

-- the sum of f 0 to f (n − 1)
unfoldable pub total : Tables → ℕ → (ℕ → ℕ) → ℕ
total t zero f = 0
total t (suc n) f = t.sum (f n) (total t n f)

-- n codes below q
pub record Codes (q n : ℕ) (w : List ℕ) : Type 0 where
  pub long : length w ≡ n
  pub below : (i : ℕ) → i < n → slice_index w i < q

-- for each row and column the coefficient there, or 0
pub record Matrix : Type 0 where
  pub rows : ℕ
  pub columns : ℕ
  pub entry : ℕ → ℕ → ℕ

pub record Entries (q : ℕ) (H : Matrix) : Type 0 where
  pub below : (r c : ℕ) → r < H.rows → c < H.columns → H.entry r c < q

-- the coefficients of row r times the symbols, summed
abbrev pub row_sum : Tables → Matrix → List ℕ → ℕ → ℕ
row_sum t H w r = total t H.columns (λ c. t.product (H.entry r c) (slice_index w c))

-- one symbol for each column, and every row sums to 0
pub record Codeword (t : Tables) (H : Matrix) (w : List ℕ) : Type 0 where
  pub codes : Codes t.order H.columns w
  pub holds : (r : ℕ) → r < H.rows → row_sum t H w r ≡ 0
