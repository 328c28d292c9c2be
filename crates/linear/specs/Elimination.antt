-- How far a matrix is reduced: one column after another, from the last down, is left to a single row, its owner. Assumes nothing.
use Rattle.std.specs.Prelude.{◌≡◌, ℕ, ◌<◌, ◌≤◌, ◌⊎◌, List, Some, None, Option, slice_index, slice_index_or}
use Rattle.field.specs.Tables.{Tables}
use Rattle.linear.specs.Words.{Matrix, Entries, Codeword, row_sum}

-- row r and a multiple of row i, which makes its entry in column c zero
pub record RowCleared (t : Tables) (R S : Matrix) (i c r : ℕ) : Type 0 where
  pub factor : ℕ
  pub factor_code : factor < t.order
  pub gone : t.sum (R.entry r c) (t.product factor (R.entry i c)) ≡ 0
  pub entries : (j : ℕ) → j < R.columns → S.entry r j ≡ t.sum (R.entry r j) (t.product factor (R.entry i j))

-- column c is cleared by row i from all other rows
pub record Cleared (t : Tables) (R S : Matrix) (i c : ℕ) : Type 0 where
  pub kept : (j : ℕ) → j < R.columns → S.entry i j ≡ R.entry i j
  pub others : (r : ℕ) → r < R.rows → ¬ (r ≡ i) → RowCleared t R S i c r

-- row r is the only one with an entry in column p, and has none in higher columns
pub record Owned (R : Matrix) (from r p : ℕ) : Type 0 where
  pub low : from ≤ p
  pub high : p < R.columns
  pub pivot : ¬ (R.entry r p ≡ 0)
  pub alone : (x : ℕ) → x < R.rows → ¬ (x ≡ r) → R.entry x p ≡ 0
  pub after : (j : ℕ) → p < j → j < R.columns → R.entry r j ≡ 0

-- R has the codewords of H, and its columns from `from` on are done; owner gives for each row its column, if it has one
pub record Reduced (t : Tables) (H R : Matrix) (from : ℕ) (owner : List (Option ℕ)) : Type 0 where
  pub entries : Entries t.order R
  pub given : (w : List ℕ) → Codeword t R w → Codeword t H w
  pub still : (w : List ℕ) → Codeword t H w → Codeword t R w
  pub idle : (r : ℕ) → r < R.rows → slice_index_or owner r None ≡ None → (c : ℕ) → from ≤ c → c < R.columns → R.entry r c ≡ 0
  pub owned : (r p : ℕ) → r < R.rows → slice_index_or owner r None ≡ Some p → Owned R from r p

-- w has at each owned column what its row asks for, and elsewhere the symbols of b
pub record Filled (t : Tables) (R : Matrix) (owner : List (Option ℕ)) (b w : List ℕ) : Type 0 where
  pub rest : (j : ℕ) → j < R.columns → ((r : ℕ) → r < R.rows → ¬ (slice_index_or owner r None ≡ Some j)) → slice_index w j ≡ slice_index b j
  pub asked : (r p : ℕ) → r < R.rows → slice_index_or owner r None ≡ Some p → (slice_index b p ≡ 0) × (t.sum (row_sum t R b r) (t.product (R.entry r p) (slice_index w p)) ≡ 0)

-- row i times h is added to the first k entries of row r
pub record Added (t : Tables) (R S : Matrix) (r i h k : ℕ) : Type 0 where
  pub done : (j : ℕ) → j < k → S.entry r j ≡ t.sum (R.entry r j) (t.product h (R.entry i j))
  pub rest : (x j : ℕ) → x < R.rows → j < R.columns → (¬ (x ≡ r)) ⊎ (k ≤ j) → S.entry x j ≡ R.entry x j

-- column c is cleared from the first k rows
pub record ClearedTo (t : Tables) (R S : Matrix) (i c k : ℕ) : Type 0 where
  pub entries : Entries t.order S
  pub done : (r : ℕ) → r < k → ¬ (r ≡ i) → RowCleared t R S i c r
  pub rest : (x j : ℕ) → x < R.rows → j < R.columns → (x ≡ i) ⊎ (k ≤ x) → S.entry x j ≡ R.entry x j

-- a multiple of row i is added to row r alone, and makes its entry in column c zero
pub record OneCleared (t : Tables) (R S : Matrix) (i c r : ℕ) : Type 0 where
  pub factor : ℕ
  pub factor_code : factor < t.order
  pub gone : t.sum (R.entry r c) (t.product factor (R.entry i c)) ≡ 0
  pub added : Added t R S r i factor R.columns
