-- The check matrix of a code: the coefficient where an edge is, and 0 elsewhere. Assumes nothing.
use Rattle.std.specs.Prelude.{◌≡◌, ℕ, zero, suc, ◌<◌, cond, ◌&&◌, List, length, Some, ◌==◌, ◌≢◌, slice_index, slice_index_or}
use Rattle.std.specs.List.{slice_get}
use Rattle.code.specs.declared.code.Code.{Code}
use Rattle.code.specs.declared.table.Edge.{Edge}
use Rattle.field.specs.Tables.{Tables}
use Rattle.linear.specs.Words.{Matrix}

abbrev pub edge_at : List Edge → ℕ → Edge
edge_at es k = slice_index_or es k (record { row = 0; column = 0; coefficient = 0 })

-- the coefficient among the first k edges at row r and column c, or 0
unfoldable pub coefficient_in : List Edge → ℕ → ℕ → ℕ → ℕ
coefficient_in es zero r c = 0
coefficient_in es (suc k) r c = cond ((edge_at es k).row == r && (edge_at es k).column == c) (edge_at es k).coefficient (coefficient_in es k r c)

abbrev pub matrix_of : ℕ → ℕ → List Edge → Matrix
matrix_of m n es = record { rows = m; columns = n; entry = coefficient_in es (length es) }

abbrev pub check_matrix : Code → Matrix
check_matrix c = matrix_of c.header.rows c.header.columns c.edges.now

-- each edge's coefficient stands at its row and column, and 0 where no edge is
pub record MatrixTold (es : List Edge) (H : Matrix) : Type 0 where
  pub edge : (k : ℕ) (e : Edge) → slice_get es k ≡ Some e → H.entry e.row e.column ≡ e.coefficient
  pub elsewhere : (r c : ℕ) → ((k : ℕ) (e : Edge) → slice_get es k ≡ Some e → e.row ≡ r → e.column ≢ c) → H.entry r c ≡ 0

-- edges of m rows and n columns, with codes below q, no two at one place
pub record Listed (q m n : ℕ) (es : List Edge) : Type 0 where
  pub row_below : (k : ℕ) → k < length es → (edge_at es k).row < m
  pub column_below : (k : ℕ) → k < length es → (edge_at es k).column < n
  pub code : (k : ℕ) → k < length es → (edge_at es k).coefficient < q
  pub distinct : (k j : ℕ) → k < length es → j < k → (edge_at es j).row ≡ (edge_at es k).row → (edge_at es j).column ≢ (edge_at es k).column

-- coefficients times symbols over the edges of row r among the first k
unfoldable pub edge_sum : Tables → List Edge → List ℕ → ℕ → ℕ → ℕ
edge_sum t es w r zero = 0
edge_sum t es w r (suc k) = cond ((edge_at es k).row == r) (t.sum (t.product (edge_at es k).coefficient (slice_index w (edge_at es k).column)) (edge_sum t es w r k)) (edge_sum t es w r k)
