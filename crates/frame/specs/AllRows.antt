-- All rows, one after another. Assumes nothing.
use Rattle.std.specs.Prelude.{◌≡◌, ℕ, zero, suc, ◌+◌, ◌-◌, ◌<◌, ◌≤◌, ◌⊎◌, List, length, nat_lt}
use Rattle.tree.specs.Over.{count}
use Rattle.field.specs.Tables.{Tables}
use Rattle.frame.specs.Blocks.{block}
use Rattle.frame.specs.Columns.{row_at}
use Rattle.frame.specs.Row.{read_at, row_vectors, coefficient_at}
use Rattle.tree.specs.Rows.{around, row_pairs}
use Rattle.code.specs.declared.table.Edge.{Edge}

-- where a row's edges begin, and how many there are but one
unfoldable pub starts : List Edge → ℕ → ℕ
starts edges r = count (length edges) (λ x. nat_lt (row_at edges x) r)

abbrev pub last_of : List Edge → ℕ → ℕ
last_of edges r = starts edges (suc r) - starts edges r - 1

abbrev pub coefficients_of : List Edge → ℕ → ℕ → ℕ
coefficients_of edges r i = coefficient_at edges (starts edges r + i)

abbrev pub vectors_of : Tables → List Edge → ℕ → List ℕ → ℕ → ℕ → List ℕ
vectors_of t edges to area r = row_vectors t (coefficients_of edges r) (to + starts edges r) area

-- what edge i of row r reads of the others
unfoldable pub read_of : Tables → List Edge → ℕ → List ℕ → ℕ → ℕ → List ℕ
read_of t edges to area r i = read_at t (coefficients_of edges r) (around t (vectors_of t edges to area r) (last_of edges r)) i

unfoldable pub rows_pairs : (ℕ → ℕ → List ℕ → List ℕ → ℕ) → Tables → ℕ → List Edge → ℕ → List ℕ → ℕ → ℕ
rows_pairs pairs t top edges to area zero = 0
rows_pairs pairs t top edges to area (suc r) = rows_pairs pairs t top edges to area r + row_pairs pairs t top (vectors_of t edges to area r) (last_of edges r)

-- the first r rows are done
pub record RowsTo (t : Tables) (edges : List Edge) (to from s r : ℕ) (before after : List ℕ) : Type 0 where
  pub there : (x : ℕ) → x < length edges → row_at edges x < r → block t.order (from + x) after ≡ read_of t edges to before (row_at edges x) (x - starts edges (row_at edges x))
  pub kept : (j : ℕ) → (j < from) ⊎ (from + length edges ≤ j) → (j < s) ⊎ (s + 36 ≤ j) → block t.order j after ≡ block t.order j before

-- e is where row r begins
pub record Cut (edges : List Edge) (r e : ℕ) : Type 0 where
  pub within : e ≤ length edges
  pub lower : (x : ℕ) → x < e → row_at edges x < r
  pub upper : (x : ℕ) → e ≤ x → x < length edges → r ≤ row_at edges x
