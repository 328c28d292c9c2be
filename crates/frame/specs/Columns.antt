-- Where an entry's edge stands, sums by column, and costs less the least. Assumes nothing.
use Rattle.std.specs.Prelude.{◌≡◌, ℕ, pred, ◌+◌, ◌-◌, ◌<◌, ◌≤◌, min, Bool, cond, ◌&&◌, ◌||◌, ◌⊎◌, List, length, ◌==◌, nat_eq, nat_lt, slice_index, slice_index_or}
use Rattle.code.specs.declared.table.Edge.{Edge}
use Rattle.code.specs.declared.table.Entry.{Entry}
use Rattle.tree.specs.Over.{total, least_to, lowest_to}
use Rattle.tree.specs.Rows.{tabled}
use Rattle.frame.specs.Blocks.{block}

-- the edge at a position, its row and its column
abbrev pub edge_at : List Edge → ℕ → Edge
edge_at edges i = slice_index_or edges i (record { row = 0; column = 0; coefficient = 0 })

abbrev pub row_at : List Edge → ℕ → ℕ
row_at edges i = (edge_at edges i).row

abbrev pub column_at : List Edge → ℕ → ℕ
column_at edges i = (edge_at edges i).column

-- and of the entry at a position
abbrev pub entry_at : List Entry → ℕ → Entry
entry_at entries k = slice_index_or entries k (record { column = 0; row = 0 })

-- the edge comes before the place of a row and a column
abbrev pub before : Edge → ℕ → ℕ → Bool
before e r c = nat_lt e.row r || (e.row == r && nat_lt e.column c)

-- edges rise strictly by row, then column
abbrev pub Rising : List Edge → Type 0
Rising edges = (x y : ℕ) → x < y → y < length edges → (row_at edges x < row_at edges y) ⊎ ((row_at edges x ≡ row_at edges y) × (column_at edges x < column_at edges y))

-- the edge at x stands at row r and column c
pub record StandsAt (edges : List Edge) (r c x : ℕ) : Type 0 where
  pub within : x < length edges
  pub row : row_at edges x ≡ r
  pub column : column_at edges x ≡ c

abbrev pub HasAt : List Edge → ℕ → ℕ → Type 0
HasAt edges r c = (x : ℕ) × StandsAt edges r c x

-- the first position at which row r and column c stand
unfoldable pub position_of : List Edge → ℕ → ℕ → ℕ
position_of edges r c = lowest_to (pred (length edges)) (λ x. cond (row_at edges x == r && column_at edges x == c) 0 1)

-- the position of an entry's edge
abbrev pub edge_of : List Edge → List Entry → ℕ → ℕ
edge_of edges entries k = position_of edges (entry_at entries k).row (entry_at entries k).column

-- word a of block j
abbrev pub word : ℕ → List ℕ → ℕ → ℕ → ℕ
word q area j a = slice_index (block q j area) a

unfoldable pub added : ℕ → List ℕ → List ℕ → List ℕ
added q v w = tabled q (λ a. slice_index v a + slice_index w a)

-- v less w, less the least, lowered to the ceiling
abbrev pub rests : List ℕ → List ℕ → ℕ → ℕ
rests v w a = slice_index v a - slice_index w a

unfoldable pub lowered : ℕ → ℕ → List ℕ → List ℕ → List ℕ
lowered q top v w = tabled q (λ a. min (rests v w a - least_to (pred q) (rests v w)) top)

-- the blocks of the first k entries' edges are added to their columns' blocks, which stand from `columns` on
pub record SummedTo (q columns count from k : ℕ) (edges : List Edge) (entries : List Entry) (before after : List ℕ) : Type 0 where
  pub there : (c a : ℕ) → c < count → a < q →
      word q after (columns + c) a ≡ word q before (columns + c) a + total k (λ x. nat_eq (entry_at entries x).column c) (λ x. word q before (from + edge_of edges entries x) a)
  pub kept : (j : ℕ) → (j < columns) ⊎ (columns + count ≤ j) → block q j after ≡ block q j before
