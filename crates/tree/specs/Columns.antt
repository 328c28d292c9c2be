-- The column table's entries, the edge that each names, and that a column's edges are those of its entries. Assumes nothing.
use Rattle.std.specs.Prelude.{◌≡◌, ℕ, zero, suc, ◌+◌, ◌-◌, ◌<◌, ◌≤◌, cond, ◌&&◌, ◌↔◌, List, [], ◌∷◌, length, ◌==◌, nat_eq, nat_lt, slice_index_or}
use Rattle.code.specs.declared.table.Edge.{Edge}
use Rattle.code.specs.declared.table.Entry.{Entry}
use Rattle.code.specs.Views.{View}
use Rattle.tree.specs.Over.{total, count}
use Rattle.tree.specs.Places.{Admitted, width, row_of, column_of, at_column, arms}

-- how many entries there are
abbrev pub height : View → ℕ
height K = length K.entries

-- the entry at a position; what stands past the end has no meaning
abbrev pub no_entry : Entry
no_entry = record { column = 0; row = 0 }

abbrev pub entry_at : View → ℕ → Entry
entry_at K k = slice_index_or K.entries k no_entry

-- the position of the first edge with a row and a column
unfoldable pub place_of : List Edge → ℕ → ℕ → ℕ
place_of [] r c = 0
place_of (e ∷ es) r c = cond (e.row == r && e.column == c) 0 (suc (place_of es r c))

-- the position of the edge that an entry names
abbrev pub edge_of : View → ℕ → ℕ
edge_of K k = place_of K.edges (entry_at K k).row (entry_at K k).column

-- where a column's entries begin
unfoldable pub first_entry : View → ℕ → ℕ
first_entry K c = count (height K) (λ k. nat_lt (entry_at K k).column c)

-- the sum of f s, f (s + 1) and so on, n of them
unfoldable pub sum_from : (ℕ → ℕ) → ℕ → ℕ → ℕ
sum_from f s zero = 0
sum_from f s (suc n) = sum_from f s n + f (s + n)

pub record ColumnsAre (K : View) : Type 0 where
  -- an entry's edge stands in the row table with the entry's row and column, and is the only one
  pub edge : (k : ℕ) → k < height K → (edge_of K k < width K) × (row_of K (edge_of K k) ≡ (entry_at K k).row) × (column_of K (edge_of K k) ≡ (entry_at K k).column)
  pub only : (k x : ℕ) → k < height K → x < width K → row_of K x ≡ (entry_at K k).row → column_of K x ≡ (entry_at K k).column → x ≡ edge_of K k
  -- a column's entries stand together
  pub range : (c k : ℕ) → k < height K → ((entry_at K k).column ≡ c) ↔ ((first_entry K c ≤ k) × (k < first_entry K (suc c)))
  pub order : (c : ℕ) → (first_entry K c ≤ first_entry K (suc c)) × (first_entry K c ≤ height K)
  -- what is summed over a column's edges is what is summed over the edges of its entries, by a walk over all entries or over its own
  pub over_all : (c : ℕ) (f : ℕ → ℕ) → total (width K) (arms K (at_column c)) f ≡ total (height K) (λ k. nat_eq (entry_at K k).column c) (λ k. f (edge_of K k))
  pub over_own : (c : ℕ) (f : ℕ → ℕ) → total (width K) (arms K (at_column c)) f ≡ sum_from (λ k. f (edge_of K k)) (first_entry K c) (first_entry K (suc c) - first_entry K c)

abbrev pub ColumnsStand : Type 0
ColumnsStand = (K : View) → Admitted K → ColumnsAre K
