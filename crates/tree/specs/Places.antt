-- The edges of a code by their position in the row table, the root of a tree, and the edges around it. Assumes nothing.
use Rattle.std.specs.Prelude.{◌≡◌, ℕ, ◌<◌, Bool, true, not, ◌&&◌, length, ◌==◌, slice_index_or}
use Rattle.code.specs.declared.table.Edge.{Edge}
use Rattle.code.specs.Views.{View}
use Rattle.code.specs.Rules.{Rules}

-- the code keeps every rule of admitting
abbrev pub Admitted : View → Type 0
Admitted K = Rules K.header K.edges K.entries

-- how many edges there are
abbrev pub width : View → ℕ
width K = length K.edges

-- the edge at a position; what stands past the end has no meaning
abbrev pub no_edge : Edge
no_edge = record { row = 0; column = 0; coefficient = 0 }

abbrev pub edge_at : View → ℕ → Edge
edge_at K e = slice_index_or K.edges e no_edge

abbrev pub row_of : View → ℕ → ℕ
row_of K e = (edge_at K e).row

abbrev pub column_of : View → ℕ → ℕ
column_of K e = (edge_at K e).column

abbrev pub coefficient_of : View → ℕ → ℕ
coefficient_of K e = (edge_at K e).coefficient

-- the root of a tree: a column, or an edge, which leaves its own row out
pub data Place : Type 0 where
  at_column : ℕ → Place
  at_edge : ℕ → Place

abbrev pub place_column : View → Place → ℕ
place_column K (at_column c) = c
place_column K (at_edge e) = column_of K e

-- the column's edges along whose rows the tree goes on
unfoldable pub arms : View → Place → ℕ → Bool
arms K (at_column c) x = column_of K x == c
arms K (at_edge e) x = column_of K x == column_of K e && not (x == e)

-- the other edges of an edge's row
unfoldable pub others : View → ℕ → ℕ → Bool
others K e x = row_of K x == row_of K e && not (x == e)

pub record Arm (K : View) (p : Place) (x : ℕ) : Type 0 where
  pub within : x < width K
  pub passes : arms K p x ≡ true

pub record Other (K : View) (e x : ℕ) : Type 0 where
  pub within : x < width K
  pub passes : others K e x ≡ true
