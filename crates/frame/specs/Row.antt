-- The vectors of one row in the area, and what its joins leave there. Assumes nothing.
use Rattle.std.specs.Prelude.{◌≡◌, ℕ, ◌+◌, ◌<◌, ◌≤◌, ◌⊎◌, List, length, slice_index_or}
use Rattle.field.specs.Tables.{Tables}
use Rattle.code.specs.declared.table.Edge.{Edge}
use Rattle.tree.specs.Rows.{spread, read_by, around}
use Rattle.joiner.specs.Costs.{Low}
use Rattle.frame.specs.Blocks.{block, from_on}

-- the coefficient of the edge at a position
abbrev pub coefficient_at : List Edge → ℕ → ℕ
coefficient_at edges i = (slice_index_or edges i (record { row = 0; column = 0; coefficient = 0 })).coefficient

-- each edge's coefficient is a code that has an inverse
abbrev pub Invertible : Tables → List Edge → Type 0
Invertible t edges = (i : ℕ) → i < length edges → (0 < coefficient_at edges i) × (coefficient_at edges i < t.order)

-- no cost in the n blocks from s on exceeds the ceiling
abbrev pub LowBlocks : ℕ → ℕ → ℕ → ℕ → List ℕ → Type 0
LowBlocks q ceiling s n area = (i : ℕ) → i < n → Low ceiling (block q (s + i) area)

-- what the edges read of the joins of the others
abbrev pub read_at : Tables → (ℕ → ℕ) → (ℕ → List ℕ) → ℕ → List ℕ
read_at t h vectors i = read_by t (h i) (vectors i)

-- the vectors of a row whose edges' to-check costs stand in the blocks from `to` on
abbrev pub row_vectors : Tables → (ℕ → ℕ) → ℕ → List ℕ → ℕ → List ℕ
row_vectors t h to area i = spread t (h i) (from_on t.order to area i)

-- what a row leaves: its edges' from-check costs, and all else but the scratch as it was
pub record RowDone (t : Tables) (h : ℕ → ℕ) (to from s last : ℕ) (before after : List ℕ) : Type 0 where
  pub there : (x : ℕ) → x ≤ last → block t.order (from + x) after ≡ read_at t h (around t (row_vectors t h to before) last) x
  pub kept : (j : ℕ) → (j < from) ⊎ (from + last < j) → (j < s) ⊎ (s + 36 ≤ j) → block t.order j after ≡ block t.order j before
