-- Symbols and checks in the area's words and the row table's edges. Assumes nothing.
use Rattle.std.specs.Prelude.{◌≡◌, ℕ, pred, ◌+◌, ◌-◌, ◌*◌, ◌<◌, ◌≤◌, min, Bool, not, ◌⊎◌, List, length, ◌==◌, nat_eq, nat_le, slice_index}
use Rattle.field.specs.Tables.{Tables}
use Rattle.code.specs.declared.table.Edge.{Edge}
use Rattle.tree.specs.Over.{over, count, least_to, lowest_to, every}
use Rattle.frame.specs.Row.{coefficient_at}
use Rattle.frame.specs.Columns.{row_at, column_at}

-- the decided symbol of column c, whose distances stand in block n + c
abbrev pub symbol_at : ℕ → ℕ → List ℕ → ℕ → ℕ
symbol_at q n area c = lowest_to (pred q) (λ a. slice_index area ((n + c) * q + a))

-- an edge's coefficient times the symbol of its column
abbrev pub term_at : Tables → List Edge → List ℕ → ℕ → ℕ
term_at t edges word x = t.product (coefficient_at edges x) (slice_index word (column_at edges x))

-- row r's sum over the first n edges
abbrev pub sum_to : Tables → List Edge → List ℕ → ℕ → ℕ → ℕ
sum_to t edges word r n = over t.sum 0 n (λ x. nat_eq (row_at edges x) r) (term_at t edges word)

-- how many of the first m rows do not sum to 0
abbrev pub failing_to : Tables → List Edge → List ℕ → ℕ → ℕ
failing_to t edges word m = count m (λ r. not (sum_to t edges word r (length edges) == 0))

-- no word of the n blocks from s on exceeds the ceiling
abbrev pub low_blocks : ℕ → ℕ → ℕ → ℕ → List ℕ → Bool
low_blocks q s n ceiling area = every n (λ c. every q (λ a. nat_le (slice_index area ((s + c) * q + a)) ceiling))

-- the words from `from` to `to` are f 0, f 1 and so on, and the others are as they were
pub record Written (from to : ℕ) (f : ℕ → ℕ) (before after : List ℕ) : Type 0 where
  pub there : (k : ℕ) → from + k < to → slice_index after (from + k) ≡ f k
  pub kept : (k : ℕ) → (k < from) ⊎ (to ≤ k) → slice_index after k ≡ slice_index before k

-- what the rows' sums need: rows that do not fall, coefficients and symbols that are codes, columns that the word has
pub record Summable (t : Tables) (edges : List Edge) (word : List ℕ) : Type 0 where
  pub rising : (x y : ℕ) → x ≤ y → y < length edges → row_at edges x ≤ row_at edges y
  pub coefficients : (x : ℕ) → x < length edges → coefficient_at edges x < t.order
  pub columns : (x : ℕ) → x < length edges → column_at edges x < length word
  pub symbols : (c : ℕ) → slice_index word c < t.order

-- value a less the least of the values, lowered to the ceiling
abbrev pub store_at : List ℕ → ℕ → ℕ → ℕ
store_at values ceiling a = min (slice_index values a - least_to (pred (length values)) (λ b. slice_index values b)) ceiling
