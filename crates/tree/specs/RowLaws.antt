-- What a row's vectors and joins are, and that they give the from-check costs. Assumes nothing.
use Rattle.std.specs.Prelude.{◌≡◌, ℕ, suc, ◌+◌, ◌<◌, ◌≤◌, ◌↔◌, List, length, slice_index}
use Rattle.field.specs.Tables.{Tables, Lawful}
use Rattle.code.specs.Views.{View}
use Rattle.tree.specs.Places.{Admitted, width, row_of}
use Rattle.tree.specs.Decoder.{from_check_cost}
use Rattle.tree.specs.Statement.{Within}
use Rattle.tree.specs.Join.{Joined}
use Rattle.tree.specs.Rows.{tabled, joined, spread, read_by, first_of, last_of, read_of}

pub record VectorsAre (F : Tables) : Type 0 where
  -- a joined vector is a join, and the only one
  pub join : (left right : List ℕ) → Joined F F.order (λ b. slice_index left b) (λ c. slice_index right c) (λ a. slice_index (joined F left right) a)
  pub only : (left right third : List ℕ) → length third ≡ F.order → Joined F F.order (λ b. slice_index left b) (λ c. slice_index right c) (λ a. slice_index third a) → third ≡ joined F left right
  -- at h times a stands what stood at a
  pub spreads : (h a : ℕ) (v : List ℕ) → 1 ≤ h → h < F.order → a < F.order → slice_index (spread F h v) (F.product h a) ≡ slice_index v a
  -- at a is read what stands at the opposite of h times a
  pub reads : (h a o : ℕ) (v : List ℕ) → h < F.order → a < F.order → o < F.order → F.sum (F.product h a) o ≡ 0 → slice_index (read_by F h v) a ≡ slice_index v o

pub record RowsAre (F : Tables) (K : View) (costs : ℕ → ℕ → ℕ) : Type 0 where
  -- a row's edges stand together, at least two of them
  pub range : (r x : ℕ) → r < K.header.rows → x < width K → (row_of K x ≡ r) ↔ ((first_of K r ≤ x) × (x ≤ first_of K r + last_of K r))
  pub two : (r : ℕ) → r < K.header.rows → (1 ≤ last_of K r) × (last_of K r ≤ 15) × (first_of K r + last_of K r < width K)
  pub next : (r : ℕ) → r < K.header.rows → first_of K (suc r) ≡ first_of K r + last_of K r + 1
  -- what an edge reads is its from-check costs
  pub reads : (r i : ℕ) → r < K.header.rows → i ≤ last_of K r → read_of F K costs r i ≡ tabled K.header.order (from_check_cost F K costs (first_of K r + i))

abbrev pub RowsStand : Type 0
RowsStand =
    (F : Tables) → Lawful F → VectorsAre F ×
    ((K : View) → Admitted K → F.order ≡ K.header.order → (costs : ℕ → ℕ → ℕ) → Within K costs → RowsAre F K costs)
