-- The check of a row and the check along the tree are one. Assumes nothing.
use Rattle.std.specs.Prelude.{◌≡◌, ℕ, ◌<◌, ◌↔◌}
use Rattle.field.specs.Tables.{Tables, Lawful}
use Rattle.code.specs.Views.{View}
use Rattle.tree.specs.Places.{Admitted, width, row_of, column_of}
use Rattle.tree.specs.Tree.{Satisfied}
use Rattle.tree.specs.Frame.{row_sum}

-- a row's sum is 0 exactly if any of its edges finds the check satisfied, and every row has an edge
pub record ChecksAre (F : Tables) (K : View) (word : ℕ → ℕ) : Type 0 where
  pub same : (e : ℕ) → e < width K → (row_sum F K word (row_of K e) ≡ 0) ↔ Satisfied F K e (word (column_of K e)) (λ x. word (column_of K x))
  pub some : (r : ℕ) → r < K.header.rows → (e : ℕ) × (e < width K) × (row_of K e ≡ r)

abbrev pub ChecksStand : Type 0
ChecksStand =
    (F : Tables) → Lawful F → (K : View) → Admitted K → F.order ≡ K.header.order →
    (word : ℕ → ℕ) → ((c : ℕ) → c < K.header.columns → word c < K.header.order) → ChecksAre F K word
