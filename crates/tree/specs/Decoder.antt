-- What the decoder computes, round by round. Assumes nothing.
use Rattle.std.specs.Prelude.{ℕ, zero, suc, pred, ◌+◌, ◌-◌, max, Bool, cond, ◌==◌}
use Rattle.tree.specs.Over.{total, least_to}
use Rattle.field.specs.Tables.{Tables}
use Rattle.code.specs.Views.{View}
use Rattle.tree.specs.Places.{Place, at_column, at_edge, place_column, width, column_of, coefficient_of, arms, others}
use Rattle.tree.specs.Tree.{lower}

-- the least, over symbols for the edges below n that pass the test, whose products with `sofar` sum to 0, of the greatest of their
-- costs; one above the ceiling where there are no such symbols
unfoldable pub best : Tables → View → (ℕ → ℕ → ℕ) → ℕ → (ℕ → Bool) → ℕ → ℕ
best F K costs zero test sofar = cond (sofar == 0) 0 (suc K.header.ceiling)
best F K costs (suc n) test sofar =
    cond (test n)
    (least_to (pred K.header.order) (λ b. max (costs n b) (best F K costs n test (F.sum sofar (F.product (coefficient_of K n) b)))))
    (best F K costs n test sofar)

unfoldable pub from_check_cost : Tables → View → (ℕ → ℕ → ℕ) → ℕ → ℕ → ℕ
from_check_cost F K costs e a = best F K costs (width K) (others K e) (F.product (coefficient_of K e) a)

unfoldable pub column_sum : View → (ℕ → ℕ → ℕ) → (ℕ → ℕ → ℕ) → Place → ℕ → ℕ
column_sum K channel from p a = channel (place_column K p) a + total (width K) (arms K p) (λ e. from e a)

unfoldable pub less_least : View → (ℕ → ℕ) → ℕ → ℕ
less_least K sums a = sums a - least_to (pred K.header.order) sums

-- a round's to-check costs and distances, from the channel costs and the to-check costs before it
unfoldable pub round_to : Tables → View → (ℕ → ℕ → ℕ) → (ℕ → ℕ → ℕ) → ℕ → ℕ → ℕ
round_to F K channel costs e a = lower K (at_edge e) (less_least K (column_sum K channel (from_check_cost F K costs) (at_edge e)) a)

unfoldable pub round_distance : Tables → View → (ℕ → ℕ → ℕ) → (ℕ → ℕ → ℕ) → ℕ → ℕ → ℕ
round_distance F K channel costs c a = less_least K (column_sum K channel (from_check_cost F K costs) (at_column c)) a

-- the to-check costs and the distances after some rounds
unfoldable pub to_check_cost : Tables → View → (ℕ → ℕ → ℕ) → ℕ → ℕ → ℕ → ℕ
to_check_cost F K channel zero e a = channel (column_of K e) a
to_check_cost F K channel (suc k) e a = round_to F K channel (to_check_cost F K channel k) e a

unfoldable pub distance : Tables → View → (ℕ → ℕ → ℕ) → ℕ → ℕ → ℕ → ℕ
distance F K channel zero c a = channel c a
distance F K channel (suc k) c a = round_distance F K channel (to_check_cost F K channel k) c a
