-- The joiner that is in use tells its own pairs. Assumes nothing.
use Rattle.std.specs.Prelude.{ℕ, ◌*◌, ◌≤◌, List}
use Rattle.std.proofs.Common.{arith}
use Rattle.std.proofs.lemmas.Nat.{mul-le}
use Rattle.joiner.specs.Level.{chosen, selective_pairs}
use Rattle.joiner.specs.Counts.{count_le}
use Rattle.vectors.specs.declared.joining.Joining.{Joining}
use Rattle.vectors.specs.declared.joining.Joining.TheVariants as by

abbrev pub pairs_by : Joining → ℕ → ℕ → List ℕ → List ℕ → ℕ
pairs_by by.Full q ceiling left right = q * q
pairs_by by.Selective q ceiling left right = selective_pairs q ceiling left right

pub pairs_few : (j : Joining) (q ceiling : ℕ) (left right : List ℕ) → pairs_by j q ceiling left right ≤ q * q
unfolding selective_pairs chosen
pairs_few by.Full q ceiling left right = omega arith
pairs_few by.Selective q ceiling left right = mul-le _ _ q q (count_le q _) (count_le q _)
