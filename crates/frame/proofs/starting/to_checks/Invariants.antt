use Rattle.std.proofs.Common.{◌+◌}
use Rattle.frame.specs.Blocks.{block, Filled}
use Rattle.frame.specs.Columns.{column_at}
use Rattle.frame.proofs.starting.to_checks.Given as goal

abbrev pub invariant-loop-e : goal.invariant-loop-e
invariant-loop-e l = Filled l.sizes.q (l.sizes.n + l.sizes.n) l.e (λ x. block l.sizes.q (column_at l.edges x) l.initial.area) l.initial.area l.area
