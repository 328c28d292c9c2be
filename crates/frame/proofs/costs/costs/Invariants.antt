use Rattle.std.proofs.Common.{◌+◌, length}
use Rattle.frame.specs.Blocks.{block, Filled}
use Rattle.frame.specs.Columns.{column_at, lowered}
use Rattle.frame.proofs.costs.costs.Given as goal

abbrev pub invariant-loop-e : goal.invariant-loop-e
invariant-loop-e l = Filled l.sizes.q (l.sizes.n + l.sizes.n) l.e (λ x. lowered l.sizes.q l.ceiling (block l.sizes.q (l.sizes.n + column_at l.edges x) l.initial.area) (block l.sizes.q ((l.sizes.n + l.sizes.n + length l.edges) + x) l.initial.area)) l.initial.area l.area
