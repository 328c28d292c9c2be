use Rattle.std.proofs.Common.{◌+◌, replicate}
use Rattle.frame.specs.Blocks.{block, Filled}
use Rattle.frame.specs.Columns.{lowered}
use Rattle.frame.proofs.costs.settle.Given as goal

abbrev pub invariant-loop-c : goal.invariant-loop-c
invariant-loop-c l = Filled l.sizes.q l.sizes.n l.c (λ c. lowered l.sizes.q 65535 (block l.sizes.q (l.sizes.n + c) l.initial.area) (replicate l.sizes.q 0)) l.initial.area l.area
