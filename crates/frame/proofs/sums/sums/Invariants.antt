use Rattle.std.proofs.Common.{◌+◌, length}
use Rattle.frame.specs.Columns.{SummedTo}
use Rattle.frame.proofs.sums.sums.Given as goal

abbrev pub invariant-loop-entry : goal.invariant-loop-entry
invariant-loop-entry l = SummedTo l.sizes.q l.sizes.n l.sizes.n (l.sizes.n + l.sizes.n + length l.edges) l.entry-index l.edges l.entries l.initial.area l.area
