use Rattle.std.proofs.Common.{◌≡◌, ◌+◌, ◌<◌}
use Rattle.frame.specs.Words.{sum_to}
use Rattle.frame.proofs.checks.row_sum.Given as goal

abbrev pub invariant-loop-edge : goal.invariant-loop-edge
invariant-loop-edge g l = (l.sum ≡ sum_to (g.F.Field.meaning l.field) l.edges l.word l.r (l.first + l.edge-index)) × (l.sum < (g.F.Field.meaning l.field).order)
