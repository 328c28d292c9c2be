use Rattle.std.proofs.Common.{◌≡◌, ◌<◌}
use Rattle.encoder.specs.CheckMatrix.{edge_sum}
use Rattle.encoder.proofs.edges.edge_sum.Given as goal

abbrev pub invariant-loop-edge : goal.invariant-loop-edge
invariant-loop-edge g l = (l.sum ≡ edge_sum (g.F.Field.meaning l.field) l.edges l.word l.row l.edge-index) × (l.sum < (g.F.Field.meaning l.field).order)
