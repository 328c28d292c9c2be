use Rattle.encoder.specs.Bytes.{LaidTo}
use Rattle.encoder.proofs.elimination.Elimination.lay.Given as goal

abbrev pub invariant-loop-edge : goal.invariant-loop-edge
invariant-loop-edge g l = LaidTo l.edges l.matrix l.self.rows l.self.columns l.edge-index
