use Rattle.frame.specs.Blocks.{Filled}
use Rattle.frame.specs.Row.{coefficient_at, row_vectors}
use Rattle.frame.proofs.step.Joins.spread.Given as goal

abbrev pub invariant-loop-i : goal.invariant-loop-i
invariant-loop-i g l = Filled (g.F.Field.meaning l.self.field.now).order l.self.scratch l.i (row_vectors (g.F.Field.meaning l.self.field.now) (coefficient_at l.edges) l.to l.initial.area) l.initial.area l.area
