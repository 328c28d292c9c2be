use Rattle.linear.specs.Elimination.{Added}
use Rattle.encoder.specs.Bytes.{laid}
use Rattle.encoder.proofs.elimination.Elimination.add_row.Given as goal

abbrev pub invariant-loop-j : goal.invariant-loop-j
invariant-loop-j g l = Added (g.F.Field.meaning l.self.field.now) (laid l.initial.matrix l.self.rows l.self.columns) (laid l.matrix l.self.rows l.self.columns) l.target l.source l.factor l.j
