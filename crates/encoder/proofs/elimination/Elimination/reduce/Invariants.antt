use Rattle.linear.specs.Elimination.{Reduced}
use Rattle.encoder.specs.Bytes.{laid}
use Rattle.encoder.proofs.elimination.Elimination.reduce.Given as goal

abbrev pub invariant-loop-c : goal.invariant-loop-c
invariant-loop-c g l = Reduced (g.F.Field.meaning l.self.field.now) (laid l.initial.matrix l.self.rows l.self.columns) (laid l.matrix l.self.rows l.self.columns) l.c l.owners
