use Rattle.linear.specs.Elimination.{ClearedTo}
use Rattle.encoder.specs.Bytes.{laid}
use Rattle.encoder.proofs.elimination.Elimination.clear.Given as goal

abbrev pub invariant-loop-r : goal.invariant-loop-r
invariant-loop-r g l = ClearedTo (g.F.Field.meaning l.self.field.now) (laid l.initial.matrix l.self.rows l.self.columns) (laid l.matrix l.self.rows l.self.columns) l.i l.c l.r
