use Rattle.encoder.specs.Bytes.{laid}
use Rattle.linear.specs.Filling.{FilledTo}
use Rattle.encoder.proofs.elimination.Elimination.finish.Given as goal

abbrev pub invariant-loop-r : goal.invariant-loop-r
invariant-loop-r g l = FilledTo (g.F.Field.meaning l.self.field.now) (laid l.matrix l.self.rows l.self.columns) l.owners l.initial.word l.word l.r
