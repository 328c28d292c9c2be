use Rattle.std.proofs.Common.{◌≡◌, ◌<◌}
use Rattle.encoder.specs.Bytes.{laid}
use Rattle.linear.specs.Filling.{part_sum}
use Rattle.encoder.proofs.elimination.Elimination.row_sum.Given as goal

abbrev pub invariant-loop-j : goal.invariant-loop-j
invariant-loop-j g l = (l.sum ≡ part_sum (g.F.Field.meaning l.self.field.now) (laid l.matrix l.self.rows l.self.columns) l.word l.r l.j) × (l.sum < (g.F.Field.meaning l.self.field.now).order)
