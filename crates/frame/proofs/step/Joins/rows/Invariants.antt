use Rattle.std.proofs.Common.{◌≡◌, ◌*◌, ◌≤◌}
use Rattle.frame.specs.AllRows.{rows_pairs, RowsTo, Cut}
use Rattle.frame.proofs.step.Joins.rows.Given as goal

abbrev pub invariant-loop-r : goal.invariant-loop-r
invariant-loop-r g l =
    RowsTo (g.F.Field.meaning l.self.field.now) l.edges l.to l.from l.self.scratch l.r l.initial.area l.area
    × Cut l.edges l.r l.first
    × (l.pairs ≡ rows_pairs (g.J.Joiner.pairs l.self.joiner.now) (g.F.Field.meaning l.self.field.now) l.self.ceiling l.edges l.to l.initial.area l.r)
    × (l.pairs ≤ 196608 * l.r)
