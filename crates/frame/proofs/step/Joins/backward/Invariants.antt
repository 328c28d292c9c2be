use Rattle.std.proofs.Common.{◌≡◌, ◌+◌, ◌*◌, ◌≤◌}
use Rattle.frame.specs.Blocks.{from_on, Filled}
use Rattle.tree.specs.Rows.{back, back_pairs}
use Rattle.frame.proofs.step.Joins.backward.Given as goal

abbrev pub invariant-loop-m : goal.invariant-loop-m
invariant-loop-m g l =
    Filled (g.F.Field.meaning l.self.field.now).order (l.self.scratch + 16) (l.m + 1) (back (g.F.Field.meaning l.self.field.now) (from_on (g.F.Field.meaning l.self.field.now).order l.self.scratch l.initial.area) l.last) l.initial.area l.area
    × (l.pairs ≡ back_pairs (g.J.Joiner.pairs l.self.joiner.now) (g.F.Field.meaning l.self.field.now) l.self.ceiling (from_on (g.F.Field.meaning l.self.field.now).order l.self.scratch l.initial.area) l.last l.m)
    × (l.pairs ≤ 4096 * l.m)
