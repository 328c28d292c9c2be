use Rattle.std.proofs.Common.{◌≡◌, ◌+◌, ◌-◌, ◌*◌, ◌≤◌, length}
use Rattle.frame.specs.Blocks.{from_on, Filled}
use Rattle.frame.specs.Row.{read_at, coefficient_at}
use Rattle.tree.specs.Rows.{around_at, around_pairs}
use Rattle.frame.proofs.step.Joins.around.Given as goal

abbrev pub invariant-loop-i : goal.invariant-loop-i
invariant-loop-i g l =
    Filled (g.F.Field.meaning l.self.field.now).order l.from l.i (read_at (g.F.Field.meaning l.self.field.now) (coefficient_at l.edges) (around_at (g.F.Field.meaning l.self.field.now) (from_on (g.F.Field.meaning l.self.field.now).order l.self.scratch l.initial.area) (from_on (g.F.Field.meaning l.self.field.now).order (l.self.scratch + 16) l.initial.area) (length l.edges - 1))) l.initial.area l.area
    × (l.pairs ≡ around_pairs (g.J.Joiner.pairs l.self.joiner.now) (g.F.Field.meaning l.self.field.now) l.self.ceiling (from_on (g.F.Field.meaning l.self.field.now).order l.self.scratch l.initial.area) (from_on (g.F.Field.meaning l.self.field.now).order (l.self.scratch + 16) l.initial.area) (length l.edges - 1) l.i)
    × (l.pairs ≤ 4096 * l.i)
