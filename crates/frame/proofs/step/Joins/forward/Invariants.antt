use Rattle.std.proofs.Common.{◌≡◌, ◌+◌, ◌*◌, ◌≤◌}
use Rattle.frame.specs.Blocks.{from_on, Filled}
use Rattle.tree.specs.Rows.{forth, forth_pairs}
use Rattle.frame.proofs.step.Joins.forward.Given as goal

abbrev pub invariant-loop-i : goal.invariant-loop-i
invariant-loop-i g l =
    Filled (g.F.Field.meaning l.self.field.now).order l.self.scratch (l.i + 1) (forth (g.F.Field.meaning l.self.field.now) (from_on (g.F.Field.meaning l.self.field.now).order l.self.scratch l.initial.area)) l.initial.area l.area
    × (l.pairs ≡ forth_pairs (g.J.Joiner.pairs l.self.joiner.now) (g.F.Field.meaning l.self.field.now) l.self.ceiling (from_on (g.F.Field.meaning l.self.field.now).order l.self.scratch l.initial.area) l.i)
    × (l.pairs ≤ 4096 * l.i)
