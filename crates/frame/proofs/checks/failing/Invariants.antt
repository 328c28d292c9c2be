use Rattle.std.proofs.Common.{◌≡◌, ◌≤◌}
use Rattle.frame.specs.AllRows.{Cut}
use Rattle.frame.specs.Words.{failing_to}
use Rattle.frame.proofs.checks.failing.Given as goal

abbrev pub invariant-loop-r : goal.invariant-loop-r
invariant-loop-r g l = (l.failing ≡ failing_to (g.F.Field.meaning l.field) l.edges l.word l.r) × (l.failing ≤ l.r) × Cut l.edges l.r l.first
