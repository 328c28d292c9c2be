use Rattle.std.proofs.Common.{◌≡◌, pred, ◌<◌, length, get_or}
use Rattle.tree.specs.Over.{lowest_to}
use Rattle.frame.proofs.decide.lowest.Given as goal

abbrev pub invariant-loop-a : goal.invariant-loop-a
invariant-loop-a l = (l.best ≡ lowest_to (pred l.a) (λ a. get_or l.distances a 0)) × (l.best < length l.distances)
