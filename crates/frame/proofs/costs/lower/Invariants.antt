use Rattle.std.proofs.Common.{◌≡◌, ℕ, ◌<◌, get_or}
use Rattle.frame.specs.Columns.{rests}
use Rattle.frame.proofs.costs.lower.Given as goal

abbrev pub invariant-loop-a : goal.invariant-loop-a
invariant-loop-a l = (x : ℕ) → x < l.a → get_or l.out x 0 ≡ rests l.v l.w x
