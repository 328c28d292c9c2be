use Rattle.std.proofs.Common.{◌+◌, ◌-◌, ◌<◌, ◌≤◌}
use Rattle.sampling.specs.Exact.{size}
use Rattle.sampling.specs.Levels.{level_at}
use Rattle.sampling.proofs.level.level.Given as goal

-- the level lies between the bounds
abbrev pub invariant-loop-reached : goal.invariant-loop-reached
invariant-loop-reached l =
    (l.missed ≤ l.ceiling + 1) × (l.reached ≤ level_at (size l.step) (size l.m) l.ceiling) × (level_at (size l.step) (size l.m) l.ceiling < l.missed)

abbrev pub decreases-loop-reached : goal.decreases-loop-reached
decreases-loop-reached l = l.missed - l.reached
