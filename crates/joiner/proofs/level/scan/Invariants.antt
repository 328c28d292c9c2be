use Rattle.std.proofs.Common.{◌≡◌, ◌-◌, ◌<◌, length}
use Rattle.joiner.specs.Level.{first_from}
use Rattle.joiner.specs.Loops.{up_to, passes}
use Rattle.joiner.proofs.level.scan.Given as goal

abbrev pub invariant-loop-level : goal.invariant-loop-level
invariant-loop-level l =
    (l.sum ≡ up_to l.counts l.level)
    × (l.sum < l.n)
    × (first_from (passes l.counts l.n) 0 (length l.counts) ≡ first_from (passes l.counts l.n) l.level (length l.counts - l.level))
