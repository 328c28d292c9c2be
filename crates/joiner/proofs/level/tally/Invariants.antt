use Rattle.std.proofs.Common.{◌≡◌, ℕ, ◌+◌, ◌<◌, length, get_or}
use Rattle.joiner.specs.Loops.{number}
use Rattle.joiner.proofs.level.tally.Given as goal

abbrev pub invariant-loop-x : goal.invariant-loop-x
invariant-loop-x l =
    (k : ℕ) → k < length l.initial.counts → get_or l.counts k 0 ≡ get_or l.initial.counts k 0 + number l.costs l.x-index k
