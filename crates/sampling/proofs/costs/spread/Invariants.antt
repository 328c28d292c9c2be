use Rattle.std.proofs.Common.{◌≡◌, ℕ, ◌+◌, ◌<◌, ◌≤◌, get_or}
use Rattle.sampling.proofs.costs.spread.Given as goal

abbrev pub invariant-loop-a : goal.invariant-loop-a
invariant-loop-a l =
    ((k : ℕ) → k < l.a → get_or l.costs k 0 ≡ get_or l.initial.costs k 0 + l.shares.low)
    × ((k : ℕ) → k < l.a → get_or l.costs (l.half + k) 0 ≡ get_or l.initial.costs k 0 + l.shares.high)
    × ((k : ℕ) → l.a ≤ k → k < l.half → get_or l.costs k 0 ≡ get_or l.initial.costs k 0)
