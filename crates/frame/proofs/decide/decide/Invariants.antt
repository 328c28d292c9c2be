use Rattle.std.proofs.Common.{◌≡◌, ℕ, ◌<◌, get_or}
use Rattle.frame.specs.Words.{symbol_at}
use Rattle.frame.proofs.decide.decide.Given as goal

abbrev pub invariant-loop-c : goal.invariant-loop-c
invariant-loop-c l = (k : ℕ) → k < l.c → get_or l.word k 0 ≡ symbol_at l.sizes.q l.sizes.n l.area k
