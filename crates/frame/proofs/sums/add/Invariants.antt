use Rattle.std.proofs.Common.{◌≡◌, ℕ, ◌+◌, ◌<◌, ◌≤◌, get_or}
use Rattle.frame.proofs.sums.add.Given as goal

-- those below a are added to, and the others stand
abbrev pub invariant-loop-a : goal.invariant-loop-a
invariant-loop-a l =
    ((x : ℕ) → x < l.a → get_or l.sums x 0 ≡ get_or l.initial.sums x 0 + get_or l.v x 0)
    × ((x : ℕ) → l.a ≤ x → get_or l.sums x 0 ≡ get_or l.initial.sums x 0)
