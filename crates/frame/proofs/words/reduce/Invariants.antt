use Rattle.std.proofs.Common.{◌≡◌, ℕ, ◌-◌, ◌<◌, ◌≤◌, min, get_or}
use Rattle.frame.proofs.words.reduce.Given as goal

-- those below the index are lowered, and the others stand
abbrev pub invariant-loop-value : goal.invariant-loop-value
invariant-loop-value l =
    ((x : ℕ) → x < l.value-index → get_or l.values x 0 ≡ min (get_or l.initial.values x 0 - l.m) l.ceiling)
    × ((x : ℕ) → l.value-index ≤ x → get_or l.values x 0 ≡ get_or l.initial.values x 0)
