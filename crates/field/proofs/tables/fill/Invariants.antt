use Rattle.std.proofs.Common.{◌≡◌, ℕ, ◌<◌, length, get_or, Option, unwrap_or}
use Rattle.field.proofs.tables.fill.Given as goal

abbrev pub invariant-loop-k : goal.invariant-loop-k
invariant-loop-k g l =
    (h : ℕ → Option ℕ) → ((k : ℕ) (r : Option ℕ) → k < length l.fn.bytes → goal.F-post g l.f k r → r ≡ h k)
    → (j : ℕ) → j < l.k → get_or l.bytes j 0 ≡ unwrap_or (h j) 0
