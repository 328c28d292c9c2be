-- The numbers that floats stand for, as fractions of whole numbers, and their order. Assumes nothing.
use Rattle.std.specs.Prelude.{ℕ, ◌*◌, ◌<◌, ◌≤◌, Bool, false, cond, not, ◌&&◌, ◌==◌, nat_le, Float}
use Rattle.std.specs.Float.{nan, inf, fin}
use Rattle.std.specs.Float.Ieee.{up, down}

-- over / under
pub record Fraction : Type 0 where
  pub over : ℕ
  pub under : ℕ

abbrev pub AtMost : Fraction → Fraction → Type 0
AtMost x y = x.over * y.under ≤ y.over * x.under

abbrev pub Below : Fraction → Fraction → Type 0
Below x y = x.over * y.under < y.over * x.under

-- the test of AtMost
abbrev pub at_most : Fraction → Fraction → Bool
at_most x y = nat_le (x.over * y.under) (y.over * x.under)

-- k × x
abbrev pub times : ℕ → Fraction → Fraction
times k x = record { over = k * x.over; under = x.under }

abbrev pub lesser : Fraction → Fraction → Fraction
lesser x y = cond (at_most x y) x y

-- The size of a finite float: m × 2 ^ e, where 2 ^ e is up e / down e. What has no size counts as 0.
abbrev pub size : Float → Fraction
size nan = record { over = 0; under = 1 }
size (inf s) = record { over = 0; under = 1 }
size (fin s m e) = record { over = m * up e; under = down e }

-- finite, and without a minus
abbrev pub sized : Float → Bool
sized nan = false
sized (inf s) = false
sized (fin s m e) = not s

-- below zero: no zero is, whatever its sign
abbrev pub negative : Float → Bool
negative nan = false
negative (inf s) = s
negative (fin s m e) = s && not (m == 0)
