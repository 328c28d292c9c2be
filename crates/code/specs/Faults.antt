-- The number and the place of each fault, and which fault comes before another. Assumes nothing.
use Rattle.std.specs.Prelude.{◌≡◌, ℕ, ◌<◌, ◌⊎◌}
use Rattle.code.specs.declared.fault.CodeFault.{CodeFault}
use Rattle.code.specs.declared.fault.CodeFault.TheVariants.{OutOfRange, NotRising, Degree, Unmatched}

abbrev pub number : CodeFault → ℕ
number (OutOfRange p) = 12
number (NotRising p) = 13
number (Degree p) = 14
number (Unmatched p) = 15

abbrev pub place : CodeFault → ℕ
place (OutOfRange p) = p
place (NotRising p) = p
place (Degree p) = p
place (Unmatched p) = p

-- a lower number, or the same number at an earlier place
abbrev pub Earlier : CodeFault → CodeFault → Type 0
Earlier f g = (number f < number g) ⊎ ((number f ≡ number g) × (place f < place g))
