-- The worked examples of joining, over the prime field of order 3. Assumes nothing.
use Rattle.std.specs.Prelude.{[], ◌∷◌, Ok}
use Rattle.joiner_tests.specs.declared.outcome.Examples.{Examples}

-- (0, 5, 9) joined with (0, 6, 8) at the ceiling 31 is (0, 5, 6): the full joiner tells 9 pairs, the selective one 4.
-- (0, 8, 8) joined with itself at the ceiling 8 is (0, 8, 8): the selective joiner tells 1.
abbrev pub worked : Examples
worked = record {
  full = record { pairs = Ok 9; third = 0 ∷ 5 ∷ 6 ∷ [] };
  selective = record { pairs = Ok 4; third = 0 ∷ 5 ∷ 6 ∷ [] };
  high = record { pairs = Ok 1; third = 0 ∷ 8 ∷ 8 ∷ [] };
}
