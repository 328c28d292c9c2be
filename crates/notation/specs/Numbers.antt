-- A whole number as text: digits alone, at least one. Assumes nothing.
use Rattle.std.specs.Prelude.{ℕ, Bool, cond, ◌&&◌, List, length, Some, None, Option, nat_le}
use Rattle.sheet.specs.Words.{digits, value}

abbrev pub is_number : ℕ → List ℕ → Bool
is_number largest bs = nat_le 1 (length bs) && (digits bs && nat_le (value 0 bs) largest)

-- the number that the digits write, if it is at most the largest
unfoldable pub number_of : ℕ → List ℕ → Option ℕ
number_of largest bs = cond (is_number largest bs) (Some (value 0 bs)) None
