-- The tower on a field: pairs l + h·y, where y·y = u·y + v. Assumes nothing.
use Rattle.std.specs.Prelude.{ℕ, ◌+◌, ◌*◌, ◌/◌, ◌%◌, Bool, cond, ◌&&◌, List, ◌==◌, nat_lt}
use Rattle.field.specs.Tables.{Tables}
use Rattle.field.specs.Every.{some_below}
use Rattle.field.specs.Grids.{entry, grid}

-- x·x = u·x + v
abbrev pub is_root : Tables → ℕ → ℕ → ℕ → Bool
is_root t u v x = t.product x x == t.sum (t.product u x) v

-- some code of the field is a root
unfoldable pub has_root : Tables → ℕ → ℕ → Bool
has_root t u v = some_below (is_root t u v) t.order

-- the number of the refusal, or 0 where the tower is made
abbrev pub tower_refusal : Tables → ℕ → ℕ → ℕ
tower_refusal t u v =
    cond (nat_lt 64 (t.order * t.order)) 1
    (cond (nat_lt u t.order && nat_lt v t.order) (cond (has_root t u v) 6 0) 5)

-- the code of l + h·y
abbrev pub pack : ℕ → ℕ → ℕ → ℕ
pack r l h = l + r * h

-- the two parts of (l + h·y)·(m + k·y): l·m + v·h·k and l·k + h·m + u·h·k
abbrev pub low_of : Tables → ℕ → ℕ → ℕ → ℕ → ℕ → ℕ
low_of t v l h m k = t.sum (t.product l m) (t.product v (t.product h k))

abbrev pub high_of : Tables → ℕ → ℕ → ℕ → ℕ → ℕ → ℕ
high_of t u l h m k = t.sum (t.sum (t.product l k) (t.product h m)) (t.product u (t.product h k))

-- sums and products of pairs, by their codes
abbrev pub pair_sum : Tables → ℕ → ℕ → ℕ
pair_sum t x y = pack t.order (t.sum (x % t.order) (y % t.order)) (t.sum (x / t.order) (y / t.order))

abbrev pub pair_product : Tables → ℕ → ℕ → ℕ → ℕ → ℕ
pair_product t u v x y = pack t.order
    (low_of t v (x % t.order) (x / t.order) (y % t.order) (y / t.order))
    (high_of t u (x % t.order) (x / t.order) (y % t.order) (y / t.order))

-- the field of all pairs
abbrev pub tower_tables : Tables → ℕ → ℕ → Tables
tower_tables t u v = record { order = t.order * t.order; sum = pair_sum t; product = pair_product t u v }

-- the field of order r that two copied tables hold, 8 bytes a row
abbrev pub copied : ℕ → List ℕ → List ℕ → Tables
copied r s p = record { order = r; sum = entry 8 s; product = entry 8 p }

-- what a tower stands on: the base's order and tables as bytes, and the numbers u and v
pub record Parts : Type 0 where
  pub r : ℕ
  pub u : ℕ
  pub v : ℕ
  pub sums : List ℕ
  pub products : List ℕ

abbrev pub parts_for : Tables → ℕ → ℕ → Parts
parts_for t a b = record { r = t.order; u = a; v = b; sums = grid 8 t.order t.sum; products = grid 8 t.order t.product }

-- the field that a tower of these parts is
abbrev pub meaning_from : Parts → Tables
meaning_from p = tower_tables (copied p.r p.sums p.products) p.u p.v

-- the field of order 2
abbrev pub bits : Tables
bits = record { order = 2; sum = λ a b. (a + b) % 2; product = λ a b. a * b }
