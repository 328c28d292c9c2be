-- The rank: the largest number of rows of which no combination is zero unless all its factors are. Assumes nothing.
use Rattle.std.specs.Prelude.{◌≡◌, ℕ, zero, suc, ◌<◌, ◌≤◌, Bool, true, false, cond, not, ◌&&◌, List, ◌==◌, nat_eq, slice_index}
use Rattle.field.specs.Every.{every_below, some_below}
use Rattle.field.specs.Tables.{Tables}
use Rattle.linear.specs.Count.{count}
use Rattle.linear.specs.Rows.{rows_sum}
use Rattle.linear.specs.Search.{some_word}
use Rattle.linear.specs.Words.{Codes, Matrix}

-- a combination of the chosen rows that is zero
pub record Vanishing (t : Tables) (H : Matrix) (chosen : ℕ → Bool) (g : List ℕ) : Type 0 where
  pub codes : Codes t.order H.rows g
  pub within : (r : ℕ) → r < H.rows → chosen r ≡ false → slice_index g r ≡ 0
  pub zero_row : (c : ℕ) → c < H.columns → rows_sum t H g c ≡ 0

-- no combination of the chosen rows is zero unless all its factors are
abbrev pub Independent : Tables → Matrix → (ℕ → Bool) → Type 0
Independent t H chosen = (g : List ℕ) → Vanishing t H chosen g → (r : ℕ) → r < H.rows → slice_index g r ≡ 0

pub record Rank (t : Tables) (H : Matrix) (k : ℕ) : Type 0 where
  pub chosen : ℕ → Bool
  pub many : count H.rows chosen ≡ k
  pub independent : Independent t H chosen
  pub most : (other : ℕ → Bool) → Independent t H other → count H.rows other ≤ k

-- the same as a value; a choice of rows is a word of zeros and ones
abbrev pub selected : List ℕ → ℕ → Bool
selected S r = slice_index S r == 1

-- a combination of the selected rows, with factors not all zero, that is the zero row
abbrev pub vanishes : Tables → Matrix → List ℕ → List ℕ → Bool
vanishes t H S g =
    every_below (λ r. cond (selected S r) true (slice_index g r == 0)) H.rows
    && (every_below (λ c. nat_eq (rows_sum t H g c) 0) H.columns && some_below (λ r. not (slice_index g r == 0)) H.rows)

unfoldable pub stands_apart : Tables → Matrix → List ℕ → Bool
stands_apart t H S = not (some_word t.order H.rows (vanishes t H S))

-- the largest number up to n that passes, or 0
unfoldable pub largest : (ℕ → Bool) → ℕ → ℕ
largest p zero = 0
largest p (suc n) = cond (p (suc n)) (suc n) (largest p n)

abbrev pub rank_of : Tables → Matrix → ℕ
rank_of t H = largest (λ k. some_word 2 H.rows (λ S. (count H.rows (selected S) == k) && stands_apart t H S)) H.rows
