-- Check columns: those that are no combination of higher columns. The others carry the information. Assumes nothing.
use Rattle.std.specs.Prelude.{◌≡◌, ℕ, ◌<◌, Bool, true, cond, not, List, nat_eq, nat_lt, slice_index}
use Rattle.field.specs.Every.{every_below}
use Rattle.field.specs.Tables.{Tables}
use Rattle.linear.specs.Count.{count}
use Rattle.linear.specs.Search.{some_word}
use Rattle.linear.specs.Words.{Codes, Matrix, total}

-- the entry in row r of the combination, with the factors f, of the columns above c
abbrev pub higher_sum : Tables → Matrix → List ℕ → ℕ → ℕ → ℕ
higher_sum t H f c r = total t H.columns (λ j. cond (nat_lt c j) (t.product (slice_index f j) (H.entry r j)) 0)

-- column c is the combination, with the factors f, of the columns above it
pub record Combination (t : Tables) (H : Matrix) (c : ℕ) (f : List ℕ) : Type 0 where
  pub codes : Codes t.order H.columns f
  pub equal : (r : ℕ) → r < H.rows → H.entry r c ≡ higher_sum t H f c r

-- column c is some combination of higher columns
unfoldable pub combined : Tables → Matrix → ℕ → Bool
combined t H c = some_word t.order H.columns (λ f. every_below (λ r. nat_eq (H.entry r c) (higher_sum t H f c r)) H.rows)

abbrev pub is_check : Tables → Matrix → ℕ → Bool
is_check t H c = not (combined t H c)

-- how many columns are check columns, and how many carry information
abbrev pub check_columns : Tables → Matrix → ℕ
check_columns t H = count H.columns (is_check t H)

abbrev pub information_columns : Tables → Matrix → ℕ
information_columns t H = count H.columns (combined t H)

-- the information columns of w hold the symbols s in rising order: each the one whose number is how many such columns lie below it
abbrev pub Carries : Tables → Matrix → List ℕ → List ℕ → Type 0
Carries t H w s = (c : ℕ) → c < H.columns → combined t H c ≡ true → slice_index w c ≡ slice_index s (count c (combined t H))
