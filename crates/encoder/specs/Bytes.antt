-- A matrix and a table of products in lent bytes. Assumes nothing.
use Rattle.std.specs.Prelude.{◌≡◌, ℕ, ◌+◌, ◌*◌, ◌/◌, ◌%◌, ◌<◌, ◌≤◌, List, length, None, Option, slice_index, slice_index_or}
use Rattle.code.specs.declared.table.Edge.{Edge}
use Rattle.field.specs.Tables.{Tables}
use Rattle.linear.specs.Words.{Matrix, Entries}
use Rattle.encoder.specs.CheckMatrix.{coefficient_in}

-- m rows of n bytes, one after another
abbrev pub laid : List ℕ → ℕ → ℕ → Matrix
laid s m n = record { rows = m; columns = n; entry = λ r c. slice_index s (r * n + c) }

-- the numbers of rows and columns that the bytes have room for
pub record Room (s : List ℕ) (m n : ℕ) : Type 0 where
  pub rows_high : m ≤ 128
  pub columns_high : n ≤ 256
  pub bytes : m * n ≤ length s

-- the bytes have room for m rows of n columns, and hold a code below q at each of them
pub record CodesLaid (q : ℕ) (s : List ℕ) (m n : ℕ) : Type 0 where
  pub room : m * n ≤ length s
  pub entries : Entries q (laid s m n)

-- the first k edges stand in the bytes, and 0 elsewhere
pub record LaidTo (es : List Edge) (s : List ℕ) (m n k : ℕ) : Type 0 where
  pub entry : (r c : ℕ) → r < m → c < n → slice_index s (r * n + c) ≡ coefficient_in es k r c

-- row r has no column yet, and an entry in column c
pub record Idle (s : List ℕ) (n : ℕ) (owner : List (Option ℕ)) (c r : ℕ) : Type 0 where
  pub free : slice_index_or owner r None ≡ None
  pub entry : ¬ (slice_index s (r * n + c) ≡ 0)

-- the first k products of two codes, row after row of the order's length
abbrev pub ProductsTo : Tables → List ℕ → ℕ → Type 0
ProductsTo t ps k = (x : ℕ) → x < k → slice_index ps x ≡ t.product (x / t.order) (x % t.order)

-- the product of any two codes
abbrev pub Products : Tables → List ℕ → Type 0
Products t ps = (a b : ℕ) → a < t.order → b < t.order → (a * t.order + b < length ps) × (slice_index ps (a * t.order + b) ≡ t.product a b)

-- each number of the list is below q
abbrev pub Below : ℕ → List ℕ → Type 0
Below q s = (i : ℕ) → i < length s → slice_index s i < q
