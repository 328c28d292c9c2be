-- The fault that refuses a code: the first that four tests find, in their order. Assumes nothing.
use Rattle.std.specs.Prelude.{ℕ, zero, suc, ◌+◌, ◌-◌, Bool, true, false, cond, not, ◌&&◌, ◌||◌, List, [], ◌∷◌, length, Some, None, count_by, Option, ◌==◌, nat_le, nat_lt}
use Rattle.code.specs.declared.table.Edge.{Edge}
use Rattle.code.specs.declared.table.Entry.{Entry}
use Rattle.code.specs.declared.table.Header.{Header}
use Rattle.code.specs.declared.fault.CodeFault.{CodeFault}
use Rattle.code.specs.declared.fault.CodeFault.TheVariants.{OutOfRange, NotRising, Degree, Unmatched}

abbrev pub between : ℕ → ℕ → ℕ → Bool
between low x high = nat_le low x && nat_le x high

-- what is tested at place 0: the header's numbers, and each table's length
abbrev pub header_fits : Header → Bool
header_fits h =
    between 2 h.order 64 && between 2 h.columns 256 && between 1 h.rows 128 && nat_lt h.rows h.columns && between 1 h.ceiling 1023 && between 1 h.limit 200

abbrev pub short : {A : Type 0} → List A → Bool
short xs = nat_le (length xs) 1024

abbrev pub edge_fits : Header → Edge → Bool
edge_fits h e = nat_lt e.row h.rows && nat_lt e.column h.columns && nat_le 1 e.coefficient && nat_lt e.coefficient h.order

abbrev pub entry_fits : Header → Entry → Bool
entry_fits h x = nat_lt x.column h.columns && nat_lt x.row h.rows

-- edges go by row, then column; entries by column, then row
abbrev pub edge_before : Edge → Edge → Bool
edge_before a b = nat_lt a.row b.row || (a.row == b.row && nat_lt a.column b.column)

abbrev pub entry_before : Entry → Entry → Bool
entry_before a b = nat_lt a.column b.column || (a.column == b.column && nat_lt a.row b.row)

abbrev pub in_row : ℕ → Edge → Bool
in_row i e = e.row == i

abbrev pub in_column : ℕ → Edge → Bool
in_column j e = e.column == j

-- the number of edges of a row, and of a column
abbrev pub row_degree : List Edge → ℕ → ℕ
row_degree es i = count_by (in_row i) es

abbrev pub column_degree : List Edge → ℕ → ℕ
column_degree es j = count_by (in_column j) es

abbrev pub row_fits : List Edge → ℕ → Bool
row_fits es i = between 2 (row_degree es i) 16

abbrev pub column_fits : List Edge → ℕ → Bool
column_fits es j = between 1 (column_degree es j) 8

abbrev pub any : {A : Type 0} → (A → Bool) → List A → Bool
any t [] = false
any t (x ∷ xs) = t x || any t xs

-- an edge and an entry that name the same row and column
abbrev pub same_pair : Edge → Entry → Bool
same_pair e x = e.row == x.row && e.column == x.column

abbrev pub has_edge : List Edge → Entry → Bool
has_edge es x = any (λ e. same_pair e x) es

abbrev pub has_entry : List Entry → Edge → Bool
has_entry ks e = any (same_pair e) ks

abbrev pub lone_edge : List Entry → Edge → Bool
lone_edge ks e = not (has_entry ks e)

-- a test of what stands at a place of a list; past the end it passes
abbrev pub at : {A : Type 0} → (A → Bool) → List A → ℕ → Bool
at t [] k = true
at t (x ∷ xs) zero = t x
at t (x ∷ xs) (suc k) = at t xs k

-- a test of what stands at k, with what stands just before it
abbrev pub after : {A : Type 0} → (A → A → Bool) → List A → ℕ → Bool
after t xs k = at (λ b. at (λ a. t a b) xs (k - 1)) xs k

-- the first of n numbers, k and on, that fails a test
abbrev pub first : (ℕ → Bool) → ℕ → ℕ → Option ℕ
first t k zero = None
first t k (suc n) = cond (t k) (first t (k + 1) n) (Some k)

-- the first place whose element fails the test, and the first that fails it with its neighbour before
abbrev pub first_bad : {A : Type 0} → (A → Bool) → List A → Option ℕ
first_bad t xs = first (at t xs) 0 (length xs)

abbrev pub first_fall : {A : Type 0} → (A → A → Bool) → List A → Option ℕ
first_fall t xs = first (after t xs) 1 (length xs - 1)

-- a place told from n on
abbrev pub past : ℕ → Option ℕ → Option ℕ
past n None = None
past n (Some k) = Some (n + k)

abbrev pub or_else : {A : Type 0} → Option A → Option A → Option A
or_else None o = o
or_else (Some x) o = Some x

abbrev pub earliest : {A : Type 0} → List (Option A) → Option A
earliest [] = None
earliest (o ∷ os) = or_else o (earliest os)

-- out of range: a header number or a table's length, told at 0; an edge; an entry, told from W on
abbrev pub range_place : Header → List Edge → List Entry → Option ℕ
range_place h es ks =
    earliest
    (cond (header_fits h && short es && short ks) None (Some 0)
    ∷ first_bad (edge_fits h) es
    ∷ past (length es) (first_bad (entry_fits h) ks)
    ∷ [])

-- not rising: the later of two edges; of two entries, told from W on
abbrev pub order_place : List Edge → List Entry → Option ℕ
order_place es ks = earliest (first_fall edge_before es ∷ past (length es) (first_fall entry_before ks) ∷ [])

-- too few or too many edges: a row; a column, told from M on
abbrev pub degree_place : Header → List Edge → Option ℕ
degree_place h es = earliest (first (row_fits es) 0 h.rows ∷ past h.rows (first (column_fits es) 0 h.columns) ∷ [])

-- not the same pairs: an entry without its edge; an edge without its entry, told after the last entry
abbrev pub pair_place : List Edge → List Entry → Option ℕ
pair_place es ks = earliest (first_bad (has_edge es) ks ∷ cond (any (lone_edge ks) es) (Some (length ks)) None ∷ [])

abbrev pub told : (ℕ → CodeFault) → Option ℕ → Option CodeFault
told fault None = None
told fault (Some p) = Some (fault p)

-- the first fault in the order of testing
abbrev pub first_fault : Header → List Edge → List Entry → Option CodeFault
first_fault h es ks =
    earliest
    (told OutOfRange (range_place h es ks)
    ∷ told NotRising (order_place es ks)
    ∷ told Degree (degree_place h es)
    ∷ told Unmatched (pair_place es ks)
    ∷ [])

-- the same under a name that stays shut where a code is only held
unfoldable pub admission : Header → List Edge → List Entry → Option CodeFault
admission = first_fault

abbrev pub granted : Option CodeFault → Bool
granted None = true
granted (Some f) = false
