-- Vectors of q costs, a row's joins on them, and the pairs of a round. Assumes nothing.
use Rattle.std.specs.Prelude.{ℕ, zero, suc, pred, ◌+◌, ◌-◌, max, cond, List, map, Some, None, Option, ◌==◌, nat_lt, slice_index}
use Rattle.std.specs.List.{range_with_len}
use Rattle.field.specs.Tables.{Tables, opposite_of, inverse_of}
use Rattle.code.specs.Views.{View}
use Rattle.tree.specs.Over.{count, least_to}
use Rattle.tree.specs.Places.{width, row_of, coefficient_of}

-- what a joiner tells of a join: its pairs, from the order, the ceiling, the left and the right vector
abbrev pub PairsRule : Type 0
PairsRule = ℕ → ℕ → List ℕ → List ℕ → ℕ

-- the vector of f 0 to f (q - 1)
unfoldable pub tabled : ℕ → (ℕ → ℕ) → List ℕ
tabled q f = map f (range_with_len 0 q)

-- the least, over all codes b and c with b + c = a, of the greater of left b and right c; where b + c is not a, the pair of a and 0 stands in
unfoldable pub joined_at : Tables → List ℕ → List ℕ → ℕ → ℕ
joined_at F left right a =
    least_to (pred F.order) (λ b. least_to (pred F.order) (λ c.
    cond (F.sum b c == a) (max (slice_index left b) (slice_index right c)) (max (slice_index left a) (slice_index right 0))))

unfoldable pub joined : Tables → List ℕ → List ℕ → List ℕ
joined F left right = tabled F.order (joined_at F left right)

-- the code that is answered
abbrev pub code_in : Option ℕ → ℕ
code_in (Some c) = c
code_in None = 0

-- at each code, what v holds at the product with k
unfoldable pub gathered : Tables → ℕ → List ℕ → List ℕ
gathered F k v = tabled F.order (λ c. slice_index v (F.product k c))

-- P: at h times a, what v holds at a
abbrev pub spread : Tables → ℕ → List ℕ → List ℕ
spread F h v = gathered F (code_in (inverse_of F h)) v

-- what an edge reads: at a, what v holds at the opposite of h times a
abbrev pub read_by : Tables → ℕ → List ℕ → List ℕ
read_by F h v = gathered F (code_in (opposite_of F h)) v

-- ---- the joins of the vectors P 0 to P last
-- the join of P 0 to P i
unfoldable pub forth : Tables → (ℕ → List ℕ) → ℕ → List ℕ
forth F P zero = P 0
forth F P (suc i) = joined F (forth F P i) (P (suc i))

-- the join of P (last - m) to P last
unfoldable pub back : Tables → (ℕ → List ℕ) → ℕ → ℕ → List ℕ
back F P last zero = P last
back F P last (suc m) = joined F (P (last - suc m)) (back F P last m)

-- the join of all but the vector i, from the joins of those before and of those after
unfoldable pub around_at : Tables → (ℕ → List ℕ) → (ℕ → List ℕ) → ℕ → ℕ → List ℕ
around_at F forths backs last i =
    cond (i == 0) (backs (last - 1)) (cond (i == last) (forths (last - 1)) (joined F (forths (i - 1)) (backs (last - 1 - i))))

abbrev pub around : Tables → (ℕ → List ℕ) → ℕ → ℕ → List ℕ
around F P last i = around_at F (forth F P) (back F P last) last i

-- ---- their pairs
-- of the first m joins from the end, and of the first i from the start
unfoldable pub back_pairs : PairsRule → Tables → ℕ → (ℕ → List ℕ) → ℕ → ℕ → ℕ
back_pairs pairs F top P last zero = 0
back_pairs pairs F top P last (suc m) = back_pairs pairs F top P last m + pairs F.order top (P (last - suc m)) (back F P last m)

unfoldable pub forth_pairs : PairsRule → Tables → ℕ → (ℕ → List ℕ) → ℕ → ℕ
forth_pairs pairs F top P zero = 0
forth_pairs pairs F top P (suc i) = forth_pairs pairs F top P i + pairs F.order top (forth F P i) (P (suc i))

-- of the join around the vector i, and of those around the first i
unfoldable pub around_pair : PairsRule → Tables → ℕ → (ℕ → List ℕ) → (ℕ → List ℕ) → ℕ → ℕ → ℕ
around_pair pairs F top forths backs last i =
    cond (i == 0) 0 (cond (i == last) 0 (pairs F.order top (forths (i - 1)) (backs (last - 1 - i))))

unfoldable pub around_pairs : PairsRule → Tables → ℕ → (ℕ → List ℕ) → (ℕ → List ℕ) → ℕ → ℕ → ℕ
around_pairs pairs F top forths backs last zero = 0
around_pairs pairs F top forths backs last (suc i) = around_pairs pairs F top forths backs last i + around_pair pairs F top forths backs last i

unfoldable pub row_pairs : PairsRule → Tables → ℕ → (ℕ → List ℕ) → ℕ → ℕ
row_pairs pairs F top P last =
    back_pairs pairs F top P last (last - 1) + forth_pairs pairs F top P (last - 1)
    + around_pairs pairs F top (forth F P) (back F P last) last (suc last)

-- ---- the rows of a code
-- where a row's edges begin, and how many there are but one
unfoldable pub first_of : View → ℕ → ℕ
first_of K r = count (width K) (λ x. nat_lt (row_of K x) r)

abbrev pub last_of : View → ℕ → ℕ
last_of K r = first_of K (suc r) - first_of K r - 1

-- the vectors of row r, from its edges' costs
abbrev pub vectors_of : Tables → View → (ℕ → ℕ → ℕ) → ℕ → ℕ → List ℕ
vectors_of F K costs r i = spread F (coefficient_of K (first_of K r + i)) (tabled K.header.order (costs (first_of K r + i)))

-- what edge i of row r reads of the others
unfoldable pub read_of : Tables → View → (ℕ → ℕ → ℕ) → ℕ → ℕ → List ℕ
read_of F K costs r i = read_by F (coefficient_of K (first_of K r + i)) (around F (vectors_of F K costs r) (last_of K r) i)

-- the pairs of the first r rows, and of a round
unfoldable pub rows_pairs : PairsRule → Tables → View → (ℕ → ℕ → ℕ) → ℕ → ℕ
rows_pairs pairs F K costs zero = 0
rows_pairs pairs F K costs (suc r) = rows_pairs pairs F K costs r + row_pairs pairs F K.header.ceiling (vectors_of F K costs r) (last_of K r)

abbrev pub round_pairs : PairsRule → Tables → View → (ℕ → ℕ → ℕ) → ℕ
round_pairs pairs F K costs = rows_pairs pairs F K costs K.header.rows
