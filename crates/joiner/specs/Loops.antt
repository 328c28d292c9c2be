-- What the loops of a join make, step by step: for the crate's own functions. Assumes nothing.
use Rattle.std.specs.Prelude.{◌≡◌, ℕ, zero, suc, ◌+◌, ◌<◌, ◌≤◌, All, min, map, Bool, cond, List, [], ◌∷◌, ◌++◌, length, nat_eq, nat_le, slice_index, slice_set}
use Rattle.std.specs.List.{fold, range_with_len}
use Rattle.field.specs.Tables.{Tables}
use Rattle.joiner.specs.Costs.{worse}
use Rattle.joiner.specs.Joined.{pair_cost}
use Rattle.joiner.specs.Level.{count}
use Rattle.joiner.specs.declared.entry.Entry.{Entry}

-- the codes below n that pass a test, rising
unfoldable pub listed : (ℕ → Bool) → ℕ → List ℕ
listed test zero = []
listed test (suc n) = listed test n ++ cond (test n) (n ∷ []) []

-- `picked` holds the costs of some codes, one after another
abbrev pub Picked : List ℕ → List ℕ → List ℕ → Type 0
Picked costs codes picked = (k : ℕ) → k < length codes → slice_index picked k ≡ slice_index costs (slice_index codes k)

-- how many of the first n costs are k
abbrev pub number : List ℕ → ℕ → ℕ → ℕ
number costs n k = count n (λ a. nat_eq (slice_index costs a) k)

-- how many are counted below the level k
unfoldable pub up_to : List ℕ → ℕ → ℕ
up_to counts zero = 0
up_to counts (suc k) = up_to counts k + slice_index counts k

-- whether n or more are counted up to a level
abbrev pub passes : List ℕ → ℕ → ℕ → Bool
passes counts n level = nat_le n (up_to counts (suc level))

-- the entry at the code b + c lowered to a cost
abbrev pub lowered : Tables → ℕ → ℕ → ℕ → List ℕ → List ℕ
lowered t b c cost third = slice_set third (t.sum b c) (min (slice_index third (t.sum b c)) cost)

-- the pairs of b with some right codes, one after another
unfoldable pub rowed : Tables → List ℕ → List ℕ → ℕ → List ℕ → List ℕ → List ℕ
rowed t left right b [] third = third
rowed t left right b (c ∷ cs) third = rowed t left right b cs (lowered t b c (pair_cost left right b c) third)

-- the pairs of some left codes with some right codes
unfoldable pub combined : Tables → List ℕ → List ℕ → List ℕ → List ℕ → List ℕ → List ℕ
combined t left right [] cs third = third
combined t left right (b ∷ bs) cs third = combined t left right bs cs (rowed t left right b cs third)

-- ---- entries
-- the entries of some codes; the first n that codes and costs beside each other give; and that the codes of some entries are below q
abbrev pub entries_of : List ℕ → List ℕ → List Entry
entries_of costs codes = map (λ c. record { code = c; cost = slice_index costs c }) codes

abbrev pub entries_in : List ℕ → List ℕ → ℕ → List Entry
entries_in codes costs n = map (λ k. record { code = slice_index codes k; cost = slice_index costs k }) (range_with_len 0 n)

abbrev pub Below : ℕ → List Entry → Type 0
Below q entries = (length entries ≤ 64) × All (λ e. e.code < q) entries

-- the entry at the sum of two codes lowered to the cost of the pair; the pairs of a left entry with some right ones; and of some left ones
abbrev pub lowered_by : Tables → Entry → List ℕ → Entry → List ℕ
lowered_by t left third right = lowered t left.code right.code (worse left.cost right.cost) third

abbrev pub row_of : Tables → Entry → List Entry → List ℕ → List ℕ
row_of t left rights third = fold (lowered_by t left) third rights

abbrev pub pairs_of : Tables → List Entry → List Entry → List ℕ → List ℕ
pairs_of t lefts rights third = fold (λ next left. row_of t left rights next) third lefts
