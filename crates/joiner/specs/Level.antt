-- The selective joiner: its level, the entries it chooses, and its pairs. Assumes nothing.
use Rattle.std.specs.Prelude.{◌≡◌, ℕ, zero, suc, ◌+◌, ◌-◌, ◌*◌, ◌<◌, ◌≤◌, Bool, true, cond, leb, ◌⊎◌, List, nat_le, slice_index}
use Rattle.field.specs.Tables.{Tables, Lawful}

-- how many of the numbers below n pass a test
unfoldable pub count : ℕ → (ℕ → Bool) → ℕ
count zero test = 0
count (suc n) test = cond (test n) (1 + count n test) (count n test)

-- whether the entry of a code is not above a level
abbrev pub is_chosen : List ℕ → ℕ → ℕ → Bool
is_chosen costs level a = nat_le (slice_index costs a) level

-- how many of the q entries are not above a level
unfoldable pub chosen : ℕ → List ℕ → ℕ → ℕ
chosen q costs level = count q (is_chosen costs level)

-- the first of the n levels from i on that passes a test, else i + n
unfoldable pub first_from : (ℕ → Bool) → ℕ → ℕ → ℕ
first_from test i zero = i
first_from test i (suc n) = cond (test i) i (first_from test (i + 1) n)

-- the smallest level from 0 to the ceiling less 1 at which q + 1 or more are chosen together, failing that the ceiling less 1
unfoldable pub level_of : ℕ → ℕ → List ℕ → List ℕ → ℕ
level_of q ceiling left right = first_from (λ level. leb (q + 1) (chosen q left level + chosen q right level)) 0 (ceiling - 1)

-- the chosen left entries times the chosen right ones
unfoldable pub selective_pairs : ℕ → ℕ → List ℕ → List ℕ → ℕ
selective_pairs q ceiling left right =
    chosen q left (level_of q ceiling left right) * chosen q right (level_of q ceiling left right)

-- a level is the one sought: it chooses enough or is the last, and no smaller one chooses enough
pub record IsLevel (q ceiling : ℕ) (left right : List ℕ) (level : ℕ) : Type 0 where
  pub within : level ≤ ceiling - 1
  pub enough : (level ≡ ceiling - 1) ⊎ (q + 1 ≤ chosen q left level + chosen q right level)
  pub smallest : (k : ℕ) → k < level → chosen q left k + chosen q right k < q + 1

-- over any lawful field of order q: of n chosen codes together, every code is the sum of a left and a right one
abbrev pub Suffices : ℕ → ℕ → Type 0
Suffices q n =
    (t : Tables) → Lawful t → t.order ≡ q → (left right : ℕ → Bool) → n ≤ count q left + count q right →
    (a : ℕ) → a < q → (b c : ℕ) × (b < q) × (c < q) × (t.sum b c ≡ a) × (left b ≡ true) × (right c ≡ true)
