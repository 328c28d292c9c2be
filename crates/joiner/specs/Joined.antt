-- The join of two cost vectors over a field: its definition, and what it is. Assumes nothing.
use Rattle.std.specs.Prelude.{◌≡◌, ℕ, ◌<◌, ◌≤◌, min, List, [], ◌∷◌, map, length, filter, nat_eq, slice_index}
use Rattle.std.specs.List.{range_with_len, flat_map as concatenated}
use Rattle.field.specs.Tables.{Tables}
use Rattle.joiner.specs.Costs.{worse}

-- the least of x and some more numbers
unfoldable pub least_of : ℕ → List ℕ → ℕ
least_of x [] = x
least_of x (y ∷ ys) = min x (least_of y ys)

-- the least of some numbers; of none it is 0
unfoldable pub least : List ℕ → ℕ
least [] = 0
least (x ∷ xs) = least_of x xs

-- all pairs of codes below q
unfoldable pub pairs_below : ℕ → List (ℕ × ℕ)
pairs_below q = concatenated (λ b. map (λ c. (b, c)) (range_with_len 0 q)) (range_with_len 0 q)

-- the pairs of codes b and c with b + c = a
unfoldable pub pairs_to : Tables → ℕ → List (ℕ × ℕ)
pairs_to t a = filter (λ p. nat_eq (t.sum p.0 p.1) a) (pairs_below t.order)

-- what a pair of codes costs: its left cost combined with its right one
abbrev pub pair_cost : List ℕ → List ℕ → ℕ → ℕ → ℕ
pair_cost left right b c = worse (slice_index left b) (slice_index right c)

-- the least cost of the pairs of codes b and c with b + c = a
unfoldable pub joined_at : Tables → List ℕ → List ℕ → ℕ → ℕ
joined_at t left right a = least (map (λ p. pair_cost left right p.0 p.1) (pairs_to t a))

-- that of each code a
unfoldable pub joined_of : Tables → List ℕ → List ℕ → List ℕ
joined_of t left right = map (joined_at t left right) (range_with_len 0 t.order)

-- some pair of codes b and c with b + c = a costs v
abbrev pub Reaches : Tables → List ℕ → List ℕ → ℕ → ℕ → Type 0
Reaches t left right a v =
    (b c : ℕ) × (b < t.order) × (c < t.order) × (t.sum b c ≡ a) × (pair_cost left right b c ≡ v)

-- `third` is the join of the two: each entry is reached by a pair and undercut by none
pub record IsJoin (t : Tables) (left right third : List ℕ) : Type 0 where
  pub long : length third ≡ t.order
  pub reached : (a : ℕ) → a < t.order → Reaches t left right a (slice_index third a)
  pub least : (a b c : ℕ) → b < t.order → c < t.order → t.sum b c ≡ a → slice_index third a ≤ pair_cost left right b c
