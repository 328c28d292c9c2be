-- The word that carries given symbols, and the symbols that a word carries. Assumes nothing.
use Rattle.std.specs.Prelude.{◌≡◌, ℕ, zero, suc, Bool, true, cond, ◌&&◌, List, [], ◌∷◌, ◌++◌, ◌==◌, nat_eq, slice_index}
use Rattle.field.specs.Every.{every_below}
use Rattle.field.specs.Tables.{Tables}
use Rattle.linear.specs.Columns.{combined, Carries}
use Rattle.linear.specs.Count.{count}
use Rattle.linear.specs.Search.{first_word}
use Rattle.linear.specs.Words.{Codeword, Matrix, row_sum}

-- every row of w sums to 0, and its information columns hold the symbols s in rising order
abbrev pub carrying : Tables → Matrix → List ℕ → List ℕ → Bool
carrying t H s w =
    every_below (λ r. nat_eq (row_sum t H w r) 0) H.rows
    && every_below (λ c. cond (combined t H c) (slice_index w c == slice_index s (count c (combined t H))) true) H.columns

-- the codeword that carries the symbols: the first of all words that does, which is the only one
abbrev pub the_word : Tables → Matrix → List ℕ → List ℕ
the_word t H s = first_word t.order H.columns (carrying t H s)

-- the symbols of w at the columns below k that pass, in rising order
unfoldable pub picked : (ℕ → Bool) → List ℕ → ℕ → List ℕ
picked test w zero = []
picked test w (suc k) = cond (test k) (picked test w k ++ (slice_index w k ∷ [])) (picked test w k)

-- the symbols of w at the information columns, in rising order
abbrev pub symbols_of : Tables → Matrix → List ℕ → List ℕ
symbols_of t H w = picked (combined t H) w H.columns

-- w is a codeword, carries the symbols s, and is the only such word
pub record Encoded (t : Tables) (H : Matrix) (s w : List ℕ) : Type 0 where
  pub codeword : Codeword t H w
  pub carries : Carries t H w s
  pub alone : (v : List ℕ) → Codeword t H v → Carries t H v s → v ≡ w
