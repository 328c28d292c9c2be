-- Costs: how two of them combine, and which vectors hold none above a ceiling. Assumes nothing.
use Rattle.std.specs.Prelude.{ℕ, ◌≤◌, max, Bool, true, ◌&&◌, List, [], ◌∷◌, nat_le, slice_index}

-- how two costs combine: the greater
abbrev pub worse : ℕ → ℕ → ℕ
worse x y = max x y

-- no entry exceeds the ceiling, as a test and as a fact
unfoldable pub within : ℕ → List ℕ → Bool
within ceiling [] = true
within ceiling (x ∷ xs) = nat_le x ceiling && within ceiling xs

abbrev pub Low : ℕ → List ℕ → Type 0
Low ceiling costs = (a : ℕ) → slice_index costs a ≤ ceiling
