-- What is printed of a code. Assumes nothing.
use Rattle.std.specs.Prelude.{ℕ, ◌++◌, List, [], ◌∷◌, decimal}
use Rattle.code.specs.declared.numbers.Numbers.{Numbers}

-- fields with a tab between each two
abbrev pub tabbed : List (List ℕ) → List ℕ
tabbed [] = []
tabbed (x ∷ []) = x
tabbed (x ∷ (y ∷ ys)) = x ++ (9 ∷ tabbed (y ∷ ys))

-- q, N, M, W, C and L
abbrev pub numbers_text : Numbers → List ℕ
numbers_text n = tabbed (decimal n.order ∷ decimal n.columns ∷ decimal n.rows ∷ decimal n.edges ∷ decimal n.ceiling ∷ decimal n.limit ∷ [])
