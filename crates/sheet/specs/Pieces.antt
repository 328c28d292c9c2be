-- A text cut at a byte: its lines at the line feed, a line's fields at the tab. Assumes nothing.
use Rattle.std.specs.Prelude.{ℕ, zero, suc, ◌+◌, Bool, true, false, List, [], ◌∷◌, length, ◌==◌, slice_index_or}

-- a byte before the pieces of the rest: it cuts, or it stands first in the first piece
abbrev pub cut : Bool → ℕ → List (List ℕ) → List (List ℕ)
cut true b ps = [] ∷ ps
cut false b [] = (b ∷ []) ∷ []
cut false b (p ∷ ps) = (b ∷ p) ∷ ps

-- the pieces between the bytes c: one more than there are such bytes
unfoldable pub split : ℕ → List ℕ → List (List ℕ)
split c [] = [] ∷ []
split c (b ∷ bs) = cut (b == c) b (split c bs)

-- the first piece
abbrev pub first : ℕ → List ℕ → List ℕ
first c bs = slice_index_or (split c bs) 0 []

-- the lines of a text: the last has no line feed; and the fields of a line
abbrev pub lines : List ℕ → List (List ℕ)
lines text = split 10 text

abbrev pub fields : List ℕ → List (List ℕ)
fields line = split 9 line

-- where a piece starts, from the start of the first
abbrev pub start : ℕ → List (List ℕ) → ℕ
start zero ps = 0
start (suc i) [] = 0
start (suc i) (p ∷ ps) = length p + 1 + start i ps
