-- What is left of a text that is cut at a byte, and what one step gives. Assumes nothing.
use Rattle.std.specs.Prelude.{◌≡◌, ℕ, List, [], ◌∷◌, Some, None, Option}
use Rattle.std.specs.Borrow.{Bor}
use Rattle.sheet.specs.Pieces.{split}
use Rattle.notation.specs.declared.pieces.Parts.{Parts}

-- the pieces that are to come: none at the end, else those of the rest
abbrev pub to_come : ℕ → Option (Bor (List ℕ)) → List (List ℕ)
to_come c None = []
to_come c (Some rest) = split c rest.now

abbrev pub pieces_of : Parts → List (List ℕ)
pieces_of s = to_come s.stop s.rest

-- a step takes the first piece, and tells the end where there is none
abbrev pub Gives : List (List ℕ) → Option (Bor (List ℕ)) → List (List ℕ) → Type 0
Gives before None after = (before ≡ []) × (after ≡ [])
Gives before (Some piece) after = before ≡ piece.now ∷ after

-- what the first piece says, and no value where there is none
abbrev pub FirstReads : {A : Type 0} → (List ℕ → Option A → Type 0) → List (List ℕ) → Option A → Type 0
FirstReads reads [] r = r ≡ None
FirstReads reads (p ∷ ps) r = reads p r
