-- Tests over all codes below a number. Assumes nothing.
use Rattle.std.specs.Prelude.{ℕ, zero, suc, Bool, true, false, ◌&&◌, ◌||◌, List, [], ◌∷◌}

-- the test passes at each number below n
abbrev pub every_below : (ℕ → Bool) → ℕ → Bool
every_below p zero = true
every_below p (suc n) = p n && every_below p n

-- the test passes at some number below n
abbrev pub some_below : (ℕ → Bool) → ℕ → Bool
some_below p zero = false
some_below p (suc n) = p n || some_below p n

-- the test passes at each number of a list
abbrev pub every_of : (ℕ → Bool) → List ℕ → Bool
every_of p [] = true
every_of p (x ∷ xs) = p x && every_of p xs
