-- Searches through all words of n codes below q. Assumes nothing.
use Rattle.std.specs.Prelude.{ℕ, zero, suc, Bool, cond, List, [], ◌∷◌}
use Rattle.field.specs.Every.{some_below}

-- some word of n codes below q passes
abbrev pub some_word : ℕ → ℕ → (List ℕ → Bool) → Bool
some_word q zero p = p []
some_word q (suc n) p = some_below (λ a. some_word q n (λ w. p (a ∷ w))) q

-- the least of the n numbers from i on that passes the test, or i + n
abbrev pub least_from : (ℕ → Bool) → ℕ → ℕ → ℕ
least_from p i zero = i
least_from p i (suc n) = cond (p i) i (least_from p (suc i) n)

-- the first word of n codes below q that passes, if one does
unfoldable pub first_word : ℕ → ℕ → (List ℕ → Bool) → List ℕ
first_word q zero p = []
first_word q (suc n) p =
    let a = least_from (λ x. some_word q n (λ w. p (x ∷ w))) 0 q in
    a ∷ first_word q n (λ w. p (a ∷ w))
