-- From std's words for searches to the first number, place or neighbours that fail a test.
use Rattle.std.proofs.Common.{◌≡◌, ℕ, zero, suc, ◌+◌, ◌-◌, ◌<◌, ◌≤◌, Bool, true, false, not, cond, ◌||◌, List, [], ◌∷◌, length, get_or, Some, None, Option, sym, refl, ap, ◌∙◌, subst, inl, inr, arith}
use Rattle.std.proofs.lemmas.Bool.{cases_eq}
use Rattle.std.proofs.lemmas.Iterator.Adapters.{position_from-zero}
use Rattle.std.specs.List.{list_any, position, position_from}
use Rattle.std.specs.Option.{MatchOption, IfSome, is_some}
use Rattle.code.specs.Admission.{any, at, after, first, first_bad}

pub any_list : {A : Type 0} (t : A → Bool) (xs : List A) → list_any t xs ≡ any t xs
any_list t [] = refl
any_list t (x ∷ xs) = ap (λ b. t x || b) (any_list t xs)

found : (b : Bool) (k : ℕ) (o : Option ℕ) (r : Bool) → is_some o ≡ r → is_some (cond b (Some k) o) ≡ (b || r)
found true k o r e = refl
found false k o r e = e

some_place : {A : Type 0} (t : A → Bool) (k : ℕ) (xs : List A) → is_some (position_from t k xs) ≡ any t xs
some_place t k [] = refl
some_place t k (x ∷ xs) = found (t x) k _ _ (some_place t (k + 1) xs)

pub any_position : {A : Type 0} (t : A → Bool) (xs : List A) → is_some (position t xs) ≡ any t xs
any_position t xs = ap is_some (position_from-zero t xs) ∙ some_place t 0 xs

-- what is known of the answer of a search of the numbers from `low` on, below `end`
abbrev pub Found : (ℕ → Bool) → ℕ → ℕ → Option ℕ → Type 0
Found t low end o = MatchOption o ((i : ℕ) → low ≤ i → i < end → t i ≡ true) (λ i. (low ≤ i) × (i < end) × (t i ≡ false) × ((j : ℕ) → low ≤ j → j < i → t j ≡ true))

passes : (t : ℕ → Bool) (k n : ℕ) → t k ≡ true → first t k (suc n) ≡ first t (k + 1) n
passes t k n e = ap (λ b. cond b (first t (k + 1) n) (Some k)) e

found_none : (t : ℕ → Bool) (k n : ℕ) → ((i : ℕ) → k ≤ i → i < k + n → t i ≡ true) → None ≡ first t k n
found_none t k zero h = refl
found_none t k (suc n) h =
    found_none t (k + 1) n (λ i l u. h i (omega arith) (omega arith)) ∙ sym (passes t k n (h k (omega arith) (omega arith)))

found_some : (t : ℕ → Bool) (k n i : ℕ) → k ≤ i → i < k + n → t i ≡ false → ((j : ℕ) → k ≤ j → j < i → t j ≡ true) → Some i ≡ first t k n
found_some t k zero i l u e h = absurd (omega arith)
found_some t k (suc n) i l u e h =
    elim (cases_eq i k) [
      | inl same ↦ ap Some same ∙ sym (ap (λ b. cond b (first t (k + 1) n) (Some k)) (subst (λ v. t v ≡ false) same e))
      | inr ne ↦ found_some t (k + 1) n i (omega arith) (omega arith) e (λ j low lt. h j (omega arith) lt) ∙ sym (passes t k n (h k (omega arith) (omega arith)))
    ]

pub found_first : (t : ℕ → Bool) (low end n : ℕ) (o : Option ℕ) → n ≡ end - low → Found t low end o → o ≡ first t low n
found_first t low end n None e h = found_none t low n (λ i l u. h i l (omega arith))
found_first t low end n (Some i) e h = found_some t low n i h.0 (let l = h.0 in let u = h.1 in omega arith) h.2 h.3

-- what is found lies where it was looked for
pub found_within : (t : ℕ → Bool) (low end : ℕ) (o : Option ℕ) → Found t low end o → IfSome o (λ i. i < end)
found_within t low end None h = tt
found_within t low end (Some i) h = h.1

-- the first place whose element fails the test
step : (b : Bool) (k : ℕ) (o q : Option ℕ) → o ≡ q → cond (not b) (Some k) o ≡ cond b q (Some k)
step true k o q e = e
step false k o q e = refl

places : {A : Type 0} (t : A → Bool) (xs : List A) (g : ℕ → Bool) (k : ℕ) → ((j : ℕ) → at t xs j ≡ g (k + j)) → position_from (λ x. not (t x)) k xs ≡ first g k (length xs)
places t [] g k h = refl
places t (x ∷ xs) g k h =
    step (t x) k _ _ (places t xs g (k + 1) (λ j. h (suc j) ∙ ap g (omega arith))) ∙ ap (λ b. cond b (first g (k + 1) (length xs)) (Some k)) (h 0 ∙ ap g (omega arith))

pub position_bad : {A : Type 0} (t : A → Bool) (xs : List A) → position (λ x. not (t x)) xs ≡ first_bad t xs
position_bad t xs = position_from-zero (λ x. not (t x)) xs ∙ places t xs (at t xs) 0 (λ j. ap (at t xs) (omega arith))

-- what stands at k, as the test of a list reads it
pub at_here : {A : Type 0} (t : A → Bool) (xs : List A) (k : ℕ) (d : A) → k < length xs → at t xs k ≡ t (get_or xs k d)
at_here t [] k d h = absurd (omega arith)
at_here t (x ∷ xs) zero d h = refl
at_here t (x ∷ xs) (suc k) d h = at_here t xs k d (omega arith)

pub after_here : {A : Type 0} (t : A → A → Bool) (xs : List A) (k : ℕ) (a b : A) → k < length xs → a ≡ get_or xs (k - 1) a → b ≡ get_or xs k b → t a b ≡ after t xs k
after_here t xs k a b lt p q =
    ap (λ v. t v b) p ∙ ap (λ v. t (get_or xs (k - 1) a) v) q ∙ sym (at_here (λ y. at (λ x. t x y) xs (k - 1)) xs k b lt ∙ at_here (λ x. t x (get_or xs k b)) xs (k - 1) a (omega arith))
