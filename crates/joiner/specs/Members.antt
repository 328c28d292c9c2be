-- What stands in a list, and the least of some numbers. Assumes nothing.
use Rattle.std.specs.Prelude.{◌≡◌, ℕ, zero, suc, ◌+◌, ◌-◌, ◌<◌, ◌≤◌, min, Bool, true, false, cond, ◌⊎◌, List, [], ◌∷◌, ◌++◌, map, length, All, filter, ◌≢◌, refl}
use Rattle.std.proofs.Common.{sym, ap, subst, ◌∙◌, inl, inr, arith}
use Rattle.std.specs.List.{range_with_len, flat_map as concatenated}
use Rattle.std.proofs.lemmas.List.Elements.{All-append, All-cons, All-head, All-nil, All-tail}
use Rattle.std.proofs.lemmas.Bool.{cases_lt, cases_eq}
use Rattle.joiner.specs.Joined.{least_of, least}

abbrev pub In : {X : Type 0} → List X → X → Type 0
In [] x = ⊥
In (y ∷ ys) x = (y ≡ x) ⊎ In ys x

pub in_left : {X : Type 0} (xs ys : List X) (x : X) → In xs x → In (xs ++ ys) x
in_left [] ys x h = absurd h
in_left (y ∷ xs) ys x (inl e) = inl e
in_left (y ∷ xs) ys x (inr h) = inr (in_left xs ys x h)

pub in_right : {X : Type 0} (xs ys : List X) (x : X) → In ys x → In (xs ++ ys) x
in_right [] ys x h = h
in_right (y ∷ xs) ys x h = inr (in_right xs ys x h)

pub in_map : {X Y : Type 0} (f : X → Y) (xs : List X) (x : X) → In xs x → In (map f xs) (f x)
in_map f [] x h = absurd h
in_map f (y ∷ xs) x (inl e) = inl (ap f e)
in_map f (y ∷ xs) x (inr h) = inr (in_map f xs x h)

pub in_kept : {X : Type 0} (p : X → Bool) (xs : List X) (x : X) → p x ≡ true → In xs x → In (filter p xs) x
in_kept p [] x t h = absurd h
in_kept p (y ∷ xs) x t h = go (p y) refl h (in_kept p xs x t)
  where
    go : (v : Bool) → p y ≡ v → In (y ∷ xs) x → (In xs x → In (filter p xs) x) → In (cond v (y ∷ filter p xs) (filter p xs)) x
    go true e (inl s) rec = inl s
    go true e (inr s) rec = inr (rec s)
    go false e (inl s) rec = absurd (let z : ◌≡◌ {A = Bool} true false = sym t ∙ ap p (sym s) ∙ e in let w : ◌≡◌ {A = ℕ} 0 1 = cc in omega arith)
    go false e (inr s) rec = rec s

pub in_counting : (n i k : ℕ) → i ≤ k → k < i + n → In (range_with_len i n) k
in_counting zero i k lo hi = absurd (let z : ⊥ = omega arith in z)
in_counting (suc n) i k lo hi = go (cases_eq i k) (λ l. in_counting n (i + 1) k l (omega arith))
  where
    go : (i ≡ k) ⊎ (i ≢ k) → (i + 1 ≤ k → In (range_with_len (i + 1) n) k) → In (range_with_len i (suc n)) k
    go (inl e) rec = inl e
    go (inr ne) rec = inr (rec (further (cases_lt i k)))
      where
        further : (i < k) ⊎ (k ≤ i) → i + 1 ≤ k
        further (inl l) = omega arith
        further (inr l) = absurd (ne (let e : i ≡ k = omega arith in e))

pub in_concatenated : {X Y : Type 0} (f : X → List Y) (xs : List X) (x : X) (y : Y) → In xs x → In (f x) y → In (concatenated f xs) y
in_concatenated f [] x y h k = absurd h
in_concatenated f (z ∷ xs) x y (inl e) k = in_left (f z) (concatenated f xs) y (subst (λ w. In (f w) y) (sym e) k)
in_concatenated f (z ∷ xs) x y (inr h) k = in_right (f z) (concatenated f xs) y (in_concatenated f xs x y h k)

pub in_some : {X : Type 0} (xs : List X) (x : X) → In xs x → 0 < length xs
in_some [] x h = absurd h
in_some (y ∷ xs) x h = omega arith

-- ---- what holds of each
pub all_counting : (n i : ℕ) → All (λ k. k < i + n) (range_with_len i n)
all_counting zero i = All-nil (λ k. k < i + 0)
all_counting (suc n) i =
    All-cons (λ k. k < i + suc n) i (range_with_len (i + 1) n) (omega arith)
    (subst (λ m. All (λ k. k < m) (range_with_len (i + 1) n)) (let e : i + 1 + n ≡ i + suc n = omega arith in e) (all_counting n (i + 1)))

pub all_codes : (n : ℕ) → All (λ k. k < n) (range_with_len 0 n)
all_codes n = subst (λ m. All (λ k. k < m) (range_with_len 0 n)) (let e : 0 + n ≡ n = omega arith in e) (all_counting n 0)

-- a function of the codes from i on, one step on and at the end
pub at_counting_more : {Y : Type 0} (F : List ℕ → Y) (n i : ℕ) → i < n → F (range_with_len i (n - i)) ≡ F (i ∷ range_with_len (i + 1) (n - (i + 1)))
at_counting_more F n i h = ap (λ m. F (range_with_len i m)) (let e : n - i ≡ suc (n - (i + 1)) = omega arith in e)

pub at_counting_all : {Y : Type 0} (F : List ℕ → Y) (n i : ℕ) → n ≤ i → F (range_with_len i (n - i)) ≡ F []
at_counting_all F n i h = ap (λ m. F (range_with_len i m)) (let e : n - i ≡ 0 = omega arith in e)

pub all_concatenated : {X Y : Type 0} (P : Y → Type 0) (f : X → List Y) (xs : List X) → All (λ x. All P (f x)) xs → All P (concatenated f xs)
all_concatenated P f [] h = All-nil P
all_concatenated P f (x ∷ xs) h = All-append P (f x) (concatenated f xs) (All-head (λ y. All P (f y)) x xs h) (all_concatenated P f xs (All-tail (λ y. All P (f y)) x xs h))

pub all_kept : {X : Type 0} (p : X → Bool) (P Q : X → Type 0) → ((x : X) → P x → p x ≡ true → Q x) → (xs : List X) → All P xs → All Q (filter p xs)
all_kept p P Q f [] h = All-nil Q
all_kept p P Q f (x ∷ xs) h = go (p x) refl (all_kept p P Q f xs (All-tail P x xs h))
  where
    go : (v : Bool) → p x ≡ v → All Q (filter p xs) → All Q (cond v (x ∷ filter p xs) (filter p xs))
    go true e rec = All-cons Q x (filter p xs) (f x (All-head P x xs h) e) rec
    go false e rec = rec

pub all_in : {X : Type 0} (P : X → Type 0) (xs : List X) → ((x : X) → In xs x → P x) → All P xs
all_in P [] h = All-nil P
all_in P (x ∷ xs) h = All-cons P x xs (h x (inl refl)) (all_in P xs (λ y k. h y (inr k)))

-- ---- the least
min_is : (P : ℕ → Type 0) (x y : ℕ) → P x → P y → P (min x y)
min_is P x y hx hy = go (cases_lt x y)
  where
    go : (x < y) ⊎ (y ≤ x) → P (min x y)
    go (inl l) = subst P (let e : x ≡ min x y = omega arith in e) hx
    go (inr l) = subst P (let e : y ≡ min x y = omega arith in e) hy

least_of_is : (P : ℕ → Type 0) (x : ℕ) (xs : List ℕ) → P x → All P xs → P (least_of x xs)
unfolding least_of
least_of_is P x [] h k = h
least_of_is P x (y ∷ ys) h k = min_is P x (least_of y ys) h (least_of_is P y ys (All-head P y ys k) (All-tail P y ys k))

least_of_under : (x : ℕ) (xs : List ℕ) (v : ℕ) → (x ≡ v) ⊎ In xs v → least_of x xs ≤ v
unfolding least_of
least_of_under x [] v (inl e) = omega arith
least_of_under x [] v (inr h) = absurd h
least_of_under x (y ∷ ys) v (inl e) = omega arith
least_of_under x (y ∷ ys) v (inr h) = omega (arith, least_of_under y ys v h)

-- it is one of them
pub least_is : (P : ℕ → Type 0) (xs : List ℕ) → 0 < length xs → All P xs → P (least xs)
unfolding least
least_is P [] some h = absurd (let z : ⊥ = omega arith in z)
least_is P (x ∷ xs) some h = least_of_is P x xs (All-head P x xs h) (All-tail P x xs h)

-- and none is below it
pub least_under : (xs : List ℕ) (v : ℕ) → In xs v → least xs ≤ v
unfolding least
least_under [] v h = absurd h
least_under (x ∷ xs) v h = least_of_under x xs v h
