-- What iterators test and count, in the words of the specs. Assumes nothing.
use Rattle.std.proofs.Common.{◌≡◌, ℕ, zero, suc, ◌+◌, ◌≤◌, Bool, eqb, Some, None, Option, true, false, cond, ◌&&◌, ◌||◌, List, [], ◌∷◌, ◌++◌, length, get_or, take, drop, Bor, ◌<◌, drop-cons, MatchOption, subst, sym, refl, ap, ◌∙◌, ap₂, add-zero, add-one, length-append, arith}
use Rattle.std.specs.Option.{IsSome}
use Rattle.std.specs.List.{list_all, list_any, filter, range_with_len}
use Rattle.std.proofs.lemmas.List.{take_all}
use Rattle.std.proofs.lemmas.List.Elements.{filter-append}
use Rattle.std.proofs.lemmas.List.Folds.{list_any-append, list_any_more, list_all_more}
use Rattle.field.specs.Every.{every_below, some_below}
use Rattle.linear.specs.Count.{count}
use Rattle.linear.specs.Filling.{owns, owned_by}

range_last : (a n : ℕ) → range_with_len a (suc n) ≡ range_with_len a n ++ ((a + n) ∷ [])
range_last a zero = ap (λ (x : ℕ). x ∷ []) (sym (add-zero a))
range_last a (suc n) =
    let e : (a + 1) + n ≡ a + suc n = omega arith in
    ap (λ (xs : List ℕ). a ∷ xs) (range_last (a + 1) n ∙ ap (λ (x : ℕ). range_with_len (a + 1) n ++ (x ∷ [])) e)

or_turned : (b c : Bool) → b || c ≡ c || b
or_turned true true = refl
or_turned true false = refl
or_turned false true = refl
or_turned false false = refl

or_false : (b : Bool) → b || false ≡ b
or_false true = refl
or_false false = refl

and_turned : (b c : Bool) → b && c ≡ c && b
and_turned true true = refl
and_turned true false = refl
and_turned false true = refl
and_turned false false = refl

-- `any` over the numbers below n
pub some_in_range : (p : ℕ → Bool) (n : ℕ) → list_any p (range_with_len 0 n) ≡ some_below p n
some_in_range p zero = refl
some_in_range p (suc n) =
    ap (list_any p) (range_last 0 n) ∙ list_any-append p (range_with_len 0 n) ((0 + n) ∷ [])
    ∙ ap₂ ◌||◌ (some_in_range p n) (or_false (p (0 + n)) ∙ ap p (omega arith)) ∙ or_turned (some_below p n) (p n)

-- `filter` and `count` over the numbers below n
pub count_in_range : (p : ℕ → Bool) (n : ℕ) → length (filter p (range_with_len 0 n)) ≡ count n p
unfolding count
count_in_range p zero = refl
count_in_range p (suc n) =
    ap (λ (xs : List ℕ). length (filter p xs)) (range_last 0 n) ∙ ap length (filter-append p (range_with_len 0 n) ((0 + n) ∷ []))
    ∙ length-append (filter p (range_with_len 0 n)) (filter p ((0 + n) ∷ [])) ∙ one (count_in_range p n)
  where
    tail : (b : Bool) (x k c : ℕ) → k ≡ c → k + length (cond b (x ∷ []) []) ≡ cond b (suc c) c
    tail true x k c e = omega arith
    tail false x k c e = omega arith

    one : length (filter p (range_with_len 0 n)) ≡ count n p → length (filter p (range_with_len 0 n)) + length (filter p ((0 + n) ∷ [])) ≡ cond (p n) (suc (count n p)) (count n p)
    one e = let z : 0 + n ≡ n = omega arith in ap (λ (x : ℕ). length (filter p (range_with_len 0 n)) + length (filter p (x ∷ []))) z ∙ tail (p n) n _ _ e

module _ {X : Type 0} (p : X → Bool) (xs : List X) (d : X) where
  some_to : (n : ℕ) → n ≤ length xs → list_any p (take n xs) ≡ some_below (λ i. p (get_or xs i d)) n
  some_to zero h = refl
  some_to (suc n) h =
      ap (λ (k : ℕ). list_any p (take k xs)) (sym (add-one n)) ∙ list_any_more p xs n d (omega arith)
      ∙ ap (λ (b : Bool). b || p (get_or xs n d)) (some_to n (omega arith)) ∙ or_turned (some_below (λ i. p (get_or xs i d)) n) (p (get_or xs n d))

  -- `any` and `contains` over a list, by index
  pub some_in_list : list_any p xs ≡ some_below (λ i. p (get_or xs i d)) (length xs)
  some_in_list = ap (list_any p) (sym (take_all (length xs) xs (omega arith))) ∙ some_to (length xs) (omega arith)

  every_to : (n : ℕ) → n ≤ length xs → list_all p (take n xs) ≡ every_below (λ i. p (get_or xs i d)) n
  every_to zero h = refl
  every_to (suc n) h =
      ap (λ (k : ℕ). list_all p (take k xs)) (sym (add-one n)) ∙ list_all_more p xs n d (omega arith)
      ∙ ap (λ (b : Bool). b && p (get_or xs n d)) (every_to n (omega arith)) ∙ and_turned (every_below (λ i. p (get_or xs i d)) n) (p (get_or xs n d))

  -- `all` over a list, by index
  pub every_in_list : list_all p xs ≡ every_below (λ i. p (get_or xs i d)) (length xs)
  every_in_list = ap (list_all p) (sym (take_all (length xs) xs (omega arith))) ∙ every_to (length xs) (omega arith)

pub some_same : (p q : ℕ → Bool) → ((x : ℕ) → p x ≡ q x) → (n : ℕ) → some_below p n ≡ some_below q n
some_same p q h zero = refl
some_same p q h (suc n) = ap₂ ◌||◌ (h n) (some_same p q h n)

-- whether some owner is the column, where the test tells that
pub some_owner : (q : Option ℕ → Bool) (owner : List (Option ℕ)) (c : ℕ) → q None ≡ false → ((x : ℕ) → q (Some x) ≡ eqb x c) → list_any q owner ≡ owned_by owner (length owner) c
unfolding owned_by
some_owner q owner c none some = some_in_list q owner None ∙ some_same (λ r. q (get_or owner r None)) (λ r. owns (get_or owner r None) c) (λ r. at (get_or owner r None)) (length owner)
  where
    at : (o : Option ℕ) → q o ≡ owns o c
    at None = none
    at (Some x) = some x

-- `next` on what is left of a list, which is not empty
pub next_stands : (xs ys s : List ℕ) (k : ℕ) (r : Option (Bor ℕ)) (P : Type 0) → xs ≡ drop k s → k < length s → MatchOption r ((length xs ≡ 0) × P) (λ x. xs ≡ x.now ∷ ys) → IsSome r
next_stands xs ys s k None P e h m = absurd (let z = ap length (sym (drop-cons s k 0 h) ∙ sym e) in let y = m.0 in omega arith)
next_stands xs ys s k (Some x) P e h m = refl

pub next_is : (xs ys s : List ℕ) (k : ℕ) (r : Option (Bor ℕ)) (P : Type 0) → xs ≡ drop k s → MatchOption r ((length xs ≡ 0) × P) (λ x. xs ≡ x.now ∷ ys) → k < length s → (x : Bor ℕ) → r ≡ Some x →
    (ys ≡ drop (suc k) s) × (x.now ≡ get_or s k 0)
next_is xs ys s k r P e m h x w =
    let f : xs ≡ x.now ∷ ys = subst (λ (o : Option (Bor ℕ)). MatchOption o ((length xs ≡ 0) × P) (λ y. xs ≡ y.now ∷ ys)) w m in
    let c = drop-cons s k 0 h in (cc, cc)
