-- One more turn of a walk over words, edges or codes. Assumes nothing.
use Rattle.std.proofs.Common.{◌≡◌, ℕ, zero, suc, pred, ◌+◌, ◌-◌, ◌*◌, ◌<◌, ◌≤◌, min, Bool, true, false, cond, ◌&&◌, ltb, leb, ◌≢◌, ◌⊎◌, List, [], ◌∷◌, length, get_or, take, drop, set, sym, refl, ap, length-drop, ◌∙◌, subst, ap₂, inl, inr, add-one, arith, get_or-set_other, get_or-set_same}
use Rattle.std.specs.List.{fold, list_all, range_with_len}
use Rattle.std.proofs.Math.Bool.{and_assoc, and_comm}
use Rattle.std.proofs.lemmas.Nat.{mul-le}
use Rattle.std.proofs.lemmas.List.Edits.{length-between}
use Rattle.std.proofs.lemmas.List.{get_or-take, get_or-drop, length-take-le}
use Rattle.std.proofs.lemmas.Bool.{cases_eq, and_from, and_left, and_right}
use Rattle.tree.specs.Over.{over, count, every, least_to, lowest_to}
use Rattle.tree.proofs.Words.{lowest_low}
use Rattle.frame.specs.Blocks.{block}
use Rattle.frame.specs.Words.{Written}

-- a block that is in range ends in range
pub block_room : (j n q len : ℕ) → j < n → n * q ≤ len → j * q + q ≤ len
block_room j n q len h k = omega (arith, mul-le (suc j) q n q h (omega arith))

-- ---- tests of all
pub every_all : (n : ℕ) (test : ℕ → Bool) → ((x : ℕ) → x < n → test x ≡ true) → every n test ≡ true
unfolding every
every_all zero test h = refl
every_all (suc n) test h = and_from (test n) (every n test) (h n (omega arith)) (every_all n test (λ x l. h x (omega arith)))

pub every_not : (n : ℕ) (test : ℕ → Bool) (x : ℕ) → x < n → test x ≡ false → every n test ≡ false
unfolding every
every_not zero test x h e = absurd (let z : ⊥ = omega arith in z)
every_not (suc n) test x h e = go (λ l. every_not n test x l e) (cases_eq x n)
  where
    go : (x < n → every n test ≡ false) → (x ≡ n) ⊎ (x ≡ n → ⊥) → (test n && every n test) ≡ false
    go ih (inl z) = and_left (test n) (every n test) (ap test (sym z) ∙ e)
    go ih (inr ne) = and_right (test n) (every n test) (ih (less ne))
      where
        less : (x ≡ n → ⊥) → x < n
        less ne = let d : x ≢ n = ne in omega arith

every_step : (n : ℕ) (f g : ℕ → Bool) → ((x : ℕ) → x < n → f x ≡ g x) → every n f ≡ every n g
unfolding every
every_step zero f g h = refl
every_step (suc n) f g h = ap₂ ◌&&◌ (h n (omega arith)) (every_step n f g (λ x l. h x (omega arith)))

pub every_same : (n m : ℕ) (f g : ℕ → Bool) → n ≡ m → ((x : ℕ) → x < n → f x ≡ g x) → every n f ≡ every m g
every_same n m f g e h = every_step n f g h ∙ ap (λ k. every k g) e

-- all of n parts of q are all of the n * q
every_more : (m q : ℕ) (test : ℕ → Bool) → every (m + q) test ≡ (every q (λ a. test (m + a)) && every m test)
unfolding every
every_more m zero test = ap (λ k. every k test) (let z : m + 0 ≡ m = omega arith in z)
every_more m (suc q) test =
    ap (λ k. every k test) (let z : m + suc q ≡ suc (m + q) = omega arith in z)
    ∙ ap (λ b. test (m + q) && b) (every_more m q test) ∙ sym (and_assoc (test (m + q)) (every q (λ a. test (m + a))) (every m test))

pub all_every : (test : ℕ → Bool) (v : List ℕ) → list_all test v ≡ every (length v) (λ a. test (get_or v a 0))
unfolding every
all_every test [] = refl
all_every test (x ∷ xs) =
    let n = length xs in
    let f : ℕ → Bool = λ a. test (get_or (x ∷ xs) a 0) in
    ap (λ b. test x && b) (all_every test xs) ∙ and_comm (test x) (every n (λ a. test (get_or xs a 0)))
    ∙ ap₂ ◌&&◌ (every_same n n _ (λ a. f (1 + a)) refl (λ a l. ap f (let z : suc a ≡ 1 + a = omega arith in z))) (sym (and_true (test x)))
    ∙ sym (every_more 1 n f) ∙ ap (λ k. every k f) (let z : 1 + n ≡ suc n = omega arith in z)
  where
    and_true : (b : Bool) → (b && true) ≡ b
    and_true true = refl
    and_true false = refl

-- what holds of a block's words
pub low_block : (area : List ℕ) (q j top : ℕ) → j * q + q ≤ length area → list_all (λ x. leb x top) (block q j area) ≡ every q (λ a. leb (get_or area (j * q + a) 0) top)
unfolding block
low_block area q j top h =
    let l : length (take q (drop (j * q) area)) ≡ q = length-take-le q (drop (j * q) area) (omega (arith, length-drop (j * q) area)) in
    all_every (λ x. leb x top) (take q (drop (j * q) area))
    ∙ every_same _ q _ _ l (λ a k. ap (λ x. leb x top) (get_or-take q (drop (j * q) area) a 0 (omega (arith, l)) ∙ get_or-drop (j * q) area a 0))

-- `all` over the n numbers from s on
pub all_from : (p : ℕ → Bool) (s n : ℕ) → list_all p (range_with_len s n) ≡ every n (λ c. p (s + c))
unfolding every
all_from p s zero = refl
all_from p s (suc n) =
    let f : ℕ → Bool = λ c. p (s + c) in
    ap (λ b. p s && b) (all_from p (s + 1) n) ∙ and_comm (p s) (every n (λ c. p (s + 1 + c)))
    ∙ ap₂ ◌&&◌ (every_same n n _ (λ c. f (1 + c)) refl (λ c l. ap p (let z : s + 1 + c ≡ s + (1 + c) = omega arith in z))) (ap p (let z : s ≡ s + 0 = omega arith in z) ∙ sym (and_true (p (s + 0))))
    ∙ sym (every_more 1 n f) ∙ ap (λ k. every k f) (let z : 1 + n ≡ suc n = omega arith in z)
  where
    and_true : (b : Bool) → (b && true) ≡ b
    and_true true = refl
    and_true false = refl

-- ---- the lowest place of the least
pub lowest_next : (a : ℕ) (f : ℕ → ℕ) (best : ℕ) → best ≡ lowest_to (pred a) f → cond (ltb (f a) (f best)) a best ≡ lowest_to (pred (a + 1)) f
unfolding lowest_to
lowest_next zero f best e = ap (λ b. cond (ltb (f 0) (f b)) 0 b) e ∙ either (ltb (f 0) (f 0)) 0
  where
    either : (b : Bool) (x : ℕ) → cond b x x ≡ x
    either true x = refl
    either false x = refl
lowest_next (suc a) f best e = ap (λ b. cond (ltb (f (suc a)) (f b)) (suc a) b) e ∙ ap (λ n. lowest_to n f) (let s : suc a ≡ pred (suc a + 1) = omega arith in s)

pub nearer_low : (b : Bool) (a best n : ℕ) → a < n → best < n → cond b a best < n
nearer_low true a best n h k = h
nearer_low false a best n h k = k

lowest_step : (n : ℕ) (f g : ℕ → ℕ) → ((x : ℕ) → x ≤ n → f x ≡ g x) → lowest_to n f ≡ lowest_to n g
unfolding lowest_to
lowest_step zero f g h = refl
lowest_step (suc n) f g h = go (lowest_step n f g (λ x l. h x (omega arith)))
  where
    go : lowest_to n f ≡ lowest_to n g → cond (ltb (f (suc n)) (f (lowest_to n f))) (suc n) (lowest_to n f) ≡ cond (ltb (g (suc n)) (g (lowest_to n g))) (suc n) (lowest_to n g)
    go ih =
        let low = lowest_low n f in
        let a : f (suc n) ≡ g (suc n) = h (suc n) (omega arith) in
        let b : f (lowest_to n f) ≡ g (lowest_to n g) = h (lowest_to n f) (omega arith) ∙ ap g ih in
        λ i. cond (ltb (a i) (b i)) (suc n) (ih i)

pub lowest_same : (n m : ℕ) (f g : ℕ → ℕ) → n ≡ m → ((x : ℕ) → x ≤ n → f x ≡ g x) → lowest_to n f ≡ lowest_to m g
lowest_same n m f g e h = lowest_step n f g h ∙ ap (λ k. lowest_to k g) e

pub part_lowest : (area : List ℕ) (at q : ℕ) → at + q ≤ length area → 1 ≤ q →
    lowest_to (pred (length (take (at + q - at) (drop at area)))) (λ a. get_or (take (at + q - at) (drop at area)) a 0) ≡ lowest_to (pred q) (λ a. get_or area (at + a) 0)
part_lowest area at q h one =
    let z : at + q - at ≡ q = omega arith in
    let l : length (take (at + q - at) (drop at area)) ≡ q = length-between area at (at + q) h ∙ z in
    lowest_same _ (pred q) _ _ (ap pred l) (λ a k. get_or-take (at + q - at) (drop at area) a 0 (omega arith) ∙ get_or-drop at area a 0)

-- of a block's words
pub block_lowest : (area v : List ℕ) (q j : ℕ) → v ≡ block q j area → length v ≡ q → 1 ≤ q → lowest_to (pred (length v)) (λ a. get_or v a 0) ≡ lowest_to (pred q) (λ a. get_or area (j * q + a) 0)
unfolding block
block_lowest area v q j e l one = lowest_same _ (pred q) _ _ (ap pred l) (λ a k. ap (λ x. get_or x a 0) e ∙ get_or-take q (drop (j * q) area) a 0 (omega arith) ∙ get_or-drop (j * q) area a 0)

-- what holds below i, and is written at i
pub set_below : (i v : ℕ) (xs : List ℕ) (f : ℕ → ℕ) → i < length xs → ((k : ℕ) → k < i → get_or xs k 0 ≡ f k) → v ≡ f i → (k : ℕ) → k < i + 1 → get_or (set xs i v) k 0 ≡ f k
set_below i v xs f h below e k l = go (cases_eq k i)
  where
    go : (k ≡ i) ⊎ (k ≡ i → ⊥) → get_or (set xs i v) k 0 ≡ f k
    go (inl z) = subst (λ m. get_or (set xs i v) m 0 ≡ f m) (sym z) (rw get_or-set_same e)
    go (inr d) = let ne : k ≢ i = d in rw get_or-set_other (below k (omega arith))

-- words written one after another
pub written_none : (from : ℕ) (f : ℕ → ℕ) (before : List ℕ) → Written from (from + 0) f before before
written_none from f before = record { there = λ k h. absurd (let z : ⊥ = omega arith in z); kept = λ k h. refl }

pub written_more : (from n v : ℕ) (f : ℕ → ℕ) (before area : List ℕ) → Written from (from + n) f before area → from + n < length area → v ≡ f n → Written from (from + (n + 1)) f before (set area (from + n) v)
written_more from n v f before area B h e = record { there = there; kept = kept }
  where
    there : (k : ℕ) → from + k < from + (n + 1) → get_or (set area (from + n) v) (from + k) 0 ≡ f k
    there k l = go (cases_eq k n)
      where
        go : (k ≡ n) ⊎ (k ≡ n → ⊥) → get_or (set area (from + n) v) (from + k) 0 ≡ f k
        go (inl z) = subst (λ m. get_or (set area (from + n) v) (from + m) 0 ≡ f m) (sym z) (rw get_or-set_same e)
        go (inr d) = let ne : k ≢ n = d in let m : from + k ≢ from + n = omega arith in rw get_or-set_other (B.there k (omega arith))

    kept : (k : ℕ) → (k < from) ⊎ (from + (n + 1) ≤ k) → get_or (set area (from + n) v) k 0 ≡ get_or before k 0
    kept k (inl l) = let m : k ≢ from + n = omega arith in rw get_or-set_other (B.kept k (inl l))
    kept k (inr l) = let m : k ≢ from + n = omega arith in rw get_or-set_other (B.kept k (inr (omega arith)))

-- ---- folds
pub over_yes : (op : ℕ → ℕ → ℕ) (u n : ℕ) (test : ℕ → Bool) (f : ℕ → ℕ) → test n ≡ true → over op u (n + 1) test f ≡ op (f n) (over op u n test f)
unfolding over
over_yes op u n test f e = rw (add-one n, e)

pub over_rest : (op : ℕ → ℕ → ℕ) (u n m : ℕ) (test : ℕ → Bool) (f : ℕ → ℕ) → ((x : ℕ) → n ≤ x → x < n + m → test x ≡ false) → over op u (n + m) test f ≡ over op u n test f
unfolding over
over_rest op u n zero test f h = ap (λ k. over op u k test f) (let z : n + 0 ≡ n = omega arith in z)
over_rest op u n (suc m) test f h =
    let z : n + suc m ≡ suc (n + m) = omega arith in
    ap (λ k. over op u k test f) z ∙ ap (λ b. cond b (op (f (n + m)) (over op u (n + m) test f)) (over op u (n + m) test f)) (h (n + m) (omega arith) (omega arith))
    ∙ over_rest op u n m test f (λ x k l. h x k (omega arith))

pub count_next : (n : ℕ) (test : ℕ → Bool) → count n test + cond (test n) 1 0 ≡ count (n + 1) test
unfolding over
count_next n test = go (test n) refl
  where
    go : (b : Bool) → test n ≡ b → count n test + cond b 1 0 ≡ count (n + 1) test
    go true e = rw (add-one n, e) (omega arith)
    go false e = rw (add-one n, e) (omega arith)

pub one_low : (b : Bool) → cond b 1 0 ≤ 1
one_low true = omega arith
one_low false = omega arith

-- ---- the least of a list
least_head : (n : ℕ) (f : ℕ → ℕ) → least_to (suc n) f ≡ min (f 0) (least_to n (λ a. f (suc a)))
unfolding least_to
least_head zero f = refl
least_head (suc n) f = ap (λ k. min k (f (suc (suc n)))) (least_head n f) ∙ omega arith

least_below : (n : ℕ) (f : ℕ → ℕ) → least_to n f ≤ f 0
unfolding least_to
least_below zero f = omega arith
least_below (suc n) f = omega (arith, least_below n f)

fold_min : (m x : ℕ) (xs : List ℕ) → fold min m (x ∷ xs) ≡ min m (least_to (length xs) (λ a. get_or (x ∷ xs) a 0))
unfolding least_to
fold_min m x [] = refl
fold_min m x (y ∷ ys) = fold_min (min m x) y ys ∙ omega (arith, least_head (length ys) (λ a. get_or (x ∷ y ∷ ys) a 0))

pub least_of : (v : List ℕ) → 1 ≤ length v → fold min (get_or v 0 0) v ≡ least_to (pred (length v)) (λ a. get_or v a 0)
least_of [] l = absurd (let z : ⊥ = omega arith in z)
least_of (x ∷ xs) l = fold_min x x xs ∙ omega (arith, least_below (length xs) (λ a. get_or (x ∷ xs) a 0))
