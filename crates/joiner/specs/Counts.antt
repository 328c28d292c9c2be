-- Counting: codes that pass a test, entries by cost, and the level. Assumes nothing.
use Rattle.std.specs.Prelude.{◌≡◌, ℕ, zero, suc, ◌+◌, ◌-◌, ◌<◌, ◌≤◌, Bool, true, false, cond, ◌||◌, leb, ◌≢◌, ◌⊎◌, List, [], ◌∷◌, ◌++◌, length, take, All, ◌==◌, nat_eq, nat_le, slice_index, slice_index_or, slice_set}
use Rattle.std.proofs.Math.Path.{refl, sym, ap}
use Rattle.std.proofs.Common.{ap₂, subst, ◌∙◌, add-one}
use Rattle.std.proofs.Math.Logic.{inl, inr}
use native.Mathlib.Omega.{arith}
use Rattle.std.proofs.Math.Nat.{sub-zero}
use Rattle.std.proofs.lemmas.List.Elements.{All-nil, All-push, All-weaker, All-get_or}
use Rattle.std.proofs.lemmas.List.{append-nil, get_or-set_same, get_or-set_other, length_push, take_more_set, take-set}
use Rattle.std.proofs.lemmas.Bool.{cases_eq, eq-eqb, ne_eqb, leb-true, leb-false, cond_both}
use Rattle.joiner.specs.Level.{count, is_chosen, chosen, first_from, level_of, IsLevel}
use Rattle.joiner.specs.Loops.{listed, number, up_to, passes}
use Rattle.joiner.specs.Members.{In, in_left, in_right}

pub count_le : (n : ℕ) (test : ℕ → Bool) → count n test ≤ n
unfolding count
count_le zero test = omega arith
count_le (suc n) test = let ih = count_le n test in cond_both (test n) (1 + count n test) (count n test) (λ x. x ≤ suc n) (λ e. omega arith) (λ e. omega arith)

pub count_none : (test : ℕ → Bool) → count 0 test ≡ 0
unfolding count
count_none test = refl

pub count_yes : (n : ℕ) (test : ℕ → Bool) → test n ≡ true → count (n + 1) test ≡ count n test + 1
unfolding count
count_yes n test e = ap (λ k. count k test) (add-one n) ∙ ap (λ b. cond b (1 + count n test) (count n test)) e ∙ (let z : 1 + count n test ≡ count n test + 1 = omega arith in z)

pub count_no : (n : ℕ) (test : ℕ → Bool) → test n ≡ false → count (n + 1) test ≡ count n test
unfolding count
count_no n test e = ap (λ k. count k test) (add-one n) ∙ ap (λ b. cond b (1 + count n test) (count n test)) e

-- ---- the chosen codes, listed
pub listed_yes : (test : ℕ → Bool) (n : ℕ) → test n ≡ true → listed test (n + 1) ≡ listed test n ++ n ∷ []
unfolding listed
listed_yes test n e = ap (listed test) (add-one n) ∙ ap (λ b. listed test n ++ cond b (n ∷ []) []) e

pub listed_no : (test : ℕ → Bool) (n : ℕ) → test n ≡ false → listed test (n + 1) ≡ listed test n
unfolding listed
listed_no test n e = ap (listed test) (add-one n) ∙ ap (λ b. listed test n ++ cond b (n ∷ []) []) e ∙ append-nil (listed test n)

pub length_listed : (test : ℕ → Bool) (n : ℕ) → length (listed test n) ≡ count n test
unfolding listed count
length_listed test zero = refl
length_listed test (suc n) = go (test n) (length_listed test n)
  where
    go : (v : Bool) → length (listed test n) ≡ count n test → length (listed test n ++ cond v (n ∷ []) []) ≡ cond v (1 + count n test) (count n test)
    go true ih = length_push (listed test n) n ∙ (let z : length (listed test n) + 1 ≡ 1 + count n test = omega arith in z)
    go false ih = ap length (append-nil (listed test n)) ∙ ih

pub all_listed : (test : ℕ → Bool) (n : ℕ) → All (λ a. a < n) (listed test n)
unfolding listed
all_listed test zero = All-nil (λ a. a < 0)
all_listed test (suc n) = go (test n) (All-weaker (λ a. a < n) (λ a. a < suc n) (λ a h. omega arith) (listed test n) (all_listed test n))
  where
    go : (v : Bool) → All (λ a. a < suc n) (listed test n) → All (λ a. a < suc n) (listed test n ++ cond v (n ∷ []) [])
    go true ih = All-push (λ a. a < suc n) (listed test n) n ih (omega arith)
    go false ih = subst (All (λ a. a < suc n)) (sym (append-nil (listed test n))) ih

pub in_listed : (test : ℕ → Bool) (n a : ℕ) → a < n → test a ≡ true → In (listed test n) a
unfolding listed
in_listed test zero a h e = absurd (let z : ⊥ = omega arith in z)
in_listed test (suc n) a h e = go (cases_eq n a) (λ l. in_listed test n a l e)
  where
    go : (n ≡ a) ⊎ (n ≢ a) → (a < n → In (listed test n) a) → In (listed test n ++ cond (test n) (n ∷ []) []) a
    go (inl s) rec = in_right (listed test n) (cond (test n) (n ∷ []) []) a (subst (λ b. In (cond b (n ∷ []) []) a) (sym (ap test s ∙ e)) (inl s))
    go (inr ne) rec = in_left (listed test n) (cond (test n) (n ∷ []) []) a (rec (let d : n ≢ a = ne in omega arith))

-- one code more is written at n; n moves on if it is chosen
module _ (costs : List ℕ) (level : ℕ) (codes : List ℕ) (a n : ℕ) where
  abbrev pub Choosing : List ℕ → ℕ → ℕ → Type 0
  Choosing codes n a = (take n codes ≡ listed (is_chosen costs level) a) × (n ≡ chosen a costs level) × (n ≤ a)

  pub choose_yes : n < length codes → Choosing codes n a → is_chosen costs level a ≡ true → Choosing (slice_set codes n a) (n + 1) (a + 1)
  unfolding chosen
  choose_yes h inv e = (
    take_more_set codes n a h ∙ ap (λ (xs : List ℕ). xs ++ a ∷ []) inv.0 ∙ sym (listed_yes (is_chosen costs level) a e),
    omega (arith, inv.1, count_yes a (is_chosen costs level) e),
    omega (arith, inv.2),
  )

  pub choose_no : Choosing codes n a → is_chosen costs level a ≡ false → Choosing (slice_set codes n a) n (a + 1)
  unfolding chosen
  choose_no inv e =
      (take-set codes n a ∙ inv.0 ∙ sym (listed_no (is_chosen costs level) a e), inv.1 ∙ sym (count_no a (is_chosen costs level) e), omega (arith, inv.2))

-- ---- entries by cost
pub tally_more : (costs before counts : List ℕ) (i k : ℕ) → slice_index costs i < length counts →
    ((k : ℕ) → k < length before → slice_index counts k ≡ slice_index before k + number costs i k) → k < length before →
    slice_index (slice_set counts (slice_index costs i) (slice_index counts (slice_index costs i) + 1)) k ≡ slice_index before k + number costs (i + 1) k
tally_more costs before counts i k h inv l = go (cases_eq (slice_index costs i) k)
  where
    go : (slice_index costs i ≡ k) ⊎ (slice_index costs i ≢ k) → slice_index (slice_set counts (slice_index costs i) (slice_index counts (slice_index costs i) + 1)) k ≡ slice_index before k + number costs (i + 1) k
    go (inl e) =
        let x : ℕ = slice_index_or costs i 0 in
        let new : slice_index_or (slice_set counts x (slice_index counts x + 1)) k 0 ≡ slice_index counts k + 1 =
        ap (λ z. slice_index (slice_set counts x (slice_index counts x + 1)) z) (sym e) ∙ get_or-set_same counts x (slice_index counts x + 1) 0 h ∙ ap (λ z. slice_index counts z + 1) e in
        omega (arith, inv k l, count_yes i (λ a. nat_eq (slice_index costs a) k) (eq-eqb (slice_index costs i) k e))
    go (inr n) =
        let old : slice_index_or (slice_set counts (slice_index costs i) (slice_index counts (slice_index costs i) + 1)) k 0 ≡ slice_index_or counts k 0 = get_or-set_other counts (slice_index costs i) k _ 0 (λ z. n (sym z)) in
        omega (arith, inv k l, count_no i (λ a. nat_eq (slice_index costs a) k) (ne_eqb (slice_index costs i) k n))

pub up_to_more : (counts : List ℕ) (k : ℕ) → up_to counts (k + 1) ≡ up_to counts k + slice_index counts k
unfolding up_to
up_to_more counts k = ap (up_to counts) (add-one k)

next_level : (x k : ℕ) → nat_le x (suc k) ≡ (nat_le x k || x == suc k)
next_level x k = grind arith

not_both : (x k : ℕ) → nat_le x k ≡ true → (x == suc k) ≢ true
not_both x k p q = grind arith

first_level : (x : ℕ) → nat_le x 0 ≡ (x == 0)
first_level x = grind arith

count_same : (n : ℕ) (p r : ℕ → Bool) → ((x : ℕ) → p x ≡ r x) → count n p ≡ count n r
unfolding count
count_same zero p r h = refl
count_same (suc n) p r h = ap₂ (λ b m. cond b (1 + m) m) (h n) (count_same n p r h)

count_split : (n : ℕ) (p r s : ℕ → Bool) → ((x : ℕ) → s x ≡ (p x || r x)) → ((x : ℕ) → p x ≡ true → r x ≢ true) → count n s ≡ count n p + count n r
unfolding count
count_split zero p r s e apart = refl
count_split (suc n) p r s e apart = go (count_split n p r s e apart) (p n) refl (r n) refl (s n) (e n)
  where
    go : count n s ≡ count n p + count n r → (a : Bool) → p n ≡ a → (b : Bool) → r n ≡ b → (c : Bool) → c ≡ (p n || r n) →
        cond c (1 + count n s) (count n s) ≡ cond a (1 + count n p) (count n p) + cond b (1 + count n r) (count n r)
    go ih true ea true eb c ec = absurd (apart n ea eb)
    go ih true ea false eb c ec = ap (λ v. cond v (1 + count n s) (count n s)) (ec ∙ ap (λ v. v || r n) ea) ∙ (let z : 1 + count n s ≡ 1 + count n p + count n r = omega arith in z)
    go ih false ea true eb c ec = ap (λ v. cond v (1 + count n s) (count n s)) (ec ∙ ap₂ ◌||◌ ea eb) ∙ (let z : 1 + count n s ≡ count n p + (1 + count n r) = omega arith in z)
    go ih false ea false eb c ec = ap (λ v. cond v (1 + count n s) (count n s)) (ec ∙ ap₂ ◌||◌ ea eb) ∙ ih

chosen_first : (q : ℕ) (costs : List ℕ) → chosen q costs 0 ≡ number costs q 0
unfolding chosen
chosen_first q costs = count_same q (is_chosen costs 0) (λ a. nat_eq (slice_index costs a) 0) (λ a. first_level (slice_index costs a))

chosen_next : (q : ℕ) (costs : List ℕ) (k : ℕ) → chosen q costs (suc k) ≡ chosen q costs k + number costs q (suc k)
unfolding chosen
chosen_next q costs k =
    count_split q (is_chosen costs k) (λ a. nat_eq (slice_index costs a) (suc k)) (is_chosen costs (suc k)) (λ a. next_level (slice_index costs a) k) (λ a. not_both (slice_index costs a) k)

-- what is counted up to a level is what it chooses
pub up_to_chosen : (q : ℕ) (left right counts : List ℕ) (k : ℕ) → ((x : ℕ) → x ≤ k → slice_index counts x ≡ number left q x + number right q x) → up_to counts (suc k) ≡ chosen q left k + chosen q right k
unfolding up_to
up_to_chosen q l r counts zero e = omega (arith, e 0 (omega arith), chosen_first q l, chosen_first q r)
up_to_chosen q l r counts (suc k) e =
    let ih : up_to counts k + slice_index counts k ≡ chosen q l k + chosen q r k = up_to_chosen q l r counts k (λ x m. e x (omega arith)) in
    omega (arith, e (suc k) (omega arith), chosen_next q l k, chosen_next q r k)

-- ---- the first level that passes
module _ (test : ℕ → Bool) where
  pub first_yes : (k n : ℕ) → 0 < n → test k ≡ true → first_from test k n ≡ k
  unfolding first_from
  first_yes k zero h e = absurd (let z : ⊥ = omega arith in z)
  first_yes k (suc n) h e = rw e

  pub first_no : (k n : ℕ) → 0 < n → test k ≡ false → first_from test k n ≡ first_from test (k + 1) (n - 1)
  unfolding first_from
  first_no k zero h e = absurd (let z : ⊥ = omega arith in z)
  first_no k (suc n) h e = let z : n ≡ suc n - 1 = omega arith in rw e (ap (first_from test (k + 1)) z)

  pub first_all : (k n : ℕ) → n ≡ 0 → first_from test k n ≡ k
  unfolding first_from
  first_all k n e = ap (first_from test k) e

  -- it passes or is the last, and none before it passes
  record First (i n k : ℕ) : Type 0 where
    high : k ≤ i + n
    passed : (k ≡ i + n) ⊎ (test k ≡ true)
    before : (j : ℕ) → i ≤ j → j < k → test j ≡ false

  first_is : (n i : ℕ) → First i n (first_from test i n)
  unfolding first_from
  first_is zero i = record { high = omega arith; passed = inl (omega arith); before = λ j lo hi. absurd (let z : ⊥ = omega arith in z) }
  first_is (suc n) i = go (test i) refl (first_is n (i + 1))
    where
      go : (v : Bool) → test i ≡ v → First (i + 1) n (first_from test (i + 1) n) → First i (suc n) (cond v i (first_from test (i + 1) n))
      go true e F = record { high = omega arith; passed = inr e; before = λ j lo hi. absurd (let z : ⊥ = omega arith in z) }
      go false e F = record { high = omega (arith, F.high); passed = ends F.passed; before = λ j lo hi. from j lo hi (cases_eq i j) }
        where
          ends : (first_from test (i + 1) n ≡ i + 1 + n) ⊎ (test (first_from test (i + 1) n) ≡ true) → (first_from test (i + 1) n ≡ i + suc n) ⊎ (test (first_from test (i + 1) n) ≡ true)
          ends (inl s) = inl (omega arith)
          ends (inr s) = inr s

          from : (j : ℕ) → i ≤ j → j < first_from test (i + 1) n → (i ≡ j) ⊎ (i ≢ j) → test j ≡ false
          from j lo hi (inl s) = ap test (sym s) ∙ e
          from j lo hi (inr d) = F.before j (let ne : i ≢ j = d in omega arith) hi

pub first_same : (test other : ℕ → Bool) (n i : ℕ) → ((k : ℕ) → i ≤ k → k < i + n → test k ≡ other k) → first_from test i n ≡ first_from other i n
unfolding first_from
first_same test other zero i h = refl
first_same test other (suc n) i h =
    ap₂ (λ b z. cond b i z) (h i (omega arith) (omega arith)) (first_same test other n (i + 1) (λ k l m. h k (omega arith) (omega arith)))

-- the level is the one sought
pub level_is : (q ceiling : ℕ) (left right : List ℕ) → IsLevel q ceiling left right (level_of q ceiling left right)
unfolding level_of
level_is q ceiling l r = go (first_is test (ceiling - 1) 0)
  where
    test : ℕ → Bool
    test k = nat_le (q + 1) (chosen q l k + chosen q r k)

    go : First test 0 (ceiling - 1) (first_from test 0 (ceiling - 1)) → IsLevel q ceiling l r (first_from test 0 (ceiling - 1))
    go F = record {
      within = omega (arith, F.high);
      enough = enough F.passed;
      smallest = λ k h. leb-false (q + 1) (chosen q l k + chosen q r k) (F.before k (omega arith) h);
    }
      where
        enough : (first_from test 0 (ceiling - 1) ≡ 0 + (ceiling - 1)) ⊎ (test (first_from test 0 (ceiling - 1)) ≡ true) →
            (first_from test 0 (ceiling - 1) ≡ ceiling - 1) ⊎ (q + 1 ≤ chosen q l (first_from test 0 (ceiling - 1)) + chosen q r (first_from test 0 (ceiling - 1)))
        enough (inl e) = inl (omega arith)
        enough (inr e) = inr (leb-true (q + 1) _ e)

pub level_by : (q ceiling : ℕ) (left right : List ℕ) (level : ℕ) → level ≡ level_of q ceiling left right → IsLevel q ceiling left right level
level_by q ceiling left right level e = subst (IsLevel q ceiling left right) (sym e) (level_is q ceiling left right)

-- ---- the codes that were listed, as they are handed on
pub front_listed : (costs codes : List ℕ) (level n q : ℕ) → length costs ≡ q → take n codes ≡ listed (is_chosen costs level) (length costs) → take (n - 0) codes ≡ listed (is_chosen costs level) q
front_listed costs codes level n q h e = ap (λ m. take m codes) (sub-zero n) ∙ e ∙ ap (listed (is_chosen costs level)) h

pub codes_listed : (test : ℕ → Bool) (q : ℕ) (codes : List ℕ) → q ≤ 64 → codes ≡ listed test q → (length codes ≤ 64) × ((k : ℕ) → k < length codes → slice_index codes k < q)
codes_listed test q codes h e =
    (omega (arith, ap length e, length_listed test q, count_le q test), λ k l. All-get_or (λ a. a < q) codes k 0 l (subst (All (λ a. a < q)) (sym e) (all_listed test q)))

pub number_chosen : (costs : List ℕ) (level q : ℕ) (codes : List ℕ) → codes ≡ listed (is_chosen costs level) q → length codes ≡ chosen q costs level
unfolding chosen
number_chosen costs level q codes e = ap length e ∙ length_listed (is_chosen costs level) q

-- ---- counters that began blank
pub tallied_one : (blank counts costs : List ℕ) → ((k : ℕ) → k < length blank → slice_index blank k ≡ 0) →
    ((k : ℕ) → k < length blank → slice_index counts k ≡ slice_index blank k + number costs (length costs) k) → (k : ℕ) → k < length blank → slice_index counts k ≡ number costs (length costs) k
tallied_one blank counts costs z e k h = omega (arith, z k h, e k h)

pub number_le : (costs : List ℕ) (n k : ℕ) → number costs n k ≤ n
number_le costs n k = count_le n (λ a. nat_eq (slice_index costs a) k)

pub scanned : (q ceiling level : ℕ) (left right counts : List ℕ) → ((k : ℕ) → k < ceiling - 1 → slice_index counts k ≡ number left q k + number right q k) → level ≡ first_from (passes counts (q + 1)) 0 (ceiling - 1) → level ≡ level_of q ceiling left right
unfolding level_of
scanned q ceiling level l r counts h e =
    e ∙ first_same (passes counts (q + 1)) (λ k. leb (q + 1) (chosen q l k + chosen q r k)) (ceiling - 1) 0 (λ k lo hi. ap (leb (q + 1)) (up_to_chosen q l r counts k (λ x m. h x (omega arith))))
