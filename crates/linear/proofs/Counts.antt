-- Lemmas on counts. Assumes nothing.
use Rattle.std.proofs.Common.{◌≡◌, ℕ, zero, suc, ◌+◌, ◌<◌, ◌≤◌, Bool, true, false, cond, not, ◌&&◌, eqb, ◌⊎◌, sym, refl, ap, ◌∙◌, subst, inl, inr, arith}
use Rattle.linear.specs.Count.{count}
use Rattle.linear.proofs.Tests.{last, eqb_is, eqb_not, no_both}

-- some number passes where some are counted
pub counted : (n : ℕ) (test : ℕ → Bool) → 1 ≤ count n test → (x : ℕ) × (x < n) × (test x ≡ true)
unfolding count
counted zero test h = absurd (let z : ⊥ = omega arith in z)
counted (suc n) test h = go (λ k. counted n test k) (test n) refl h
  where
    go : (1 ≤ count n test → (x : ℕ) × (x < n) × (test x ≡ true)) → (b : Bool) → test n ≡ b → 1 ≤ cond b (suc (count n test)) (count n test) → (x : ℕ) × (x < suc n) × (test x ≡ true)
    go ih true e k = (n, omega arith, e)
    go ih false e k = let w = ih k in (w.0, omega arith, w.2)

pub count_same : (n : ℕ) (p q : ℕ → Bool) → ((x : ℕ) → x < n → p x ≡ q x) → count n p ≡ count n q
unfolding count
count_same zero p q h = refl
count_same (suc n) p q h =
    let ih = count_same n p q (λ x l. h x (omega arith)) in
    let e = h n (omega arith) in
    cc

and_not : (b : Bool) → b ≡ b && not false
and_not true = refl
and_not false = refl

-- all but one of those that are counted
pub count_others : (n : ℕ) (test : ℕ → Bool) (e : ℕ) → count n test ≤ suc (count n (λ x. test x && not (eqb x e)))
unfolding count
count_others zero test e = omega arith
count_others (suc n) test e = go (count_others n test e) (eqb n e) refl (test n)
  where
    rest : ℕ
    rest = count n (λ x. test x && not (eqb x e))

    go : count n test ≤ suc rest → (b : Bool) → eqb n e ≡ b → (t : Bool) → cond t (suc (count n test)) (count n test) ≤ suc (cond (t && not b) (suc rest) rest)
    go ih true p true =
        let same : count n test ≡ rest = count_same n test (λ x. test x && not (eqb x e))
        (λ x l. rw (eqb_not x e (let q = eqb_is n e p in omega arith)) (and_not (test x))) in
        omega arith
    go ih true p false = ih
    go ih false p true = omega arith
    go ih false p false = ih

pub count_most : (n : ℕ) (test : ℕ → Bool) → count n test ≤ n
unfolding count
count_most zero test = omega arith
count_most (suc n) test = go (count_most n test) (test n)
  where
    go : count n test ≤ n → (b : Bool) → cond b (suc (count n test)) (count n test) ≤ suc n
    go ih true = omega arith
    go ih false = omega arith

-- where as many pass as there are, each passes
pub count_all : (n : ℕ) (test : ℕ → Bool) → n ≤ count n test → (x : ℕ) → x < n → test x ≡ true
unfolding count
count_all zero test h x l = absurd (let z : ⊥ = omega arith in z)
count_all (suc n) test h x l = go (λ k j. count_all n test k x j) (test n) refl h
  where
    go : (n ≤ count n test → x < n → test x ≡ true) → (b : Bool) → test n ≡ b → suc n ≤ cond b (suc (count n test)) (count n test) → test x ≡ true
    go ih true e k = elim (last n x l) [ inl p ↦ subst (λ (y : ℕ). test y ≡ true) p e | inr j ↦ ih (omega arith) j ]
    go ih false e k = absurd (let m = count_most n test in let z : ⊥ = omega arith in z)

pub count_whole : (n : ℕ) (test : ℕ → Bool) → ((x : ℕ) → x < n → test x ≡ true) → count n test ≡ n
unfolding count
count_whole zero test h = refl
count_whole (suc n) test h =
    let ih = count_whole n test (λ x l. h x (omega arith)) in
    let e = h n (omega arith) in
    cc

-- one that passes has fewer below it than there are in all
pub count_below : (n c : ℕ) (test : ℕ → Bool) → c < n → test c ≡ true → count c test < count n test
unfolding count
count_below zero c test l e = absurd (let z : ⊥ = omega arith in z)
count_below (suc n) c test l e = go (λ k. count_below n c test k e) (test n) refl (last n c l)
  where
    go : (c < n → count c test < count n test) → (b : Bool) → test n ≡ b → (n ≡ c) ⊎ (c < n) → count c test < cond b (suc (count n test)) (count n test)
    go ih true x (inl p) = let q : count c test ≡ count n test = ap (λ (y : ℕ). count y test) (sym p) in omega arith
    go ih true x (inr k) = let q = ih k in omega arith
    go ih false x (inl p) = absurd (no_both e (ap test (sym p) ∙ x))
    go ih false x (inr k) = ih k

pub count_both : (n : ℕ) (test : ℕ → Bool) → count n (λ x. not (test x)) + count n test ≡ n
unfolding count
count_both zero test = refl
count_both (suc n) test = go (count_both n test) (test n)
  where
    go : count n (λ x. not (test x)) + count n test ≡ n → (b : Bool) →
        cond (not b) (suc (count n (λ x. not (test x)))) (count n (λ x. not (test x))) + cond b (suc (count n test)) (count n test) ≡ suc n
    go ih true = omega arith
    go ih false = omega arith

-- each number below the count is how many lie below some number that passes
pub counted_column : (n : ℕ) (test : ℕ → Bool) (i : ℕ) → i < count n test → (c : ℕ) × (c < n) × ((test c ≡ true) × (count c test ≡ i))
unfolding count
counted_column zero test i h = absurd (let z : ⊥ = omega arith in z)
counted_column (suc n) test i h = go (λ k. counted_column n test i k) (test n) refl h
  where
    longer : (c : ℕ) × (c < n) × ((test c ≡ true) × (count c test ≡ i)) → (c : ℕ) × (c < suc n) × ((test c ≡ true) × (count c test ≡ i))
    longer w = (w.0, (let h = w.1 in omega arith), w.2)

    go : (i < count n test → (c : ℕ) × (c < n) × ((test c ≡ true) × (count c test ≡ i))) → (b : Bool) → test n ≡ b → i < cond b (suc (count n test)) (count n test) → (c : ℕ) × (c < suc n) × ((test c ≡ true) × (count c test ≡ i))
    go ih true e k = elim (last (count n test) i k) [ inl p ↦ (n, omega arith, (e, p)) | inr q ↦ longer (ih q) ]
    go ih false e k = longer (ih k)
