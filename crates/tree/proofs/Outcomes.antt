-- What a granted call has passed, and what makes one granted. Assumes nothing.
use Rattle.std.proofs.Common.{◌≡◌, ℕ, zero, suc, ◌+◌, ◌<◌, ◌≤◌, Bool, true, false, cond, not, eqb, leb, sym, refl, ap, true≢false, arith}
use Rattle.std.proofs.lemmas.Bool.{and_parts, and_from, le-leb, leb-true, eq-eqb, eqb-true}
use Rattle.field.specs.Tables.{Tables}
use Rattle.code.specs.Views.{View}
use Rattle.tree.specs.Over.{over, count, every}
use Rattle.tree.specs.Frame.{Numbers, same_numbers, Reply, Outcome, granted, no_call, grants, want, row_sum, failing, within}
use Rattle.tree.proofs.Folds.{below_suc}

pub want_is : (b : Bool) (n : ℕ) (o : Outcome) (x : Reply) → want b n o ≡ granted x → (b ≡ true) × (o ≡ granted x)
want_is true n o x e = (refl, e)
want_is false n o x e = absurd (let z : ◌≡◌ {A = ℕ} 0 1 = cc in let w : ⊥ = omega arith in w)

pub want_grants : (b : Bool) (n : ℕ) (o : Outcome) → b ≡ true → grants o ≡ true → grants (want b n o) ≡ true
want_grants true n o e g = g
want_grants false n o e g = absurd (true≢false (sym e))

pub grants_want : (b : Bool) (n : ℕ) (o : Outcome) → grants (want b n o) ≡ true → (b ≡ true) × (grants o ≡ true)
grants_want true n o e = (refl, e)
grants_want false n o e = absurd (true≢false (sym e))

pub never : (x : Reply) → no_call ≡ granted x → ⊥
never x e = let z : ◌≡◌ {A = ℕ} 0 1 = cc in omega arith

pub granted_grants : (o : Outcome) (x : Reply) → o ≡ granted x → grants o ≡ true
granted_grants o x e = ap grants e

pub every_is : (n : ℕ) (test : ℕ → Bool) → every n test ≡ true → (x : ℕ) → x < n → test x ≡ true
unfolding every
every_is zero test e x h = absurd (let z : ⊥ = omega arith in z)
every_is (suc n) test e x h =
    let b = and_parts (test n) (every n test) e in
    below_suc (λ y. test y ≡ true) n (every_is n test b.1) b.0 x h

pub every_made : (n : ℕ) (test : ℕ → Bool) → ((x : ℕ) → x < n → test x ≡ true) → every n test ≡ true
unfolding every
every_made zero test h = refl
every_made (suc n) test h = and_from (test n) (every n test) (h n (omega arith)) (every_made n test (λ x l. h x (omega arith)))

pub within_is : (K : View) (n : ℕ) (costs : ℕ → ℕ → ℕ) → within K n costs ≡ true → (c a : ℕ) → c < n → a < K.header.order → costs c a ≤ K.header.ceiling
unfolding within
within_is K n costs e c a h l =
    leb-true (costs c a) K.header.ceiling (every_is K.header.order (λ a. leb (costs c a) K.header.ceiling) (every_is n (λ c. every K.header.order (λ a. leb (costs c a) K.header.ceiling)) e c h) a l)

pub within_made : (K : View) (n : ℕ) (costs : ℕ → ℕ → ℕ) → ((c a : ℕ) → c < n → a < K.header.order → costs c a ≤ K.header.ceiling) → within K n costs ≡ true
unfolding within
within_made K n costs h =
    every_made n (λ c. every K.header.order (λ a. leb (costs c a) K.header.ceiling))
    (λ c l. every_made K.header.order (λ a. leb (costs c a) K.header.ceiling) (λ a k. le-leb (costs c a) K.header.ceiling (h c a l k)))

pub numbers_same : (n : Numbers) → same_numbers n n ≡ true
unfolding same_numbers
numbers_same n = rw (eq-eqb n.order n.order refl, eq-eqb n.columns n.columns refl, eq-eqb n.rows n.rows refl, eq-eqb n.width n.width refl, eq-eqb n.ceiling n.ceiling refl, eq-eqb n.limit n.limit refl)

-- ---- counts of none
not_yes : (b : Bool) → not b ≡ true → b ≡ true → ⊥
not_yes true e t = true≢false (sym e)
not_yes false e t = true≢false (sym t)

pub count_none : (n : ℕ) (test : ℕ → Bool) → count n (λ x. not (test x)) ≡ 0 → (x : ℕ) → x < n → test x ≡ true
unfolding over
count_none zero test e x h = absurd (let z : ⊥ = omega arith in z)
count_none (suc n) test e x h = go (λ z. count_none n test z) (test n) refl e
  where
    go : (count n (λ x. not (test x)) ≡ 0 → (x : ℕ) → x < n → test x ≡ true) → (b : Bool) → test n ≡ b →
        cond (not b) (1 + count n (λ x. not (test x))) (count n (λ x. not (test x))) ≡ 0 → test x ≡ true
    go ih true t z = below_suc (λ y. test y ≡ true) n (ih z) t x h
    go ih false t z = absurd (let w : ⊥ = omega arith in w)

pub none_count : (n : ℕ) (test : ℕ → Bool) → ((x : ℕ) → x < n → test x ≡ true) → count n (λ x. not (test x)) ≡ 0
unfolding over
none_count zero test h = refl
none_count (suc n) test h = rw (h n (omega arith)) (none_count n test (λ x l. h x (omega arith)))

pub none_fails : (F : Tables) (K : View) (word : ℕ → ℕ) → failing F K word ≡ 0 → (r : ℕ) → r < K.header.rows → row_sum F K word r ≡ 0
unfolding failing
none_fails F K word e r h = eqb-true (row_sum F K word r) 0 (count_none K.header.rows (λ r. eqb (row_sum F K word r) 0) e r h)

pub fails_none : (F : Tables) (K : View) (word : ℕ → ℕ) → ((r : ℕ) → r < K.header.rows → row_sum F K word r ≡ 0) → failing F K word ≡ 0
unfolding failing
fails_none F K word h = none_count K.header.rows (λ r. eqb (row_sum F K word r) 0) (λ r l. eq-eqb (row_sum F K word r) 0 (h r l))
