-- Of more than q chosen codes together, every code is the sum of a chosen left and a chosen right one. Assumes nothing.
use Rattle.std.proofs.Common.{◌≡◌, ℕ, zero, suc, ◌+◌, ◌<◌, ◌≤◌, Bool, true, false, cond, eqb, ◌≢◌, ◌⊎◌, sym, refl, ap, ◌∙◌, subst, ap₂, inl, inr, arith}
use Rattle.std.proofs.lemmas.Bool.{eq-eqb, ne_eqb, cases_eq, cases_lt}
use Rattle.field.specs.Tables.{Tables, Lawful}
use Rattle.field.proofs.Cancel.{sum_cancel}
use Rattle.field.proofs.Derived.{opposite_at}
use Rattle.joiner.specs.Level.{count, Suffices}

-- ---- sums over 0 to n - 1
sum : ℕ → (ℕ → ℕ) → ℕ
sum zero f = 0
sum (suc n) f = f n + sum n f

sum_same : (n : ℕ) (f g : ℕ → ℕ) → ((x : ℕ) → x < n → f x ≡ g x) → sum n f ≡ sum n g
unfolding sum
sum_same zero f g h = refl
sum_same (suc n) f g h = ap₂ ◌+◌ (h n (omega arith)) (sum_same n f g (λ x l. h x (omega arith)))

sum_add : (n : ℕ) (f g : ℕ → ℕ) → sum n (λ x. f x + g x) ≡ sum n f + sum n g
unfolding sum
sum_add zero f g = refl
sum_add (suc n) f g = let e = sum_add n f g in omega arith

sum_none : (n : ℕ) → sum n (λ x. 0) ≡ 0
unfolding sum
sum_none zero = refl
sum_none (suc n) = let e = sum_none n in omega arith

sum_swap : (n m : ℕ) (g : ℕ → ℕ → ℕ) → sum n (λ x. sum m (λ y. g x y)) ≡ sum m (λ y. sum n (λ x. g x y))
unfolding sum
sum_swap zero m g = sym (sum_none m)
sum_swap (suc n) m g = ap (λ z. sum m (λ y. g n y) + z) (sum_swap n m g) ∙ sym (sum_add m (λ y. g n y) (λ y. sum n (λ x. g x y)))

-- a sum with one place that counts
sum_skip : (n e v : ℕ) → n ≤ e → sum n (λ x. cond (eqb x e) v 0) ≡ 0
unfolding sum
sum_skip zero e v h = refl
sum_skip (suc n) e v h = ap₂ ◌+◌ (ap (λ b. cond b v 0) (ne_eqb n e (λ z. absurd (let y : ⊥ = omega arith in y)))) (sum_skip n e v (omega arith))

sum_one : (n e v : ℕ) → e < n → sum n (λ x. cond (eqb x e) v 0) ≡ v
unfolding sum
sum_one zero e v h = absurd (let z : ⊥ = omega arith in z)
sum_one (suc n) e v h = go (λ k. sum_one n e v k) (cases_eq n e)
  where
    go : (e < n → sum n (λ x. cond (eqb x e) v 0) ≡ v) → (n ≡ e) ⊎ (n ≡ e → ⊥) → cond (eqb n e) v 0 + sum n (λ x. cond (eqb x e) v 0) ≡ v
    go ih (inl s) = let a : cond (eqb n e) v 0 ≡ v = ap (λ b. cond b v 0) (eq-eqb n e s) in let b = sum_skip n e v (omega arith) in omega arith
    go ih (inr s) = let a : cond (eqb n e) v 0 ≡ 0 = ap (λ b. cond b v 0) (ne_eqb n e s) in let b = ih (let ne : n ≢ e = s in omega arith) in omega arith

counts : (n : ℕ) (p : ℕ → Bool) → count n p ≡ sum n (λ x. cond (p x) 1 0)
unfolding count sum
counts zero p = refl
counts (suc n) p = go (counts n p) (p n)
  where
    go : count n p ≡ sum n (λ x. cond (p x) 1 0) → (b : Bool) → cond b (1 + count n p) (count n p) ≡ cond b 1 0 + sum n (λ x. cond (p x) 1 0)
    go ih true = ap (λ z. 1 + z) ih
    go ih false = let e = ih in omega arith

-- ---- counting over codes that are swapped in pairs
module _ (q : ℕ) (σ : ℕ → ℕ) (codes : (x : ℕ) → x < q → σ x < q) (twice : (x : ℕ) → x < q → σ (σ x) ≡ x) (p : ℕ → Bool) where
  weight : ℕ → ℕ
  weight x = cond (p x) 1 0

  count_swap : count q (λ x. p (σ x)) ≡ count q p
  unfolding weight
  count_swap =
      counts q (λ x. p (σ x))
      ∙ sum_same q (λ x. weight (σ x)) (λ x. sum q (λ y. cond (eqb y (σ x)) (weight (σ x)) 0)) (λ x h. sym (sum_one q (σ x) (weight (σ x)) (codes x h)))
      ∙ sum_swap q q (λ x y. cond (eqb y (σ x)) (weight (σ x)) 0)
      ∙ sum_same q (λ y. sum q (λ x. cond (eqb y (σ x)) (weight (σ x)) 0)) weight
      (λ y hy. sum_same q (λ x. cond (eqb y (σ x)) (weight (σ x)) 0) (λ x. cond (eqb x (σ y)) (weight y) 0) (λ x hx. here x y hx hy (cases_eq y (σ x))) ∙ sum_one q (σ y) (weight y) (codes y hy))
      ∙ sym (counts q p)
    where
      here : (x y : ℕ) → x < q → y < q → (y ≡ σ x) ⊎ (y ≡ σ x → ⊥) → cond (eqb y (σ x)) (weight (σ x)) 0 ≡ cond (eqb x (σ y)) (weight y) 0
      here x y hx hy (inl e) =
          let back : x ≡ σ y = sym (twice x hx) ∙ ap σ (sym e) in
          ap₂ (λ b v. cond b v 0) (eq-eqb y (σ x) e ∙ sym (eq-eqb x (σ y) back)) (ap weight (sym e))
      here x y hx hy (inr n) =
          ap (λ b. cond b (weight (σ x)) 0) (ne_eqb y (σ x) n) ∙ sym (ap (λ b. cond b (weight y) 0) (ne_eqb x (σ y) (λ e. n (sym (twice y hy) ∙ ap σ (sym e)))))

-- more than n passes of n: one number passes both tests
both : (n : ℕ) (p r : ℕ → Bool) → n < count n p + count n r → (x : ℕ) × (x < n) × (p x ≡ true) × (r x ≡ true)
unfolding count
both zero p r h = absurd (let z : ⊥ = omega arith in z)
both (suc n) p r h = go (λ k. both n p r k) (p n) refl (r n) refl h
  where
    go : (n < count n p + count n r → (x : ℕ) × (x < n) × (p x ≡ true) × (r x ≡ true)) → (a : Bool) → p n ≡ a → (b : Bool) → r n ≡ b →
        suc n < cond a (1 + count n p) (count n p) + cond b (1 + count n r) (count n r) → (x : ℕ) × (x < suc n) × (p x ≡ true) × (r x ≡ true)
    go ih true ea true eb k = (n, omega arith, ea, eb)
    go ih true ea false eb k = let w = ih (omega arith) in (w.0, omega arith, w.2, w.3)
    go ih false ea true eb k = let w = ih (omega arith) in (w.0, omega arith, w.2, w.3)
    go ih false ea false eb k = let w = ih (omega arith) in (w.0, omega arith, w.2, w.3)

-- ---- differences of codes
module _ (t : Tables) (laws : Lawful t) (a : ℕ) (ha : a < t.order) where
  -- what a code lacks to a
  rest_at : (b : ℕ) → b < t.order → (c : ℕ) × (c < t.order) × (t.sum b c ≡ a)
  rest_at b hb =
      let o = opposite_at t laws b hb in
      let oc = o.1 in (
        t.sum o.0 a,
        laws.sum_code o.0 a oc ha,
        sym (laws.sum_assoc b o.0 a hb oc ha) ∙ ap (λ z. t.sum z a) o.2 ∙ laws.zero_sum a ha,
      )

  pick : (b : ℕ) → (b < t.order) ⊎ (t.order ≤ b) → ℕ
  pick b (inl h) = (rest_at b h).0
  pick b (inr h) = 0

  pick_is : (b : ℕ) → b < t.order → (v : (b < t.order) ⊎ (t.order ≤ b)) → (pick b v < t.order) × (t.sum b (pick b v) ≡ a)
  unfolding pick
  pick_is b hb (inl h) = ((rest_at b h).1, (rest_at b h).2)
  pick_is b hb (inr h) = absurd (let z : ⊥ = omega arith in z)

  rest : ℕ → ℕ
  rest b = pick b (cases_lt b t.order)

  rest_is : (b : ℕ) → b < t.order → (rest b < t.order) × (t.sum b (rest b) ≡ a)
  unfolding rest
  rest_is b hb = pick_is b hb (cases_lt b t.order)

  rest_twice : (b : ℕ) → b < t.order → rest (rest b) ≡ b
  rest_twice b hb =
      let r = rest_is b hb in
      let s = rest_is (rest b) r.0 in
      sum_cancel t laws (rest b) (rest (rest b)) b r.0 s.0 hb (s.1 ∙ sym (laws.sum_comm (rest b) b r.0 hb ∙ r.1))

  meets : (left right : ℕ → Bool) → t.order < count t.order left + count t.order right →
      (b c : ℕ) × (b < t.order) × (c < t.order) × (t.sum b c ≡ a) × (left b ≡ true) × (right c ≡ true)
  meets left right h =
      let e = count_swap t.order rest (λ x l. (rest_is x l).0) rest_twice right in
      let w = both t.order left (λ b. right (rest b)) (omega arith) in
      let r = rest_is w.0 w.1 in
      (w.0, rest w.0, w.1, r.0, r.1, w.2, w.3)

pub pigeon : (q : ℕ) → Suffices q (q + 1)
pigeon q t laws e left right h a ha = subst Meets e (λ k m. meets t laws a k left right (omega arith)) ha h
  where
    Meets : ℕ → Type 0
    Meets n = a < n → n + 1 ≤ count n left + count n right → (b c : ℕ) × (b < n) × (c < n) × (t.sum b c ≡ a) × (left b ≡ true) × (right c ≡ true)
