-- Positions by a key that does not fall: those of one key stand together. Assumes nothing.
use Rattle.std.proofs.Common.{◌≡◌, ℕ, zero, suc, ◌+◌, ◌-◌, ◌<◌, ◌≤◌, min, Bool, cond, ◌&&◌, ltb, leb, ◌⊎◌, ◌↔◌, sym, ap, ◌∙◌, subst, inl, inr, arith}
use Rattle.std.proofs.lemmas.Bool.{cases_lt, lt-ltb, le-ltb, le-leb, lt-leb}
use Rattle.tree.specs.Over.{over, total, count}
use Rattle.tree.specs.Columns.{sum_from}
use Rattle.tree.proofs.Folds.{over_tests, below_suc}
use Rattle.tree.proofs.Rows.{count_below}

module _ (n : ℕ) (key : ℕ → ℕ) (rise : (x y : ℕ) → x ≤ y → y < n → key x ≤ key y) where
  -- where keys of at least r begin
  abbrev pub begins : ℕ → ℕ
  begins r = count n (λ x. ltb (key x) r)

  Split : ℕ → ℕ → ℕ → Type 0
  Split r m e = (e ≤ m) × ((x : ℕ) → x < e → key x < r) × ((x : ℕ) → e ≤ x → x < m → r ≤ key x)

  split_found : (r m : ℕ) → m ≤ n → (e : ℕ) × Split r m e
  unfolding Split
  split_found r zero h = (0, (omega arith, λ x l. absurd (let z : ⊥ = omega arith in z), λ x k l. absurd (let z : ⊥ = omega arith in z)))
  split_found r (suc m) h = go (split_found r m (omega arith)) (cases_lt (key m) r)
    where
      go : (e : ℕ) × Split r m e → (key m < r) ⊎ (r ≤ key m) → (e : ℕ) × Split r (suc m) e
      go w (inl k) = (suc m, (omega arith, λ x l. omega (arith, rise x m (omega arith) (omega arith)), λ x j l. absurd (let z : ⊥ = omega arith in z)))
      go w (inr k) = (w.0, (omega (arith, w.1.0), w.1.1, λ x j l. below_suc (λ x. w.0 ≤ x → r ≤ key x) m (λ y u i. w.1.2 y i u) (λ i. k) x l j))

  split_is : (r e : ℕ) → Split r n e → e ≡ begins r
  unfolding Split
  split_is r e S =
      sym (over_tests ◌+◌ 0 n (λ x. ltb (key x) r) (λ x. ltb x e) (λ x. 1) (λ x h. go x h (cases_lt x e)) ∙ count_below n e ∙ (let z : min n e ≡ e = omega (arith, S.0) in z))
    where
      go : (x : ℕ) → x < n → (x < e) ⊎ (e ≤ x) → ltb (key x) r ≡ ltb x e
      go x h (inl l) = lt-ltb (key x) r (S.1 x l) ∙ sym (lt-ltb x e l)
      go x h (inr l) = le-ltb (key x) r (S.2 x l h) ∙ sym (le-ltb x e l)

  pub split : (r : ℕ) → (begins r ≤ n) × ((x : ℕ) → x < begins r → key x < r) × ((x : ℕ) → begins r ≤ x → x < n → r ≤ key x)
  unfolding Split
  split r = let w = split_found r n (omega arith) in subst (λ e. Split r n e) (split_is r w.0 w.1) w.1

  pub key_in : (r x : ℕ) → x < n → (key x ≡ r) ↔ ((begins r ≤ x) × (x < begins (suc r)))
  key_in r x h = (there, back)
    where
      there : key x ≡ r → (begins r ≤ x) × (x < begins (suc r))
      there e = (lo (cases_lt x (begins r)), hi (cases_lt x (begins (suc r))))
        where
          lo : (x < begins r) ⊎ (begins r ≤ x) → begins r ≤ x
          lo (inl l) = absurd (let u = (split r).1 x l in let z : ⊥ = omega arith in z)
          lo (inr l) = l

          hi : (x < begins (suc r)) ⊎ (begins (suc r) ≤ x) → x < begins (suc r)
          hi (inl l) = l
          hi (inr l) = absurd (let u = (split (suc r)).2 x l h in let z : ⊥ = omega arith in z)

      back : (begins r ≤ x) × (x < begins (suc r)) → key x ≡ r
      back w = let u = (split r).2 x w.0 h in let v = (split (suc r)).1 x w.1 in omega arith

  pub begins_rise : (r : ℕ) → begins r ≤ begins (suc r)
  begins_rise r = go (cases_lt (begins (suc r)) (begins r))
    where
      go : (begins (suc r) < begins r) ⊎ (begins r ≤ begins (suc r)) → begins r ≤ begins (suc r)
      go (inr l) = l
      go (inl l) =
          let u = (split r).1 (begins (suc r)) l in
          let v = (split (suc r)).2 (begins (suc r)) (omega arith) (let w = (split r).0 in omega arith) in
          absurd (let z : ⊥ = omega arith in z)

-- a total over the positions from s on, m of them
range_total : (n s m : ℕ) (f : ℕ → ℕ) → total n (λ x. leb s x && ltb x (s + m)) f ≡ sum_from f s (min m (n - s))
unfolding over sum_from
range_total zero s m f = ap (sum_from f s) (let e : 0 ≡ min m (0 - s) = omega arith in e)
range_total (suc n) s m f = go (range_total n s m f) (cases_lt n s) (cases_lt n (s + m))
  where
    T : ℕ
    T = total n (λ x. leb s x && ltb x (s + m)) f

    go : T ≡ sum_from f s (min m (n - s)) → (n < s) ⊎ (s ≤ n) → (n < s + m) ⊎ (s + m ≤ n) →
        cond (leb s n && ltb n (s + m)) (f n + T) T ≡ sum_from f s (min m (suc n - s))
    go ih (inl k) d = rw (lt-leb s n k) (ih ∙ ap (sum_from f s) (let e : min m (n - s) ≡ min m (suc n - s) = omega arith in e))
    go ih (inr k) (inl l) =
        let e1 : min m (n - s) ≡ n - s = omega arith in
        let e2 : min m (suc n - s) ≡ suc (n - s) = omega arith in
        let e3 : s + (n - s) ≡ n = omega arith in
        let a : sum_from f s (suc (n - s)) ≡ sum_from f s (n - s) + f n = ap (λ z. sum_from f s (n - s) + f z) e3 in
        let b : T ≡ sum_from f s (n - s) = ih ∙ ap (sum_from f s) e1 in
        let c : sum_from f s (min m (suc n - s)) ≡ sum_from f s (suc (n - s)) = ap (sum_from f s) e2 in
        rw (le-leb s n k, lt-ltb n (s + m) l) (let g : f n + T ≡ sum_from f s (min m (suc n - s)) = omega arith in g)
    go ih (inr k) (inr l) = rw (le-leb s n k, le-ltb n (s + m) l) (ih ∙ ap (sum_from f s) (let e : min m (n - s) ≡ min m (suc n - s) = omega arith in e))

pub sum_range : (n s m : ℕ) (test : ℕ → Bool) (f : ℕ → ℕ) → s + m ≤ n → ((x : ℕ) → x < n → test x ≡ (leb s x && ltb x (s + m))) → total n test f ≡ sum_from f s m
sum_range n s m test f h same =
    over_tests ◌+◌ 0 n test (λ x. leb s x && ltb x (s + m)) f same ∙ range_total n s m f ∙ ap (sum_from f s) (let e : min m (n - s) ≡ m = omega arith in e)
