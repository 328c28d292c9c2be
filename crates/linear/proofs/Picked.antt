-- The symbols at the columns that pass: their number, where each stands, and that no other list has them so. Assumes nothing.
use Rattle.std.proofs.Common.{◌≡◌, ℕ, zero, suc, ◌<◌, ◌≤◌, Bool, true, false, cond, ◌⊎◌, List, [], ◌∷◌, ◌++◌, length, get_or, take, sym, refl, ap, ◌∙◌, subst, ap₂, inl, inr, add-one, arith, take_all}
use Rattle.std.proofs.lemmas.List.{take_more, length_push, get_or_push, get_or_append_left}
use Rattle.linear.specs.Count.{count}
use Rattle.linear.specs.Encoded.{picked}
use Rattle.linear.proofs.Counts.{count_below}
use Rattle.linear.proofs.Tests.{last, no_both}

module _ (test : ℕ → Bool) (w : List ℕ) where
  pub picked_length : (k : ℕ) → length (picked test w k) ≡ count k test
  unfolding picked count
  picked_length zero = refl
  picked_length (suc k) = go (test k) (picked_length k)
    where
      go : (b : Bool) → length (picked test w k) ≡ count k test → length (cond b (picked test w k ++ (get_or w k 0 ∷ [])) (picked test w k)) ≡ cond b (suc (count k test)) (count k test)
      go true ih = let e = length_push (picked test w k) (get_or w k 0) in omega arith
      go false ih = ih

  -- the symbol of a column that passes stands at the number of those below it
  pub picked_at : (k c : ℕ) → c < k → test c ≡ true → get_or w c 0 ≡ get_or (picked test w k) (count c test) 0
  unfolding picked
  picked_at zero c h e = absurd (let z : ⊥ = omega arith in z)
  picked_at (suc k) c h e = go (test k) refl (last k c h) (λ l. picked_at k c l e)
    where
      go : (b : Bool) → test k ≡ b → (k ≡ c) ⊎ (c < k) → (c < k → get_or w c 0 ≡ get_or (picked test w k) (count c test) 0) →
          get_or w c 0 ≡ get_or (cond b (picked test w k ++ (get_or w k 0 ∷ [])) (picked test w k)) (count c test) 0
      go true x (inl p) ih = subst (λ (y : ℕ). get_or w y 0 ≡ get_or (picked test w k ++ (get_or w k 0 ∷ [])) (count y test) 0) p (sym (get_or_push (picked test w k) (get_or w k 0) 0 (count k test) (picked_length k)))
      go true x (inr l) ih =
          ih l ∙ sym (get_or_append_left (picked test w k) (get_or w k 0 ∷ []) 0 (count c test) (let a = picked_length k in let b = count_below k c test l e in omega arith))
      go false x (inl p) ih = absurd (no_both e (ap test (sym p) ∙ x))
      go false x (inr l) ih = ih l

  module _ (n : ℕ) (s : List ℕ) (long : length s ≡ count n test) (at : (c : ℕ) → c < n → test c ≡ true → get_or w c 0 ≡ get_or s (count c test) 0) where
    upto : (k : ℕ) → k ≤ n → take (count k test) s ≡ picked test w k
    unfolding picked count
    upto zero h = refl
    upto (suc k) h = go (test k) refl (upto k (omega arith))
      where
        go : (b : Bool) → test k ≡ b → take (count k test) s ≡ picked test w k → take (cond b (suc (count k test)) (count k test)) s ≡ cond b (picked test w k ++ (get_or w k 0 ∷ [])) (picked test w k)
        go true e ih =
            let lt : count k test < length s = (let b = count_below n k test h e in omega arith) in
            ap (λ (x : ℕ). take x s) (sym (add-one (count k test))) ∙ take_more s (count k test) 0 lt ∙ ap₂ (λ (x : List ℕ) (y : ℕ). x ++ (y ∷ [])) ih (sym (at k h e))
        go false e ih = ih

    -- a list of the right length with each symbol at its place is that list
    pub picked_only : s ≡ picked test w n
    picked_only = sym (take_all (count n test) s (omega arith)) ∙ upto n (omega arith)
