-- The largest number that passes a test.
use Rattle.std.proofs.Common.{◌≡◌, ℕ, zero, suc, ◌≤◌, Bool, true, sym, ap, ◌∙◌, inl, inr, true≢false, arith}
use Rattle.std.proofs.lemmas.Bool.{cond_both, cases_eq, cases_lt}
use Rattle.sampling.specs.Levels.{largest}

pub largest_le : (p : ℕ → Bool) (c : ℕ) → largest p c ≤ c
largest_le p zero = omega arith
largest_le p (suc c) = cond_both (p (suc c)) (suc c) (largest p c) (λ n. n ≤ suc c) (λ _. omega arith) (λ _. omega (arith, largest_le p c))

-- no number up to c that passes is larger
pub largest_above : (p : ℕ → Bool) (c k : ℕ) → k ≤ c → p k ≡ true → k ≤ largest p c
largest_above p zero k h e = h
largest_above p (suc c) k h e =
    elim (cases_eq k (suc c)) [
      | inl q ↦ cond_both (p (suc c)) (suc c) (largest p c) (λ n. k ≤ n) (λ _. h) (λ f. absurd (true≢false (sym e ∙ ap p q ∙ f)))
      | inr n ↦ let less : k ≤ c = omega (arith, cases_lt k (suc c)) in cond_both (p (suc c)) (suc c) (largest p c) (λ v. k ≤ v) (λ _. h) (λ _. largest_above p c k less e)
    ]

-- it passes, where 0 does
pub largest_passes : (p : ℕ → Bool) (c : ℕ) → p 0 ≡ true → p (largest p c) ≡ true
largest_passes p zero z = z
largest_passes p (suc c) z = cond_both (p (suc c)) (suc c) (largest p c) (λ n. p n ≡ true) (λ e. e) (λ _. largest_passes p c z)
