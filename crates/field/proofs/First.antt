-- What the least search gives. Assumes nothing.
use Rattle.std.proofs.Common.{◌≡◌, ℕ, zero, suc, ◌+◌, ◌<◌, ◌≤◌, Bool, true, false, T, ◌⊎◌, Some, None, Option, sym, refl, ap, subst, inl, inr, arith}
use Rattle.field.specs.Tables.{first}

split : (i b : ℕ) → i ≤ b → (i ≡ b) ⊎ (suc i ≤ b)
split i zero h = inl (omega arith)
split zero (suc b) h = inr (omega arith)
split (suc i) (suc b) h = elim (split i b (omega arith)) [ inl e ↦ inl (ap suc e) | inr l ↦ inr (omega arith) ]

pub first_found : (p : ℕ → Bool) (i n b : ℕ) → i ≤ b → b < i + n → T (p b) → ((k : ℕ) → i ≤ k → k < b → T (p k) → ⊥) → first p i n ≡ Some b
first_found p i zero b lo hi t un = absurd (omega arith)
first_found p i (suc n) b lo hi t un = go (p i) refl (λ l. first_found p (suc i) n b l (omega arith) t (λ k h. un k (omega arith)))
  where
    go : (v : Bool) → p i ≡ v → (suc i ≤ b → first p (suc i) n ≡ Some b) → elim v as (λ _. Option ℕ) [ true ↦ Some i | false ↦ first p (suc i) n ] ≡ Some b
    go true e rec = elim (split i b lo) [ inl s ↦ ap Some s | inr l ↦ absurd (un i (omega arith) l (subst T (sym e) tt)) ]
    go false e rec = elim (split i b lo) [ inl s ↦ absurd (subst T e (subst (λ (m : ℕ). T (p m)) (sym s) t)) | inr l ↦ rec l ]

pub first_none : (p : ℕ → Bool) (i n : ℕ) → ((k : ℕ) → i ≤ k → k < i + n → T (p k) → ⊥) → first p i n ≡ None
first_none p i zero un = refl
first_none p i (suc n) un = go (p i) refl (first_none p (suc i) n (λ k l h. un k (omega arith) (omega arith)))
  where
    go : (v : Bool) → p i ≡ v → first p (suc i) n ≡ None → elim v as (λ _. Option ℕ) [ true ↦ Some i | false ↦ first p (suc i) n ] ≡ None
    go true e rec = absurd (un i (omega arith) (omega arith) (subst T (sym e) tt))
    go false e rec = rec
