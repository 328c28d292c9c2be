-- Tests on numbers. Assumes nothing.
use Rattle.std.proofs.Common.{◌≡◌, ℕ, suc, ◌<◌, Bool, true, false, T, eqb, ◌⊎◌, Some, None, Option, refl, ap, inl, inr, arith, eqb→eq}
use native.Mathlib.Decide.{ℕ_discrete}
use lib.Dec.{eqb_refl}

pub TIs : (b : Bool) → T b → b ≡ true
TIs true t = refl
TIs false t = elim t [ ]

pub is_T : (b : Bool) → b ≡ true → T b
is_T true e = tt
is_T false e = let z : ◌≡◌ {A = ℕ} 0 1 = cc in omega arith

pub eqb_same : (n : ℕ) → eqb n n ≡ true
eqb_same n = TIs (eqb n n) (eqb_refl n)

pub eqb_is : (m n : ℕ) → eqb m n ≡ true → m ≡ n
eqb_is m n e = eqb→eq m n (is_T (eqb m n) e)

pub eqb_not : (m n : ℕ) → ¬ (m ≡ n) → eqb m n ≡ false
eqb_not m n h = go (eqb m n) refl
  where
    go : (b : Bool) → eqb m n ≡ b → b ≡ false
    go true e = absurd (h (eqb_is m n e))
    go false e = refl

pub no_both : {b : Bool} → b ≡ true → b ≡ false → ⊥
no_both {b} p q = let z : ◌≡◌ {A = ℕ} 0 1 = cc in omega arith

pub last : (n k : ℕ) → k < suc n → (n ≡ k) ⊎ (k < n)
last n k h = go (ℕ_discrete n k)
  where
    go : Dec (n ≡ k) → (n ≡ k) ⊎ (k < n)
    go (yes e) = inl e
    go (no d) = inr (omega arith)

pub none_some : {p : ℕ} → None ≡ Some p → ⊥
none_some {p} e = let z : ◌≡◌ {A = ℕ} 0 1 = cc in omega arith

pub some_same : {p j : ℕ} → Some p ≡ Some j → p ≡ j
some_same {p} {j} e = cc

pub is_some : (o : Option ℕ) (j : ℕ) → Dec (o ≡ Some j)
is_some None j = no none_some
is_some (Some p) j = go (ℕ_discrete p j)
  where
    go : Dec (p ≡ j) → Dec (Some p ≡ Some j)
    go (yes e) = yes (ap Some e)
    go (no d) = no (λ e. d (some_same e))
