-- A computed test over all codes, as a law. Assumes nothing.
use Rattle.std.proofs.Common.{◌≡◌, ℕ, zero, suc, ◌<◌, Bool, true, false, ◌&&◌, ◌||◌, ◌⊎◌, sym, refl, ap, ◌∙◌, subst, ap₂, inl, inr, arith}
use Rattle.field.specs.Every.{every_below, some_below}

pub and_true : (a b : Bool) → (a && b) ≡ true → (a ≡ true) × (b ≡ true)
and_true true b h = (refl, h)
and_true false b h = (h, absurd (let z : ◌≡◌ {A = ℕ} 0 1 = cc in omega arith))

pub or_true : (a b : Bool) → (a || b) ≡ true → (a ≡ true) ⊎ (b ≡ true)
or_true true b h = inl refl
or_true false b h = inr h

last : (n k : ℕ) → k < suc n → (n ≡ k) ⊎ (k < n)
last zero zero h = inl refl
last zero (suc k) h = absurd (omega arith)
last (suc n) zero h = inr (omega arith)
last (suc n) (suc k) h = elim (last n k (omega arith)) [ inl e ↦ inl (ap suc e) | inr l ↦ inr (omega arith) ]

pub every_below_at : (p : ℕ → Bool) (n k : ℕ) → every_below p n ≡ true → k < n → p k ≡ true
every_below_at p zero k t h = absurd (omega arith)
every_below_at p (suc n) k t h =
    let ts : (p n ≡ true) × (every_below p n ≡ true) = and_true (p n) (every_below p n) t in
    let rec : k < n → p k ≡ true = every_below_at p n k ts.1 in
    elim (last n k h) [ inl e ↦ subst (λ (m : ℕ). p m ≡ true) e ts.0 | inr l ↦ rec l ]

pub some_below_at : (p : ℕ → Bool) (n : ℕ) → some_below p n ≡ true → (k : ℕ) × (k < n) × (p k ≡ true)
some_below_at p zero t = absurd (let z : ◌≡◌ {A = ℕ} 0 1 = cc in omega arith)
some_below_at p (suc n) t =
    let rec : some_below p n ≡ true → (k : ℕ) × (k < suc n) × (p k ≡ true) = λ h. let r = some_below_at p n h in (r.0, omega arith, r.2) in
    elim (or_true (p n) (some_below p n) t) [ inl e ↦ (n, omega arith, e) | inr h ↦ rec h ]

pub some_below_true : (p : ℕ → Bool) (n k : ℕ) → k < n → p k ≡ true → some_below p n ≡ true
some_below_true p zero k h t = absurd (omega arith)
some_below_true p (suc n) k h t =
    let rec : k < n → some_below p n ≡ true = λ l. some_below_true p n k l t in
    elim (last n k h) [
      | inl e ↦ ap (λ (b : Bool). b || some_below p n) (subst (λ (m : ℕ). p m ≡ true) (sym e) t)
      | inr l ↦ ap (λ (b : Bool). p n || b) (rec l) ∙ or_end (p n)
    ]
  where
    or_end : (b : Bool) → (b || true) ≡ true
    or_end true = refl
    or_end false = refl

pub some_below_none : (p : ℕ → Bool) (n : ℕ) → ((k : ℕ) → k < n → p k ≡ true → ⊥) → some_below p n ≡ false
some_below_none p zero un = refl
some_below_none p (suc n) un = go (p n) refl (some_below_none p n (λ k h. un k (omega arith)))
  where
    go : (b : Bool) → p n ≡ b → some_below p n ≡ false → (b || some_below p n) ≡ false
    go true e rec = absurd (un n (omega arith) e)
    go false e rec = rec

pub some_below_same : (p q : ℕ → Bool) (n : ℕ) → ((k : ℕ) → k < n → p k ≡ q k) → some_below p n ≡ some_below q n
some_below_same p q zero e = refl
some_below_same p q (suc n) e = ap₂ ◌||◌ (e n (omega arith)) (some_below_same p q n (λ k h. e k (omega arith)))
