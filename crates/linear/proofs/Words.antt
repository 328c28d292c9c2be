-- Words that satisfy every row, and the columns that lead one. Assumes nothing.
use Rattle.std.proofs.Common.{◌≡◌, ℕ, zero, suc, ◌<◌, ◌≤◌, Bool, true, false, sym, refl, ap, ◌∙◌, subst, ap₂, inl, inr, arith}
use Rattle.linear.proofs.Tests.{last, no_both}
use Rattle.linear.proofs.Ring.{Field, add-zero, mul-zero, mul-one, less, less_self, less_zero, less_up, inverse_mul}
use Rattle.linear.proofs.Sums.{dot, dot_add, dot_mul, dot_zero}

module _ {C : Type 0} {◌⊕◌ ◌⊗◌ : C → C → C} {𝟘 𝟙 : C} (F : Field ◌⊕◌ ◌⊗◌ 𝟘 𝟙) where
  infixl 65 ◌⊕◌
  infixl 70 ◌⊗◌
  -- the word satisfies each of the m rows over n columns
  abbrev pub Solves : (ℕ → ℕ → C) → ℕ → ℕ → (ℕ → C) → Type 0
  Solves H m n w = (r : ℕ) → r < m → dot F n (H r) w ≡ 𝟘

  -- a word of the code that begins with a one in column c
  pub record Leads (H : ℕ → ℕ → C) (m n c : ℕ) (w : ℕ → C) : Type 0 where
    pub solves : Solves H m n w
    pub one : w c ≡ 𝟙
    pub below : (j : ℕ) → j < c → w j ≡ 𝟘

  abbrev pub Lead : (ℕ → ℕ → C) → ℕ → ℕ → ℕ → Type 0
  Lead H m n c = (w : ℕ → C) × Leads H m n c w

  -- the test tells the columns that lead a word
  pub record Tells (H : ℕ → ℕ → C) (m n : ℕ) (free : ℕ → Bool) : Type 0 where
    pub leads : (c : ℕ) → c < n → free c ≡ true → Lead H m n c
    pub none : (c : ℕ) → c < n → free c ≡ false → Lead H m n c → ⊥

  module _ (H : ℕ → ℕ → C) (m n : ℕ) (free : ℕ → Bool) (tells : Tells H m n free) where
    -- a word of the code that is zero wherever it may be chosen is zero
    pub zero_word : (w : ℕ → C) → Solves H m n w → ((c : ℕ) → c < n → free c ≡ true → w c ≡ 𝟘) → (c : ℕ) → c < n → w c ≡ 𝟘
    zero_word w s z c h = upto n c h h
      where
        here : (k : ℕ) → k < n → ((j : ℕ) → j < k → w j ≡ 𝟘) → (b : Bool) → free k ≡ b → Dec (w k ≡ 𝟘) → w k ≡ 𝟘
        here k l low true e d = z k l e
        here k l low false e (yes p) = p
        here k l low false e (no p) = absurd (tells.none k l e (
          (λ j. F.inverse (w k) ⊗ w j),
          record {
            solves = λ r q. dot_mul F n (H r) w (F.inverse (w k)) ∙ ap (λ (y : C). F.inverse (w k) ⊗ y) (s r q) ∙ mul-zero F (F.inverse (w k));
            one = inverse_mul F (w k) p;
            below = λ j i. ap (λ (y : C). F.inverse (w k) ⊗ y) (low j i) ∙ mul-zero F (F.inverse (w k));
          },
        ))

        upto : (k : ℕ) (j : ℕ) → j < k → j < n → w j ≡ 𝟘
        upto zero j i l = absurd (let x : ⊥ = omega arith in x)
        upto (suc k) j i l = here j l (λ x y. upto k x (omega arith) (omega arith)) (free j) refl (F.same (w j) 𝟘)

    -- two words of the code that agree wherever they may be chosen are one
    pub alone : (u v : ℕ → C) → Solves H m n u → Solves H m n v → ((c : ℕ) → c < n → free c ≡ true → u c ≡ v c) → (c : ℕ) → c < n → u c ≡ v c
    alone u v su sv e c h =
        less_zero F (u c) (v c) (zero_word (λ j. u j ⊕ (less F ⊗ v j))
        (λ r q. dot_add F n (H r) u v (less F) ∙ ap₂ (λ (x y : C). x ⊕ (less F ⊗ y)) (su r q) (sv r q) ∙ F.zero-add (less F ⊗ 𝟘) ∙ mul-zero F (less F))
        (λ j l f. ap (λ (x : C). x ⊕ (less F ⊗ v j)) (e j l f) ∙ less_self F (v j)) c h)

    pub record Carries (s : ℕ → C) (k : ℕ) (w : ℕ → C) : Type 0 where
      pub solves : Solves H m n w
      pub carries : (c : ℕ) → c < k → free c ≡ true → w c ≡ s c

    carry : (s : ℕ → C) (k : ℕ) → k ≤ n → (w : ℕ → C) × Carries s k w
    carry s zero l = ((λ c. 𝟘), record { solves = λ r q. dot_zero F n (H r) (λ c. 𝟘) (λ c i. refl); carries = λ c i. absurd (let x : ⊥ = omega arith in x) })
    carry s (suc k) l = go (carry s k (omega arith)) (free k) refl
      where
        go : (w : ℕ → C) × Carries s k w → (b : Bool) → free k ≡ b → (w : ℕ → C) × Carries s (suc k) w
        go (w, cw) false e = (w, record { solves = cw.solves; carries = λ c i f. elim (last k c i) [ inl p ↦ absurd (no_both f (ap free (sym p) ∙ e)) | inr j ↦ cw.carries c j f ] })
        go (w, cw) true e = (next, record { solves = solves_next; carries = carries_next })
          where
            led : Lead H m n k
            led = tells.leads k l e

            v : ℕ → C
            v = led.0

            h : C
            h = s k ⊕ (less F ⊗ w k)

            next : ℕ → C
            next c = w c ⊕ (h ⊗ v c)

            solves_next : Solves H m n next
            solves_next r q = dot_add F n (H r) w v h ∙ ap₂ (λ (x y : C). x ⊕ (h ⊗ y)) (cw.solves r q) (led.1.solves r q) ∙ F.zero-add (h ⊗ 𝟘) ∙ mul-zero F h

            carries_next : (c : ℕ) → c < suc k → free c ≡ true → next c ≡ s c
            carries_next c i f = elim (last k c i) [
              | inl p ↦ subst (λ (x : ℕ). next x ≡ s x) p (ap (λ (y : C). w k ⊕ (h ⊗ y)) led.1.one ∙ ap (λ (y : C). w k ⊕ y) (mul-one F h) ∙ less_up F (s k) (w k))
              | inr j ↦ ap (λ (y : C). w c ⊕ (h ⊗ y)) (led.1.below c j) ∙ ap (λ (y : C). w c ⊕ y) (mul-zero F h) ∙ add-zero F (w c) ∙ cw.carries c j f
            ]

    -- some word of the code has the given symbols wherever they may be chosen
    pub some_word_is : (s : ℕ → C) → (w : ℕ → C) × Carries s n w
    some_word_is s = carry s n (omega arith)
