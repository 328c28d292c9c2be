-- A column leads a word exactly if it is a combination of higher columns. Assumes nothing.
use Rattle.std.proofs.Common.{◌≡◌, ℕ, ◌<◌, ◌≤◌, Bool, true, false, cond, ltb, sym, ap, ◌∙◌, ap₂, arith, le-ltb, lt-ltb}
use native.Mathlib.Decide.{ℕ_discrete, dec_lt}
use Rattle.linear.proofs.Ring.{Field, add-zero, mul-zero, less, less_self, less_zero, cancel}
use Rattle.linear.proofs.Sums.{sum, sum_same, dot, dot_add, unit, unit_same, unit_other, dot_unit}
use Rattle.linear.proofs.Words.{Leads}

module _ {C : Type 0} {◌⊕◌ ◌⊗◌ : C → C → C} {𝟘 𝟙 : C} (F : Field ◌⊕◌ ◌⊗◌ 𝟘 𝟙) where
  infixl 65 ◌⊕◌
  infixl 70 ◌⊗◌
  less_twice : (a : C) → less F ⊗ (less F ⊗ a) ≡ a
  less_twice a = cancel F (less F ⊗ a) (less F ⊗ (less F ⊗ a)) a (less_self F (less F ⊗ a) ∙ sym (less_self F a) ∙ F.add_comm a (less F ⊗ a))

  -- the factors of the columns above c alone
  above : ℕ → (ℕ → C) → ℕ → C
  above c f j = cond (ltb c j) (f j) 𝟘

  above_yes : (c : ℕ) (f : ℕ → C) (j : ℕ) → c < j → above c f j ≡ f j
  unfolding above
  above_yes c f j h = rw (lt-ltb c j h)

  above_no : (c : ℕ) (f : ℕ → C) (j : ℕ) → j ≤ c → above c f j ≡ 𝟘
  unfolding above
  above_no c f j h = rw (le-ltb c j h)

  abbrev pub Combined : (ℕ → ℕ → C) → ℕ → ℕ → ℕ → (ℕ → C) → Type 0
  Combined H m n c f = (r : ℕ) → r < m → H r c ≡ sum F n (λ j. cond (ltb c j) (f j ⊗ H r j) 𝟘)

  module _ (H : ℕ → ℕ → C) (m n c : ℕ) (l : c < n) where
    as_dot : (f : ℕ → C) (r : ℕ) → sum F n (λ j. cond (ltb c j) (f j ⊗ H r j) 𝟘) ≡ dot F n (H r) (above c f)
    unfolding above
    as_dot f r = sum_same F n (λ j. cond (ltb c j) (f j ⊗ H r j) 𝟘) (λ j. H r j ⊗ cond (ltb c j) (f j) 𝟘) (λ j k. at (ltb c j) (f j) (H r j))
      where
        at : (b : Bool) (x y : C) → cond b (x ⊗ y) 𝟘 ≡ y ⊗ cond b x 𝟘
        at true x y = F.mul_comm x y
        at false x y = sym (mul-zero F y)

    pub word : (ℕ → C) → ℕ → C
    word f j = unit F c j ⊕ (less F ⊗ above c f j)

    word_dot : (f : ℕ → C) (r : ℕ) → dot F n (H r) (word f) ≡ H r c ⊕ (less F ⊗ dot F n (H r) (above c f))
    unfolding word
    word_dot f r = dot_add F n (H r) (unit F c) (above c f) (less F) ∙ ap (λ (y : C). y ⊕ (less F ⊗ dot F n (H r) (above c f))) (dot_unit F n c (H r) l)

    word_low : (f : ℕ → C) (j : ℕ) → j ≤ c → word f j ≡ unit F c j
    unfolding word
    word_low f j h = ap (λ (y : C). unit F c j ⊕ (less F ⊗ y)) (above_no c f j h) ∙ ap (λ (y : C). unit F c j ⊕ y) (mul-zero F (less F)) ∙ add-zero F (unit F c j)

    pub combined_leads : (f : ℕ → C) → Combined H m n c f → Leads F H m n c (word f)
    combined_leads f e = record {
      solves = λ r k. word_dot f r ∙ ap (λ (y : C). H r c ⊕ (less F ⊗ y)) (sym (as_dot f r) ∙ sym (e r k)) ∙ less_self F (H r c);
      one = word_low f c (omega arith) ∙ unit_same F c;
      below = λ j h. word_low f j (omega arith) ∙ unit_other F c j (λ z. omega arith);
    }

    pub factors : (ℕ → C) → ℕ → C
    factors w j = less F ⊗ w j

    same_word : (w : ℕ → C) → Leads F H m n c w → (j : ℕ) → Dec (j < c) → Dec (j ≡ c) → w j ≡ word (factors w) j
    unfolding word factors
    same_word w s j (yes h) d = s.below j h ∙ sym (word_low (factors w) j (omega arith) ∙ unit_other F c j (λ z. omega arith))
    same_word w s j (no h) (yes e) = ap w e ∙ s.one ∙ sym (ap (word (factors w)) e ∙ word_low (factors w) c (omega arith) ∙ unit_same F c)
    same_word w s j (no h) (no d) =
        let up : c < j = omega arith in
        sym (ap₂ (λ (x y : C). x ⊕ (less F ⊗ y)) (unit_other F c j d) (above_yes c (factors w) j up) ∙ F.zero-add (less F ⊗ (less F ⊗ w j)) ∙ less_twice (w j))

    pub leads_combined : (w : ℕ → C) → Leads F H m n c w → Combined H m n c (factors w)
    leads_combined w s r k =
        less_zero F (H r c) (dot F n (H r) (above c (factors w)))
        (sym (word_dot (factors w) r)
        ∙ sym (sum_same F n (λ j. H r j ⊗ w j) (λ j. H r j ⊗ word (factors w) j) (λ j q. ap (λ (y : C). H r j ⊗ y) (same_word w s j (dec_lt j c) (ℕ_discrete j c))))
        ∙ s.solves r k)
        ∙ sym (as_dot (factors w) r)
