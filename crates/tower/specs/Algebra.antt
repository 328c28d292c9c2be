-- The identities of a quadratic tower over any commutative ring. Assumes nothing.
use Rattle.std.specs.Prelude.{◌≡◌}
use Rattle.std.proofs.Common.{sym, ap, ap₂, ◌∙◌}

module _ {C : Type 0} (◌⊕◌ ◌⊗◌ : C → C → C) where
  infixl 65 ◌⊕◌
  infixl 70 ◌⊗◌
  pub record Ring : Type 0 where
    pub add_comm : (a b : C) → a ⊕ b ≡ b ⊕ a
    pub add_assoc : (a b c : C) → (a ⊕ b) ⊕ c ≡ a ⊕ (b ⊕ c)
    pub mul_comm : (a b : C) → a ⊗ b ≡ b ⊗ a
    pub mul_assoc : (a b c : C) → (a ⊗ b) ⊗ c ≡ a ⊗ (b ⊗ c)
    pub mul-add : (a b c : C) → a ⊗ (b ⊕ c) ≡ (a ⊗ b) ⊕ (a ⊗ c)

module _ {C : Type 0} {◌⊕◌ ◌⊗◌ : C → C → C} (R : Ring ◌⊕◌ ◌⊗◌) where
  infixl 65 ◌⊕◌
  infixl 70 ◌⊗◌
  pub add_left_comm : (a b c : C) → a ⊕ (b ⊕ c) ≡ b ⊕ (a ⊕ c)
  add_left_comm a b c = sym (R.add_assoc a b c) ∙ ap (λ (x : C). x ⊕ c) (R.add_comm a b) ∙ R.add_assoc b a c

  pub mul_left_comm : (a b c : C) → a ⊗ (b ⊗ c) ≡ b ⊗ (a ⊗ c)
  mul_left_comm a b c = sym (R.mul_assoc a b c) ∙ ap (λ (x : C). x ⊗ c) (R.mul_comm a b) ∙ R.mul_assoc b a c

  pub add-mul : (a b c : C) → (a ⊕ b) ⊗ c ≡ (a ⊗ c) ⊕ (b ⊗ c)
  add-mul a b c = R.mul_comm (a ⊕ b) c ∙ R.mul-add c a b ∙ ap₂ ◌⊕◌ (R.mul_comm c a) (R.mul_comm c b)

module _ {C : Type 0} {◌⊕◌ ◌⊗◌ : C → C → C} (R : Ring ◌⊕◌ ◌⊗◌) (u v : C) where
  infixl 65 ◌⊕◌
  infixl 70 ◌⊗◌
  abbrev pub low : C → C → C → C → C
  low l h m k = (l ⊗ m) ⊕ (v ⊗ (h ⊗ k))

  abbrev pub high : C → C → C → C → C
  high l h m k = ((l ⊗ k) ⊕ (h ⊗ m)) ⊕ (u ⊗ (h ⊗ k))

  pub assoc_low : (a b c d e f : C) → low (low a b c d) (high a b c d) e f ≡ low a b (low c d e f) (high c d e f)
  assoc_low a b c d e f = simp (R.mul-add, add-mul R, R.mul_assoc, mul_left_comm R, R.add_assoc, add_left_comm R)

  pub assoc_high : (a b c d e f : C) → high (low a b c d) (high a b c d) e f ≡ high a b (low c d e f) (high c d e f)
  assoc_high a b c d e f = simp (R.mul-add, add-mul R, R.mul_assoc, mul_left_comm R, R.add_assoc, R.add_comm, add_left_comm R)

  pub spread_low : (a b c d e f : C) → low a b (c ⊕ e) (d ⊕ f) ≡ low a b c d ⊕ low a b e f
  spread_low a b c d e f = simp (R.mul-add, R.add_assoc, add_left_comm R)

  pub spread_high : (a b c d e f : C) → high a b (c ⊕ e) (d ⊕ f) ≡ high a b c d ⊕ high a b e f
  spread_high a b c d e f = simp (R.mul-add, R.add_assoc, add_left_comm R)

  pub comm_low : (a b c d : C) → low a b c d ≡ low c d a b
  comm_low a b c d = simp R.mul_comm

  pub comm_high : (a b c d : C) → high a b c d ≡ high c d a b
  comm_high a b c d = simp (R.mul_comm, R.add_assoc, R.add_comm)

  -- sum and product of a + b·y and c + d·y, in any ring with such a y
  pub expand_sum : (a b c d y : C) → (a ⊕ (b ⊗ y)) ⊕ (c ⊕ (d ⊗ y)) ≡ (a ⊕ c) ⊕ ((b ⊕ d) ⊗ y)
  expand_sum a b c d y = simp (add-mul R, R.add_assoc, add_left_comm R)

  pub expand_product : (a b c d y : C) → y ⊗ y ≡ (u ⊗ y) ⊕ v → (a ⊕ (b ⊗ y)) ⊗ (c ⊕ (d ⊗ y)) ≡ low a b c d ⊕ (high a b c d ⊗ y)
  expand_product a b c d y e =
      let spread : (a ⊕ (b ⊗ y)) ⊗ (c ⊕ (d ⊗ y)) ≡ ((a ⊗ c) ⊕ (((a ⊗ d) ⊕ (b ⊗ c)) ⊗ y)) ⊕ ((b ⊗ d) ⊗ (y ⊗ y)) =
      simp (R.mul-add, add-mul R, R.mul_assoc, R.mul_comm, mul_left_comm R, R.add_assoc, add_left_comm R) in
      let gathered : ((a ⊗ c) ⊕ (((a ⊗ d) ⊕ (b ⊗ c)) ⊗ y)) ⊕ ((b ⊗ d) ⊗ ((u ⊗ y) ⊕ v)) ≡ low a b c d ⊕ (high a b c d ⊗ y) =
      simp (R.mul-add, add-mul R, R.mul_assoc, R.mul_comm, mul_left_comm R, R.add_assoc, R.add_comm, add_left_comm R) in
      spread ∙ ap (λ (x : C). ((a ⊗ c) ⊕ (((a ⊗ d) ⊕ (b ⊗ c)) ⊗ y)) ⊕ ((b ⊗ d) ⊗ x)) e ∙ gathered
