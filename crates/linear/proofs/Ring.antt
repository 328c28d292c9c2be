-- A field over any type, and what follows of its sums and products. Assumes nothing.
use Rattle.std.proofs.Common.{◌≡◌, sym, ap, ◌∙◌, ap₂}

module _ {C : Type 0} (◌⊕◌ ◌⊗◌ : C → C → C) (𝟘 𝟙 : C) where
  infixl 65 ◌⊕◌
  infixl 70 ◌⊗◌
  pub record Field : Type 0 where
    pub add_comm : (a b : C) → a ⊕ b ≡ b ⊕ a
    pub add_assoc : (a b c : C) → (a ⊕ b) ⊕ c ≡ a ⊕ (b ⊕ c)
    pub zero-add : (a : C) → 𝟘 ⊕ a ≡ a
    pub minus : C → C
    pub add_minus : (a : C) → a ⊕ minus a ≡ 𝟘
    pub mul_comm : (a b : C) → a ⊗ b ≡ b ⊗ a
    pub mul_assoc : (a b c : C) → (a ⊗ b) ⊗ c ≡ a ⊗ (b ⊗ c)
    pub one-mul : (a : C) → 𝟙 ⊗ a ≡ a
    pub inverse : C → C
    pub mul_inverse : (a : C) → ¬ (a ≡ 𝟘) → a ⊗ inverse a ≡ 𝟙
    pub mul-add : (a b c : C) → a ⊗ (b ⊕ c) ≡ (a ⊗ b) ⊕ (a ⊗ c)
    pub apart : ¬ (𝟙 ≡ 𝟘)
    pub same : (a b : C) → Dec (a ≡ b)

module _ {C : Type 0} {◌⊕◌ ◌⊗◌ : C → C → C} {𝟘 𝟙 : C} (F : Field ◌⊕◌ ◌⊗◌ 𝟘 𝟙) where
  infixl 65 ◌⊕◌
  infixl 70 ◌⊗◌
  pub add_left_comm : (a b c : C) → a ⊕ (b ⊕ c) ≡ b ⊕ (a ⊕ c)
  add_left_comm a b c = sym (F.add_assoc a b c) ∙ ap (λ (x : C). x ⊕ c) (F.add_comm a b) ∙ F.add_assoc b a c

  pub mul_left_comm : (a b c : C) → a ⊗ (b ⊗ c) ≡ b ⊗ (a ⊗ c)
  mul_left_comm a b c = sym (F.mul_assoc a b c) ∙ ap (λ (x : C). x ⊗ c) (F.mul_comm a b) ∙ F.mul_assoc b a c

  pub add-zero : (a : C) → a ⊕ 𝟘 ≡ a
  add-zero a = F.add_comm a 𝟘 ∙ F.zero-add a

  pub mul-one : (a : C) → a ⊗ 𝟙 ≡ a
  mul-one a = F.mul_comm a 𝟙 ∙ F.one-mul a

  pub add-mul : (a b c : C) → (a ⊕ b) ⊗ c ≡ (a ⊗ c) ⊕ (b ⊗ c)
  add-mul a b c = F.mul_comm (a ⊕ b) c ∙ F.mul-add c a b ∙ ap₂ ◌⊕◌ (F.mul_comm c a) (F.mul_comm c b)

  -- what is added to both sides goes away
  pub cancel : (a b c : C) → a ⊕ b ≡ a ⊕ c → b ≡ c
  cancel a b c e =
      let back : (x : C) → F.minus a ⊕ (a ⊕ x) ≡ x = λ x. sym (F.add_assoc (F.minus a) a x) ∙ ap (λ (y : C). y ⊕ x) (F.add_comm (F.minus a) a ∙ F.add_minus a) ∙ F.zero-add x in
      sym (back b) ∙ ap (λ (y : C). F.minus a ⊕ y) e ∙ back c

  pub mul-zero : (a : C) → a ⊗ 𝟘 ≡ 𝟘
  mul-zero a = cancel (a ⊗ 𝟘) (a ⊗ 𝟘) 𝟘 (sym (F.mul-add a 𝟘 𝟘) ∙ ap (λ (x : C). a ⊗ x) (F.zero-add 𝟘) ∙ sym (add-zero (a ⊗ 𝟘)))

  pub zero-mul : (a : C) → 𝟘 ⊗ a ≡ 𝟘
  zero-mul a = F.mul_comm 𝟘 a ∙ mul-zero a

  -- the factor that takes a to its opposite
  abbrev pub less : C
  less = F.minus 𝟙

  pub less_self : (a : C) → a ⊕ (less ⊗ a) ≡ 𝟘
  less_self a = ap (λ (x : C). x ⊕ (less ⊗ a)) (sym (F.one-mul a)) ∙ sym (add-mul 𝟙 less a) ∙ ap (λ (x : C). x ⊗ a) (F.add_minus 𝟙) ∙ zero-mul a

  pub less_zero : (a b : C) → a ⊕ (less ⊗ b) ≡ 𝟘 → a ≡ b
  less_zero a b e = cancel (less ⊗ b) a b (F.add_comm (less ⊗ b) a ∙ e ∙ sym (less_self b) ∙ F.add_comm b (less ⊗ b))

  -- b and what a lacks to it
  pub less_up : (a b : C) → b ⊕ (a ⊕ (less ⊗ b)) ≡ a
  less_up a b = add_left_comm b a (less ⊗ b) ∙ ap (λ (x : C). a ⊕ x) (less_self b) ∙ add-zero a

  pub inverse_mul : (a : C) → ¬ (a ≡ 𝟘) → F.inverse a ⊗ a ≡ 𝟙
  inverse_mul a h = F.mul_comm (F.inverse a) a ∙ F.mul_inverse a h
