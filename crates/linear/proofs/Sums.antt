-- Sums over the numbers below n, and how many pass a test. Assumes nothing.
use Rattle.std.proofs.Common.{◌≡◌, ℕ, zero, suc, ◌<◌, cond, eqb, ◌⊎◌, sym, refl, ap, ◌∙◌, ap₂, inl, inr, arith}
use Rattle.linear.proofs.Tests.{last, eqb_same, eqb_not}
use Rattle.linear.proofs.Ring.{Field, add_left_comm, add-zero, mul-zero, mul_left_comm}

module _ {C : Type 0} {◌⊕◌ ◌⊗◌ : C → C → C} {𝟘 𝟙 : C} (F : Field ◌⊕◌ ◌⊗◌ 𝟘 𝟙) where
  infixl 65 ◌⊕◌
  infixl 70 ◌⊗◌
  unfoldable pub sum : ℕ → (ℕ → C) → C
  sum zero f = 𝟘
  sum (suc n) f = f n ⊕ sum n f

  pub sum_same : (n : ℕ) (f g : ℕ → C) → ((x : ℕ) → x < n → f x ≡ g x) → sum n f ≡ sum n g
  unfolding sum
  sum_same zero f g h = refl
  sum_same (suc n) f g h = ap₂ ◌⊕◌ (h n (omega arith)) (sum_same n f g (λ x l. h x (omega arith)))

  pub sum_zero : (n : ℕ) (f : ℕ → C) → ((x : ℕ) → x < n → f x ≡ 𝟘) → sum n f ≡ 𝟘
  unfolding sum
  sum_zero zero f h = refl
  sum_zero (suc n) f h = ap₂ ◌⊕◌ (h n (omega arith)) (sum_zero n f (λ x l. h x (omega arith))) ∙ F.zero-add 𝟘

  pub sum_add : (n : ℕ) (f g : ℕ → C) → sum n (λ x. f x ⊕ g x) ≡ sum n f ⊕ sum n g
  unfolding sum
  sum_add zero f g = sym (F.zero-add 𝟘)
  sum_add (suc n) f g = ap (λ (y : C). (f n ⊕ g n) ⊕ y) (sum_add n f g) ∙ simp (F.add_assoc, F.add_comm, add_left_comm F)

  pub sum_mul : (n : ℕ) (h : C) (f : ℕ → C) → sum n (λ x. h ⊗ f x) ≡ h ⊗ sum n f
  unfolding sum
  sum_mul zero h f = sym (mul-zero F h)
  sum_mul (suc n) h f = ap (λ (y : C). (h ⊗ f n) ⊕ y) (sum_mul n h f) ∙ sym (F.mul-add h (f n) (sum n f))

  -- all but one are zero
  pub sum_one : (n p : ℕ) (f : ℕ → C) → p < n → ((x : ℕ) → x < n → ¬ (x ≡ p) → f x ≡ 𝟘) → sum n f ≡ f p
  unfolding sum
  sum_one zero p f l h = absurd (let z : ⊥ = omega arith in z)
  sum_one (suc n) p f l h = go (last n p l) (λ k. sum_one n p f k (λ x m. h x (omega arith)))
    where
      go : (n ≡ p) ⊎ (p < n) → (p < n → sum n f ≡ f p) → f n ⊕ sum n f ≡ f p
      go (inl e) ih = ap (λ (y : C). f n ⊕ y) (sum_zero n f (λ x m. h x (omega arith) (λ z. omega arith))) ∙ add-zero F (f n) ∙ ap f e
      go (inr k) ih = ap₂ ◌⊕◌ (h n (omega arith) (λ z. omega arith)) (ih k) ∙ F.zero-add (f p)

  pub sum_turn : (m n : ℕ) (f : ℕ → ℕ → C) → sum m (λ r. sum n (λ c. f r c)) ≡ sum n (λ c. sum m (λ r. f r c))
  unfolding sum
  sum_turn zero n f = sym (sum_zero n (λ c. 𝟘) (λ x l. refl))
  sum_turn (suc m) n f = ap (λ (y : C). sum n (f m) ⊕ y) (sum_turn m n f) ∙ sym (sum_add n (f m) (λ c. sum m (λ r. f r c)))

  -- a row on a word
  abbrev pub dot : ℕ → (ℕ → C) → (ℕ → C) → C
  dot n a w = sum n (λ c. a c ⊗ w c)

  pub dot_turned : (n : ℕ) (a w : ℕ → C) → dot n a w ≡ dot n w a
  dot_turned n a w = sum_same n (λ c. a c ⊗ w c) (λ c. w c ⊗ a c) (λ c l. F.mul_comm (a c) (w c))

  pub dot_add : (n : ℕ) (a u v : ℕ → C) (h : C) → dot n a (λ c. u c ⊕ (h ⊗ v c)) ≡ dot n a u ⊕ (h ⊗ dot n a v)
  dot_add n a u v h =
      sum_same n (λ c. a c ⊗ (u c ⊕ (h ⊗ v c))) (λ c. (a c ⊗ u c) ⊕ (h ⊗ (a c ⊗ v c))) (λ c l. F.mul-add (a c) (u c) (h ⊗ v c) ∙ ap (λ (y : C). (a c ⊗ u c) ⊕ y) (mul_left_comm F (a c) h (v c)))
      ∙ sum_add n (λ c. a c ⊗ u c) (λ c. h ⊗ (a c ⊗ v c))
      ∙ ap (λ (y : C). dot n a u ⊕ y) (sum_mul n h (λ c. a c ⊗ v c))

  pub dot_add_left : (n : ℕ) (u v a : ℕ → C) (h : C) → dot n (λ c. u c ⊕ (h ⊗ v c)) a ≡ dot n u a ⊕ (h ⊗ dot n v a)
  dot_add_left n u v a h =
      dot_turned n (λ c. u c ⊕ (h ⊗ v c)) a ∙ dot_add n a u v h ∙ ap₂ (λ (x y : C). x ⊕ (h ⊗ y)) (dot_turned n a u) (dot_turned n a v)

  pub dot_mul : (n : ℕ) (a v : ℕ → C) (h : C) → dot n a (λ c. h ⊗ v c) ≡ h ⊗ dot n a v
  dot_mul n a v h = sum_same n (λ c. a c ⊗ (h ⊗ v c)) (λ c. h ⊗ (a c ⊗ v c)) (λ c l. mul_left_comm F (a c) h (v c)) ∙ sum_mul n h (λ c. a c ⊗ v c)

  pub dot_zero : (n : ℕ) (a w : ℕ → C) → ((c : ℕ) → c < n → w c ≡ 𝟘) → dot n a w ≡ 𝟘
  dot_zero n a w h = sum_zero n (λ c. a c ⊗ w c) (λ c l. ap (λ (y : C). a c ⊗ y) (h c l) ∙ mul-zero F (a c))

  -- the word that is one at p alone
  unfoldable pub unit : ℕ → ℕ → C
  unit p c = cond (eqb c p) 𝟙 𝟘

  pub unit_same : (p : ℕ) → unit p p ≡ 𝟙
  unfolding unit
  unit_same p = rw (eqb_same p)

  pub unit_other : (p c : ℕ) → ¬ (c ≡ p) → unit p c ≡ 𝟘
  unfolding unit
  unit_other p c h = rw (eqb_not c p h)

  pub dot_unit : (n p : ℕ) (a : ℕ → C) → p < n → dot n a (unit p) ≡ a p
  dot_unit n p a l =
      sum_one n p (λ c. a c ⊗ unit p c) l (λ c k h. ap (λ (y : C). a c ⊗ y) (unit_other p c h) ∙ mul-zero F (a c))
      ∙ ap (λ (y : C). a p ⊗ y) (unit_same p) ∙ F.mul_comm (a p) 𝟙 ∙ F.one-mul (a p)
