-- Inverses in a quadratic tower without a root, over any field. Assumes nothing.
use Rattle.std.specs.Prelude.{◌≡◌}
use Rattle.std.proofs.Common.{sym, ap, ap₂, ◌∙◌}
use Rattle.tower.specs.Algebra.{Ring, mul_left_comm, add-mul, low, high}

module _ {C : Type 0} {◌⊕◌ ◌⊗◌ : C → C → C} (R : Ring ◌⊕◌ ◌⊗◌) (nil one : C) (neg : C → C)
    (zero-add : (a : C) → nil ⊕ a ≡ a) (one-mul : (a : C) → one ⊗ a ≡ a) (add_neg : (a : C) → a ⊕ neg a ≡ nil) where
  infixl 65 ◌⊕◌
  infixl 70 ◌⊗◌
  pub add-zero : (a : C) → a ⊕ nil ≡ a
  add-zero a = R.add_comm a nil ∙ zero-add a

  mul-one : (a : C) → a ⊗ one ≡ a
  mul-one a = R.mul_comm a one ∙ one-mul a

  -- what stands on both sides of a sum goes
  cancel : (a b c : C) → a ⊕ b ≡ a ⊕ c → b ≡ c
  cancel a b c e =
      let back : (x : C) → neg a ⊕ (a ⊕ x) ≡ x = λ x. sym (R.add_assoc (neg a) a x) ∙ ap (λ (y : C). y ⊕ x) (R.add_comm (neg a) a ∙ add_neg a) ∙ zero-add x in
      sym (back b) ∙ ap (λ (y : C). neg a ⊕ y) e ∙ back c

  pub mul-zero : (a : C) → a ⊗ nil ≡ nil
  mul-zero a = cancel (a ⊗ nil) (a ⊗ nil) nil (sym (R.mul-add a nil nil) ∙ ap (λ (y : C). a ⊗ y) (zero-add nil) ∙ sym (add-zero (a ⊗ nil)))

  pub zero-mul : (a : C) → nil ⊗ a ≡ nil
  zero-mul a = R.mul_comm nil a ∙ mul-zero a

  mul_neg : (a b : C) → a ⊗ neg b ≡ neg (a ⊗ b)
  mul_neg a b = cancel (a ⊗ b) (a ⊗ neg b) (neg (a ⊗ b)) (sym (R.mul-add a b (neg b)) ∙ ap (λ (y : C). a ⊗ y) (add_neg b) ∙ mul-zero a ∙ sym (add_neg (a ⊗ b)))

  neg_mul : (a b : C) → neg a ⊗ b ≡ neg (a ⊗ b)
  neg_mul a b = R.mul_comm (neg a) b ∙ mul_neg b a ∙ ap neg (R.mul_comm b a)

  neg_neg : (a : C) → neg (neg a) ≡ a
  neg_neg a = cancel (neg a) (neg (neg a)) a (add_neg (neg a) ∙ sym (R.add_comm (neg a) a ∙ add_neg a))

  module _ (u v : C) where
    abbrev pub norm : C → C → C
    norm l h = (l ⊗ (l ⊕ u ⊗ h)) ⊕ (v ⊗ (h ⊗ neg h))

    -- (l + h·y)(l + u·h − h·y) is the norm, so that it has no high part
    pub times_mate_high : (l h : C) → high R u v l h (l ⊕ u ⊗ h) (neg h) ≡ nil
    times_mate_high l h =
        ap (λ (x : C). ((l ⊗ neg h) ⊕ (h ⊗ (l ⊕ u ⊗ h))) ⊕ x) (ap (λ (y : C). u ⊗ y) (mul_neg h h) ∙ mul_neg u (h ⊗ h))
        ∙ ap (λ (x : C). (x ⊕ (h ⊗ (l ⊕ u ⊗ h))) ⊕ neg (u ⊗ (h ⊗ h))) (mul_neg l h)
        ∙ ap (λ (x : C). (neg (l ⊗ h) ⊕ x) ⊕ neg (u ⊗ (h ⊗ h))) (R.mul-add h l (u ⊗ h) ∙ ap₂ ◌⊕◌ (R.mul_comm h l) (mul_left_comm R h u h))
        ∙ ap (λ (x : C). x ⊕ neg (u ⊗ (h ⊗ h))) (sym (R.add_assoc (neg (l ⊗ h)) (l ⊗ h) (u ⊗ (h ⊗ h))) ∙ ap (λ (x : C). x ⊕ (u ⊗ (h ⊗ h))) (R.add_comm (neg (l ⊗ h)) (l ⊗ h) ∙ add_neg (l ⊗ h)) ∙ zero-add (u ⊗ (h ⊗ h)))
        ∙ add_neg (u ⊗ (h ⊗ h))

    -- a factor goes through
    pub scale_low : (l h m k c : C) → low R u v l h (m ⊗ c) (k ⊗ c) ≡ low R u v l h m k ⊗ c
    scale_low l h m k c = simp (add-mul R, R.mul_assoc)

    pub scale_high : (l h m k c : C) → high R u v l h (m ⊗ c) (k ⊗ c) ≡ high R u v l h m k ⊗ c
    scale_high l h m k c = simp (add-mul R, R.mul_assoc, R.add_assoc)

    -- the norm is 0 at h ≢ 0 only if −l/h is a root
    pub root_of : (l h k : C) → h ⊗ k ≡ one → norm l h ≡ nil → (neg l ⊗ k) ⊗ (neg l ⊗ k) ≡ (u ⊗ (neg l ⊗ k)) ⊕ v
    root_of l h k hk z =
        let a : C = (l ⊗ k) ⊗ (l ⊗ k) in
        let b : C = u ⊗ (l ⊗ k) in
        let spread : norm l h ⊗ (k ⊗ k) ≡ (a ⊕ (b ⊗ (h ⊗ k))) ⊕ neg (v ⊗ ((h ⊗ k) ⊗ (h ⊗ k))) =
        simp (mul_neg, neg_mul, R.mul-add, add-mul R, R.mul_assoc, mul_left_comm R, R.add_assoc) in
        let ones : (a ⊕ (b ⊗ (h ⊗ k))) ⊕ neg (v ⊗ ((h ⊗ k) ⊗ (h ⊗ k))) ≡ (a ⊕ b) ⊕ neg v =
        simp (hk, one-mul, mul-one) in
        let whole : (a ⊕ b) ⊕ neg v ≡ nil = sym (spread ∙ ones) ∙ ap (λ (x : C). x ⊗ (k ⊗ k)) z ∙ R.mul_comm nil (k ⊗ k) ∙ mul-zero (k ⊗ k) in
        let is-v : a ⊕ b ≡ v = cancel (neg v) (a ⊕ b) v (R.add_comm (neg v) (a ⊕ b) ∙ whole ∙ sym (R.add_comm (neg v) v ∙ add_neg v)) in
        let left : (neg l ⊗ k) ⊗ (neg l ⊗ k) ≡ a = simp (neg_mul, mul_neg, neg_neg) in
        let right : u ⊗ (neg l ⊗ k) ≡ neg b = simp (neg_mul, mul_neg) in
        left ∙ cancel b a (neg b ⊕ v) (R.add_comm b a ∙ is-v ∙ sym (sym (R.add_assoc b (neg b) v) ∙ ap (λ (x : C). x ⊕ v) (add_neg b) ∙ zero-add v))
        ∙ ap (λ (x : C). x ⊕ v) (sym right)

    -- the base's codes keep their product
    pub base_low : (a b : C) → low R u v a nil b nil ≡ a ⊗ b
    base_low a b = simp (mul-zero, add-zero)

    pub base_high : (a b : C) → high R u v a nil b nil ≡ nil
    base_high a b = simp (mul-zero, zero-mul, add-zero)

    -- y·y = v + u·y
    pub square_low : low R u v nil one nil one ≡ v
    square_low = simp (zero-mul, one-mul, mul-one, zero-add)

    pub square_high : high R u v nil one nil one ≡ u
    square_high = simp (zero-mul, mul-zero, one-mul, mul-one, zero-add)

    -- h·y
    pub raised_low : (h : C) → low R u v h nil nil one ≡ nil
    raised_low h = simp (mul-zero, zero-mul, zero-add)

    pub raised_high : (h : C) → high R u v h nil nil one ≡ h
    raised_high h = simp (mul-zero, zero-mul, mul-one, add-zero)
