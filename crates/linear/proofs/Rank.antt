-- The columns that no word begins with are as many as the most rows that stand apart. Assumes nothing.
use Rattle.std.proofs.Common.{◌≡◌, ℕ, ◌<◌, ◌≤◌, Bool, true, false, not, sym, refl, ap, ◌∙◌, arith}
use native.Mathlib.Decide.{dec_le}
use Rattle.linear.specs.Count.{count}
use Rattle.linear.proofs.Tests.{no_both}
use Rattle.linear.proofs.Counts.{count_all, count_most, count_whole}
use Rattle.linear.proofs.Ring.{Field, mul_left_comm, mul-zero, mul-one, zero-mul}
use Rattle.linear.proofs.Sums.{sum, sum_same, sum_mul, sum_one, sum_turn, dot, unit, unit_same, unit_other}
use Rattle.linear.proofs.Words.{Solves, Tells, Carries, zero_word, some_word_is}
use Rattle.linear.proofs.Many.{more_columns}

pub turned : {C : Type 0} → (ℕ → ℕ → C) → ℕ → ℕ → C
turned H c r = H r c

module _ {C : Type 0} {◌⊕◌ ◌⊗◌ : C → C → C} {𝟘 𝟙 : C} (F : Field ◌⊕◌ ◌⊗◌ 𝟘 𝟙) where
  infixl 65 ◌⊕◌
  infixl 70 ◌⊗◌
  -- no combination of the rows that pass is zero unless all its factors are
  abbrev pub Apart : (ℕ → ℕ → C) → ℕ → ℕ → (ℕ → Bool) → Type 0
  Apart H m n chosen = (g : ℕ → C) → Solves F (λ c r. H r c) n m g → ((r : ℕ) → r < m → chosen r ≡ false → g r ≡ 𝟘) → (r : ℕ) → r < m → g r ≡ 𝟘

  dots_turn : (H : ℕ → ℕ → C) (m n : ℕ) (g w : ℕ → C) → dot F n (λ c. dot F m (λ r. H r c) g) w ≡ dot F m (λ r. dot F n (H r) w) g
  dots_turn H m n g w =
      sum_same F n (λ c. dot F m (λ r. H r c) g ⊗ w c) (λ c. sum F m (λ r. w c ⊗ (H r c ⊗ g r)))
      (λ c l. F.mul_comm (dot F m (λ r. H r c) g) (w c) ∙ sym (sum_mul F m (w c) (λ r. H r c ⊗ g r)))
      ∙ sum_turn F n m (λ c r. w c ⊗ (H r c ⊗ g r))
      ∙ sum_same F m (λ r. sum F n (λ c. w c ⊗ (H r c ⊗ g r))) (λ r. dot F n (H r) w ⊗ g r)
      (λ r l. sum_same F n (λ c. w c ⊗ (H r c ⊗ g r)) (λ c. g r ⊗ (H r c ⊗ w c)) (λ c k. swapped (w c) (H r c) (g r))
      ∙ sum_mul F n (g r) (λ c. H r c ⊗ w c) ∙ F.mul_comm (g r) (dot F n (H r) w))
    where
      swapped : (a b c : C) → a ⊗ (b ⊗ c) ≡ c ⊗ (b ⊗ a)
      swapped a b c = simp (F.mul_assoc, F.mul_comm, mul_left_comm F)

  module _ (H : ℕ → ℕ → C) (m n : ℕ) (free : ℕ → Bool) (tells : Tells F H m n free) where
    -- a combination of rows that is zero in each check column is zero
    pub checks_suffice : (g : ℕ → C) → ((c : ℕ) → c < n → free c ≡ false → dot F m (λ r. H r c) g ≡ 𝟘) → Solves F (λ c r. H r c) n m g
    checks_suffice g z c l = here (free c) refl
      where
        y : ℕ → C
        y j = dot F m (λ r. H r j) g

        v : (w : ℕ → C) × Carries F H m n free tells (unit F c) n w
        v = some_word_is F H m n free tells (unit F c)

        off : (j : ℕ) → j < n → ¬ (j ≡ c) → (b : Bool) → free j ≡ b → y j ⊗ v.0 j ≡ 𝟘
        off j k ne true e = ap (λ (x : C). y j ⊗ x) (v.1.carries j k e ∙ unit_other F c j ne) ∙ mul-zero F (y j)
        off j k ne false e = ap (λ (x : C). x ⊗ v.0 j) (z j k e) ∙ zero-mul F (v.0 j)

        here : (b : Bool) → free c ≡ b → y c ≡ 𝟘
        here false e = z c l e
        here true e =
            sym (mul-one F (y c)) ∙ ap (λ (x : C). y c ⊗ x) (sym (v.1.carries c l e ∙ unit_same F c))
            ∙ sym (sum_one F n c (λ j. y j ⊗ v.0 j) l (λ j k ne. off j k ne (free j) refl))
            ∙ dots_turn H m n g v.0
            ∙ sum_same F m (λ r. dot F n (H r) v.0 ⊗ g r) (λ r. 𝟘 ⊗ g r) (λ r k. ap (λ (x : C). x ⊗ g r) (v.1.solves r k))
            ∙ sum_mul F m 𝟘 g ∙ zero-mul F (sum F m g)

    -- rows that stand apart are no more than the check columns
    pub apart_few : (chosen : ℕ → Bool) → Apart H m n chosen → count m chosen ≤ count n (λ c. not (free c))
    apart_few chosen apart = go (dec_le (count m chosen) (count n (λ c. not (free c))))
      where
        go : Dec (count m chosen ≤ count n (λ c. not (free c))) → count m chosen ≤ count n (λ c. not (free c))
        go (yes h) = h
        go (no h) =
            let w = more_columns F n m (λ c. not (free c)) chosen (omega arith) (λ c r. H r c) in
            absurd (w.1.place_not (apart w.0 (checks_suffice w.0 (λ c l e. w.1.solves c l (ap not e))) w.1.within w.1.place w.1.place_below))

    -- the check columns stand apart
    pub checks_apart : Apart (λ c r. H r c) n m (λ c. not (free c))
    checks_apart g s z c l = zero_word F H m n free tells g s (λ j k e. z j k (ap not e)) c l

  -- rows and columns alike
  module _ (H : ℕ → ℕ → C) (m n : ℕ) (free eerf : ℕ → Bool) (tells : Tells F H m n free) (sllet : Tells F (λ c r. H r c) n m eerf) where
    pub rank_same : count m (λ r. not (eerf r)) ≡ count n (λ c. not (free c))
    rank_same =
        let a = apart_few H m n free tells (λ r. not (eerf r)) (checks_apart (λ c r. H r c) n m eerf sllet) in
        let b = apart_few (λ c r. H r c) n m eerf sllet (λ c. not (free c)) (checks_apart H m n free tells) in
        omega arith

    pub rank_reached : (chosen : ℕ → Bool) × (count m chosen ≡ count n (λ c. not (free c))) × Apart H m n chosen
    rank_reached = ((λ r. not (eerf r)), rank_same, checks_apart (λ c r. H r c) n m eerf sllet)

    pub checks_most : count n (λ c. not (free c)) ≤ m
    checks_most = let a = count_most m (λ r. not (eerf r)) in let b = rank_same in omega arith

    -- all rows stand apart exactly if there are as many check columns
    pub all_apart : Apart H m n (λ r. true) → count n (λ c. not (free c)) ≡ m
    all_apart a =
        let few = apart_few H m n free tells (λ r. true) a in
        let all = count_whole m (λ r. true) (λ x l. refl) in
        let most = checks_most in
        omega arith

    pub all_checks : count n (λ c. not (free c)) ≡ m → Apart H m n (λ r. true)
    all_checks e g s z r l =
        let b = rank_same in
        checks_apart (λ c r. H r c) n m eerf sllet g s (λ x k f. absurd (no_both (count_all m (λ r. not (eerf r)) (omega arith) x k) f)) r l
