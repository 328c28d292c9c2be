-- Fewer rows than columns leave a word that is not zero. Assumes nothing.
use Rattle.std.proofs.Common.{◌≡◌, ℕ, zero, suc, ◌<◌, ◌≤◌, Bool, true, false, cond, not, ◌&&◌, eqb, ◌⊎◌, sym, refl, ap, ◌∙◌, subst, inl, inr, arith}
use Rattle.linear.specs.Count.{count}
use Rattle.linear.proofs.Tests.{last, eqb_same, no_both}
use Rattle.linear.proofs.Counts.{counted, count_others}
use Rattle.linear.proofs.Ring.{Field, mul_left_comm, add-zero, mul-zero, zero-mul, less, less_self, inverse_mul}
use Rattle.linear.proofs.Sums.{sum_zero, dot, dot_add, dot_add_left, unit, unit_same, unit_other, dot_unit}

but : (ℕ → Bool) → ℕ → ℕ → Bool
but test p x = test x && not (eqb x p)

but_false : (test : ℕ → Bool) (p x : ℕ) → test x ≡ false → but test p x ≡ false
unfolding but
but_false test p x e = rw e

but_here : (test : ℕ → Bool) (p : ℕ) → but test p p ≡ false
unfolding but
but_here test p = rw (eqb_same p) (go (test p))
  where
    go : (b : Bool) → b && not true ≡ false
    go true = refl
    go false = refl

but_count : (n : ℕ) (test : ℕ → Bool) (p : ℕ) → count n test ≤ suc (count n (but test p))
unfolding but
but_count n test p = count_others n test p

module _ {C : Type 0} {◌⊕◌ ◌⊗◌ : C → C → C} {𝟘 𝟙 : C} (F : Field ◌⊕◌ ◌⊗◌ 𝟘 𝟙) where
  infixl 65 ◌⊕◌
  infixl 70 ◌⊗◌
  -- a word on the columns that pass, not zero, that satisfies the rows that pass
  pub record Nonzero (H : ℕ → ℕ → C) (m n : ℕ) (rows columns : ℕ → Bool) (w : ℕ → C) : Type 0 where
    pub solves : (r : ℕ) → r < m → rows r ≡ true → dot F n (H r) w ≡ 𝟘
    pub within : (c : ℕ) → c < n → columns c ≡ false → w c ≡ 𝟘
    pub place : ℕ
    pub place_below : place < n
    pub place_not : ¬ (w place ≡ 𝟘)

  record Pivot (n : ℕ) (columns : ℕ → Bool) (a : ℕ → C) : Type 0 where
    at : ℕ
    below : at < n
    passes : columns at ≡ true
    nonzero : ¬ (a at ≡ 𝟘)

  find : (n : ℕ) (columns : ℕ → Bool) (a : ℕ → C) → Pivot n columns a ⊎ ((c : ℕ) → c < n → columns c ≡ true → a c ≡ 𝟘)
  find zero columns a = inr (λ c l. absurd (let z : ⊥ = omega arith in z))
  find (suc n) columns a = go (find n columns a) (columns n) refl (F.same (a n) 𝟘)
    where
      more : ((c : ℕ) → c < n → columns c ≡ true → a c ≡ 𝟘) → (columns n ≡ true → a n ≡ 𝟘) → (c : ℕ) → c < suc n → columns c ≡ true → a c ≡ 𝟘
      more ih here c l = elim (last n c l) [ inl p ↦ subst (λ (x : ℕ). columns x ≡ true → a x ≡ 𝟘) p here | inr k ↦ ih c k ]

      go : Pivot n columns a ⊎ ((c : ℕ) → c < n → columns c ≡ true → a c ≡ 𝟘) → (b : Bool) → columns n ≡ b → Dec (a n ≡ 𝟘) →
          Pivot (suc n) columns a ⊎ ((c : ℕ) → c < suc n → columns c ≡ true → a c ≡ 𝟘)
      go (inl p) b e d = inl (record { at = p.at; below = (let l = p.below in omega arith); passes = p.passes; nonzero = p.nonzero })
      go (inr ih) true e (no d) = inl (record { at = n; below = omega arith; passes = e; nonzero = d })
      go (inr ih) true e (yes z) = inr (more ih (λ x. z))
      go (inr ih) false e d = inr (more ih (λ x. absurd (no_both x e)))

  undone : (a i d h : C) → i ⊗ h ≡ 𝟙 → (a ⊗ (i ⊗ d)) ⊗ h ≡ a ⊗ d
  undone a i d h e =
      let sorted : (a ⊗ (i ⊗ d)) ⊗ h ≡ (i ⊗ h) ⊗ (a ⊗ d) = simp (F.mul_assoc, F.mul_comm, mul_left_comm F) in
      sorted ∙ ap (λ (y : C). y ⊗ (a ⊗ d)) e ∙ F.one-mul (a ⊗ d)

  moved : (a i d h : C) → (a ⊗ (i ⊗ d)) ⊗ h ≡ (a ⊗ (h ⊗ i)) ⊗ d
  moved a i d h = simp (F.mul_assoc, F.mul_comm, mul_left_comm F)

  -- one unknown given by a row: the other rows without it
  module _ (H : ℕ → ℕ → C) (m n p : ℕ) (l : p < n) (nz : ¬ (H m p ≡ 𝟘)) where
    factor : ℕ → C
    factor r = less F ⊗ (H r p ⊗ F.inverse (H m p))

    without : ℕ → ℕ → C
    without r c = H r c ⊕ (factor r ⊗ H m c)

    forced : (ℕ → C) → C
    forced w = less F ⊗ (F.inverse (H m p) ⊗ dot F n (H m) w)

    put : (ℕ → C) → ℕ → C
    put w c = w c ⊕ (forced w ⊗ unit F p c)

    put_dot : (w : ℕ → C) (r : ℕ) → dot F n (H r) (put w) ≡ dot F n (H r) w ⊕ (forced w ⊗ H r p)
    unfolding put
    put_dot w r = dot_add F n (H r) w (unit F p) (forced w) ∙ ap (λ (y : C). dot F n (H r) w ⊕ (forced w ⊗ y)) (dot_unit F n p (H r) l)

    put_here : (w : ℕ → C) → dot F n (H m) (put w) ≡ 𝟘
    unfolding forced
    put_here w =
        let D : C = dot F n (H m) w in
        let i : C = F.inverse (H m p) in
        put_dot w m ∙ ap (λ (y : C). D ⊕ y) (undone (less F) i D (H m p) (inverse_mul F (H m p) nz)) ∙ less_self F D

    put_other : (w : ℕ → C) (r : ℕ) → dot F n (H r) (put w) ≡ dot F n (without r) w
    unfolding forced without factor
    put_other w r =
        put_dot w r ∙ ap (λ (y : C). dot F n (H r) w ⊕ y) (moved (less F) (F.inverse (H m p)) (dot F n (H m) w) (H r p))
        ∙ sym (dot_add_left F n (H r) (H m) w (factor r))

    put_off : (w : ℕ → C) (c : ℕ) → ¬ (c ≡ p) → put w c ≡ w c
    unfolding put
    put_off w c h = ap (λ (y : C). w c ⊕ (forced w ⊗ y)) (unit_other F p c h) ∙ ap (λ (y : C). w c ⊕ y) (mul-zero F (forced w)) ∙ add-zero F (w c)

  record Rest (H : ℕ → ℕ → C) (m n : ℕ) (rows columns : ℕ → Bool) : Type 0 where
    plain : count m rows < count n columns → (w : ℕ → C) × Nonzero H m n rows columns w
    less_one : (p : ℕ) (l : p < n) (nz : ¬ (H m p ≡ 𝟘)) → suc (count m rows) < count n columns → (w : ℕ → C) × Nonzero (without H m n p l nz) m n rows (but columns p) w

  -- one row more, which the word satisfies or which does not count
  longer : (m n : ℕ) (rows columns : ℕ → Bool) (H : ℕ → ℕ → C) (w : ℕ → C) → Nonzero H m n rows columns w → (rows m ≡ true → dot F n (H m) w ≡ 𝟘) →
      Nonzero H (suc m) n rows columns w
  longer m n rows columns H w z here = record {
    solves = λ r l. elim (last m r l) [ inl p ↦ subst (λ (x : ℕ). rows x ≡ true → dot F n (H x) w ≡ 𝟘) p here | inr k ↦ z.solves r k ];
    within = z.within;
    place = z.place;
    place_below = z.place_below;
    place_not = z.place_not;
  }

  step : (m n : ℕ) (rows columns : ℕ → Bool) (H : ℕ → ℕ → C) → Rest H m n rows columns → (b : Bool) → rows m ≡ b →
      cond b (suc (count m rows)) (count m rows) < count n columns → (w : ℕ → C) × Nonzero H (suc m) n rows columns w
  step m n rows columns H ih false e h = let w = ih.plain h in (w.0, longer m n rows columns H w.0 w.1 (λ x. absurd (no_both x e)))
  step m n rows columns H ih true e h = go (find n columns (H m))
    where
      zero_at : (w : ℕ → C) → Nonzero H m n rows columns w → ((c : ℕ) → c < n → columns c ≡ true → H m c ≡ 𝟘) → (c : ℕ) → c < n → (b : Bool) → columns c ≡ b → H m c ⊗ w c ≡ 𝟘
      zero_at w z a c l true k = ap (λ (y : C). y ⊗ w c) (a c l k) ∙ zero-mul F (w c)
      zero_at w z a c l false k = ap (λ (y : C). H m c ⊗ y) (z.within c l k) ∙ mul-zero F (H m c)

      go : Pivot n columns (H m) ⊎ ((c : ℕ) → c < n → columns c ≡ true → H m c ≡ 𝟘) → (w : ℕ → C) × Nonzero H (suc m) n rows columns w
      go (inr a) =
          let w = ih.plain (omega arith) in
          (w.0, longer m n rows columns H w.0 w.1 (λ x. sum_zero F n (λ c. H m c ⊗ w.0 c) (λ c l. zero_at w.0 w.1 a c l (columns c) refl)))
      go (inl p) = (
        up,
        longer m n rows columns H up (record {
          solves = λ r l k. put_other H m n p.at p.below p.nonzero w.0 r ∙ w.1.solves r l k;
          within = λ c l k. put_off H m n p.at p.below p.nonzero w.0 c (λ x. no_both p.passes (ap columns (sym x) ∙ k)) ∙ w.1.within c l (but_false columns p.at c k);
          place = w.1.place;
          place_below = w.1.place_below;
          place_not = λ z. w.1.place_not (sym (put_off H m n p.at p.below p.nonzero w.0 w.1.place off) ∙ z);
        })
            (λ x. put_here H m n p.at p.below p.nonzero w.0),
      )
        where
          w : (v : ℕ → C) × Nonzero (without H m n p.at p.below p.nonzero) m n rows (but columns p.at) v
          w = ih.less_one p.at p.below p.nonzero h

          up : ℕ → C
          up = put H m n p.at p.below p.nonzero w.0

          off : ¬ (w.1.place ≡ p.at)
          off x = w.1.place_not (ap w.0 x ∙ w.1.within p.at p.below (but_here columns p.at))

  pub more_columns : (m n : ℕ) (rows columns : ℕ → Bool) → count m rows < count n columns → (H : ℕ → ℕ → C) → (w : ℕ → C) × Nonzero H m n rows columns w
  unfolding count
  more_columns zero n rows columns h H =
      let k = counted n columns (omega arith) in (
        unit F k.0,
        record {
          solves = λ r l. absurd (let z : ⊥ = omega arith in z);
          within = λ c l e. unit_other F k.0 c (λ x. no_both k.2 (ap columns (sym x) ∙ e));
          place = k.0;
          place_below = k.1;
          place_not = λ z. F.apart (sym (unit_same F k.0) ∙ z);
        },
      )
  more_columns (suc m) n rows columns h H =
      step m n rows columns H (record {
        plain = λ k. more_columns m n rows columns k H;
        less_one = λ p l nz k. more_columns m n rows (but columns p) (let q = but_count n columns p in omega arith) (without H m n p l nz);
      }) (rows m) refl h
