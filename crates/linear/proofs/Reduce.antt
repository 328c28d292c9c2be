-- The steps of the reduction, and what a reduced matrix tells. Assumes nothing.
use Rattle.std.proofs.Common.{◌≡◌, ℕ, suc, ◌-◌, ◌<◌, ◌≤◌, List, length, get_or, set, Some, None, Option, sym, ap, ◌∙◌, subst, ap₂, subst₂, arith, get_or-set_other, get_or-set_same}
use native.Mathlib.Decide.{ℕ_discrete}
use Rattle.field.specs.Tables.{Tables, Lawful}
use Rattle.linear.specs.Elimination.{RowCleared, Cleared, Owned, Reduced}
use Rattle.linear.specs.Words.{Matrix, Entries, Codeword}
use Rattle.linear.proofs.Tests.{none_some, some_same}
use Rattle.linear.proofs.Ring.{add-zero, mul-zero}
use Rattle.linear.proofs.Sums.{sum_same, dot, dot_add_left}
use Rattle.linear.proofs.Words.{Solves}
use Rattle.linear.proofs.Coded.{Below, below_path, plus, times, nought, codes_field}
use Rattle.linear.proofs.Encoding.{held, coded, coded_is, codeword_solves, solves_held}

abbrev pub mx : ℕ → ℕ → (ℕ → ℕ → ℕ) → Matrix
mx m n R = record { rows = m; columns = n; entry = R }

module _ (t : Tables) (l : Lawful t) where
  pub product_zero : (a : ℕ) → a < t.order → t.product a 0 ≡ 0
  product_zero a h = ap (λ (x : Below t.order). x.0) (mul-zero (codes_field t l) (a, h))

  pub sum_zero_right : (a : ℕ) → a < t.order → t.sum a 0 ≡ a
  sum_zero_right a h = ap (λ (x : Below t.order). x.0) (add-zero (codes_field t l) (a, h))

  -- the same rows with a multiple of one added to the others
  module _ (m n : ℕ) (R S : ℕ → ℕ → ℕ) (ER : Entries t.order (mx m n R)) (ES : Entries t.order (mx m n S)) (i c : ℕ) (hi : i < m) (K : Cleared t (mx m n R) (mx m n S) i c) where
    c_r : ℕ → ℕ → Below t.order
    c_r = coded t l (mx m n R) ER

    c_s : ℕ → ℕ → Below t.order
    c_s = coded t l (mx m n S) ES

    is_R : (r j : ℕ) → r < m → j < n → R r j ≡ (c_r r j).0
    unfolding c_r
    is_R r j h k = coded_is t l (mx m n R) ER r j h k

    is_S : (r j : ℕ) → r < m → j < n → S r j ≡ (c_s r j).0
    unfolding c_s
    is_S r j h k = coded_is t l (mx m n S) ES r j h k

    same_i : (w : ℕ → Below t.order) → dot (codes_field t l) n (c_s i) w ≡ dot (codes_field t l) n (c_r i) w
    same_i w = sum_same (codes_field t l) n (λ j. times t l (c_s i j) (w j)) (λ j. times t l (c_r i j) (w j))
        (λ j k. ap (λ (x : Below t.order). times t l x (w j)) (below_path (c_s i j) (c_r i j) (sym (is_S i j hi k) ∙ K.kept j k ∙ is_R i j hi k)))

    same_other : (w : ℕ → Below t.order) (r : ℕ) → r < m → RowCleared t (mx m n R) (mx m n S) i c r →
        (f : Below t.order) × (dot (codes_field t l) n (c_s r) w ≡ plus t l (dot (codes_field t l) n (c_r r) w) (times t l f (dot (codes_field t l) n (c_r i) w)))
    same_other w r h k = (
      f,
      sum_same (codes_field t l) n (λ j. times t l (c_s r j) (w j)) (λ j. times t l (plus t l (c_r r j) (times t l f (c_r i j))) (w j))
          (λ j q. ap (λ (x : Below t.order). times t l x (w j)) (below_path (c_s r j) (plus t l (c_r r j) (times t l f (c_r i j)))
          (sym (is_S r j h q) ∙ k.entries j q ∙ ap₂ (λ (x y : ℕ). t.sum x (t.product k.factor y)) (is_R r j h q) (is_R i j hi q))))
          ∙ dot_add_left (codes_field t l) n (c_r r) (c_r i) w f,
    )
      where
        f : Below t.order
        f = (k.factor, k.factor_code)

    nil : (f : Below t.order) (x y : Below t.order) → y ≡ nought t l → plus t l x (times t l f y) ≡ x
    nil f x y e = ap (λ (z : Below t.order). plus t l x (times t l f z)) e ∙ ap (λ (z : Below t.order). plus t l x z) (mul-zero (codes_field t l) f) ∙ add-zero (codes_field t l) x

    onward : (w : ℕ → Below t.order) → Solves (codes_field t l) c_r m n w → Solves (codes_field t l) c_s m n w
    onward w s r h = go (ℕ_discrete r i)
      where
        go : Dec (r ≡ i) → dot (codes_field t l) n (c_s r) w ≡ nought t l
        go (yes e) = subst (λ (x : ℕ). dot (codes_field t l) n (c_s x) w ≡ nought t l) (sym e) (same_i w ∙ s i hi)
        go (no d) = let o = same_other w r h (K.others r h d) in o.1 ∙ nil o.0 (dot (codes_field t l) n (c_r r) w) (dot (codes_field t l) n (c_r i) w) (s i hi) ∙ s r h

    backward : (w : ℕ → Below t.order) → Solves (codes_field t l) c_s m n w → Solves (codes_field t l) c_r m n w
    backward w s r h = go (ℕ_discrete r i)
      where
        at_i : dot (codes_field t l) n (c_r i) w ≡ nought t l
        at_i = sym (same_i w) ∙ s i hi

        go : Dec (r ≡ i) → dot (codes_field t l) n (c_r r) w ≡ nought t l
        go (yes e) = subst (λ (x : ℕ). dot (codes_field t l) n (c_r x) w ≡ nought t l) (sym e) at_i
        go (no d) = let o = same_other w r h (K.others r h d) in sym (nil o.0 (dot (codes_field t l) n (c_r r) w) (dot (codes_field t l) n (c_r i) w) at_i) ∙ sym o.1 ∙ s r h

    pub cleared_on : (w : List ℕ) → Codeword t (mx m n R) w → Codeword t (mx m n S) w
    unfolding c_r c_s
    cleared_on w k = solves_held t l (mx m n S) ES w k.codes (onward (held t l w) (codeword_solves t l (mx m n R) ER w k))

    pub cleared_back : (w : List ℕ) → Codeword t (mx m n S) w → Codeword t (mx m n R) w
    unfolding c_r c_s
    cleared_back w k = solves_held t l (mx m n R) ER w k.codes (backward (held t l w) (codeword_solves t l (mx m n S) ES w k))

    -- where row i has nothing, nothing changes
    kept_at : (r j : ℕ) → r < m → j < n → R i j ≡ 0 → S r j ≡ R r j
    kept_at r j h k e = go (ℕ_discrete r i)
      where
        go : Dec (r ≡ i) → S r j ≡ R r j
        go (yes d) = subst (λ (x : ℕ). S x j ≡ R x j) (sym d) (K.kept j k)
        go (no d) = let o = K.others r h d in
            o.entries j k ∙ ap (λ (y : ℕ). t.sum (R r j) (t.product o.factor y)) e ∙ ap (t.sum (R r j)) (product_zero o.factor o.factor_code) ∙ sum_zero_right (R r j) (ER.below r j h k)

    gone_at : (r : ℕ) → r < m → c < n → ¬ (r ≡ i) → S r c ≡ 0
    gone_at r h k d = let o = K.others r h d in o.entries c k ∙ o.gone

    -- one column more
    pub found : (H : Matrix) (owner : List (Option ℕ)) → length owner ≡ m → c < n → Reduced t H (mx m n R) (suc c) owner → get_or owner i None ≡ None → ¬ (R i c ≡ 0) → Reduced t H (mx m n S) c (set owner i (Some c))
    found H owner long k red free nz = record {
      entries = ES;
      given = λ w x. red.given w (cleared_back w x);
      still = λ w x. cleared_on w (red.still w x);
      idle = λ r h o j a b. idle_at r h o j a b (ℕ_discrete r i) (ℕ_discrete c j);
      owned = λ r p h o. owned_at r p h o (ℕ_discrete r i);
    }
      where
        in_range_is : i < length owner
        in_range_is = omega arith

        at_i : get_or (set owner i (Some c)) i None ≡ Some c
        at_i = rw (get_or-set_same, in_range_is)

        off_i : (r : ℕ) → ¬ (r ≡ i) → get_or (set owner i (Some c)) r None ≡ get_or owner r None
        off_i r d = rw get_or-set_other

        i_none : (j : ℕ) → suc c ≤ j → j < n → R i j ≡ 0
        i_none j a b = red.idle i hi free j a b

        idle_at : (r : ℕ) → r < m → get_or (set owner i (Some c)) r None ≡ None → (j : ℕ) → c ≤ j → j < n → Dec (r ≡ i) → Dec (c ≡ j) → S r j ≡ 0
        idle_at r h o j a b (yes e) x = absurd (none_some (sym o ∙ ap (λ (y : ℕ). get_or (set owner i (Some c)) y None) e ∙ at_i))
        idle_at r h o j a b (no d) (yes x) = subst (λ (y : ℕ). S r y ≡ 0) x (gone_at r h k d)
        idle_at r h o j a b (no d) (no x) = let up : suc c ≤ j = omega arith in kept_at r j h b (i_none j up b) ∙ red.idle r h (sym (off_i r d) ∙ o) j up b

        owned_at : (r p : ℕ) → r < m → get_or (set owner i (Some c)) r None ≡ Some p → Dec (r ≡ i) → Owned (mx m n S) c r p
        owned_at r p h o (yes e) =
            let same : c ≡ p = some_same (sym at_i ∙ ap (λ (y : ℕ). get_or (set owner i (Some c)) y None) (sym e) ∙ o) in
            subst₂ (λ (x y : ℕ). Owned (mx m n S) c x y) (sym e) same (record {
              low = omega arith;
              high = k;
              pivot = λ z. nz (sym (K.kept c k) ∙ z);
              alone = λ x q d. gone_at x q k d;
              after = λ j a b. K.kept j b ∙ i_none j a b;
            })
        owned_at r p h o (no d) =
            let w = red.owned r p h (sym (off_i r d) ∙ o) in
            let lo = w.low in
            let hi' = w.high in
            let none : R i p ≡ 0 = i_none p lo hi' in
            record {
              low = omega arith;
              high = hi';
              pivot = λ z. w.pivot (sym (kept_at r p h hi' none) ∙ z);
              alone = λ x q e. kept_at x p q hi' none ∙ w.alone x q e;
              after = λ j a b. kept_at r j h b (i_none j (omega arith) b) ∙ w.after j a b;
            }

pub none_found : (t : Tables) (H R : Matrix) (c : ℕ) (owner : List (Option ℕ)) → Reduced t H R (suc c) owner → ((r : ℕ) → r < R.rows → get_or owner r None ≡ None → R.entry r c ≡ 0) → Reduced t H R c owner
none_found t H R c owner red z = record {
  entries = red.entries;
  given = red.given;
  still = red.still;
  idle = λ r h o j a b. go r h o j a b (ℕ_discrete c j);
  owned = λ r p h o. let w = red.owned r p h o in record { low = (let q = w.low in omega arith); high = w.high; pivot = w.pivot; alone = w.alone; after = w.after };
}
  where
    go : (r : ℕ) → r < R.rows → get_or owner r None ≡ None → (j : ℕ) → c ≤ j → j < R.columns → Dec (c ≡ j) → R.entry r j ≡ 0
    go r h o j a b (yes e) = subst (λ (y : ℕ). R.entry r y ≡ 0) e (z r h o)
    go r h o j a b (no d) = red.idle r h o j (omega arith) b

pub begun : (t : Tables) (H : Matrix) (owner : List (Option ℕ)) → Entries t.order H → ((r : ℕ) → r < H.rows → get_or owner r None ≡ None) → Reduced t H H H.columns owner
begun t H owner E z = record {
  entries = E;
  given = λ w x. x;
  still = λ w x. x;
  idle = λ r h o c a b. absurd (let y : ⊥ = omega arith in y);
  owned = λ r p h o. absurd (none_some (sym (z r h) ∙ o));
}

module _ (t : Tables) (H R : Matrix) (owner : List (Option ℕ)) (k : ℕ) where
  pub one_less : 0 < k → Reduced t H R k owner → Reduced t H R (suc (k - 1)) owner
  one_less h red = let e : k ≡ suc (k - 1) = omega arith in subst (λ (x : ℕ). Reduced t H R x owner) e red
