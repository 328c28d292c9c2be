-- The rows of the listed matrix are the sums over their edges. Assumes nothing.
use Rattle.std.proofs.Common.{◌≡◌, ℕ, zero, suc, ◌+◌, ◌<◌, ◌≤◌, Bool, true, false, cond, ◌&&◌, eqb, List, length, get_or, sym, refl, ap, ◌∙◌, subst, ap₂, add-one, arith, eq-eqb}
use native.Mathlib.Decide.{ℕ_discrete}
use Rattle.field.specs.Tables.{Tables, Lawful}
use Rattle.code.specs.declared.table.Edge.{Edge}
use Rattle.linear.specs.Words.{total, Codes, Entries, row_sum}
use Rattle.encoder.specs.CheckMatrix.{edge_at, coefficient_in, matrix_of, Listed, edge_sum}
use Rattle.linear.proofs.Tests.{eqb_same, eqb_not}
use Rattle.linear.proofs.Ring.{add-zero, mul-zero, zero-mul, mul-one}
use Rattle.linear.proofs.Sums.{sum_zero, sum_same, dot, dot_turned, dot_add_left, dot_unit, unit, unit_same, unit_other}
use Rattle.linear.proofs.Coded.{Below, below_path, plus, times, nought, unity, codes_field, code, code_is, total_is}
use Rattle.linear.proofs.Encoding.{held, as_held}

and_false : (b : Bool) → b && false ≡ false
and_false true = refl
and_false false = refl

module _ (t : Tables) (l : Lawful t) (m n : ℕ) (es : List Edge) (L : Listed t.order m n es) where
  -- no earlier edge at that place
  none_before : (k : ℕ) → k < length es → (j : ℕ) → j ≤ k → coefficient_in es j (edge_at es k).row (edge_at es k).column ≡ 0
  unfolding coefficient_in
  none_before k h zero q = refl
  none_before k h (suc j) q = go (ℕ_discrete (edge_at es j).row (edge_at es k).row) (ℕ_discrete (edge_at es j).column (edge_at es k).column) (none_before k h j (omega arith))
    where
      go : Dec ((edge_at es j).row ≡ (edge_at es k).row) → Dec ((edge_at es j).column ≡ (edge_at es k).column) → coefficient_in es j (edge_at es k).row (edge_at es k).column ≡ 0 →
          cond (eqb (edge_at es j).row (edge_at es k).row && eqb (edge_at es j).column (edge_at es k).column) (edge_at es j).coefficient (coefficient_in es j (edge_at es k).row (edge_at es k).column) ≡ 0
      go (no d) x ih = rw (eqb_not (edge_at es j).row (edge_at es k).row d) ih
      go (yes a) (no d) ih = rw (eqb_not (edge_at es j).column (edge_at es k).column d, and_false (eqb (edge_at es j).row (edge_at es k).row)) ih
      go (yes a) (yes b) ih = absurd (L.distinct k j h (omega arith) a b)

  entry_code : (k : ℕ) → k ≤ length es → (r c : ℕ) → coefficient_in es k r c < t.order
  unfolding coefficient_in
  entry_code zero h r c = let q = l.low in omega arith
  entry_code (suc k) h r c = go (eqb (edge_at es k).row r && eqb (edge_at es k).column c) (entry_code k (omega arith) r c)
    where
      go : (b : Bool) → coefficient_in es k r c < t.order → cond b (edge_at es k).coefficient (coefficient_in es k r c) < t.order
      go true ih = L.code k h
      go false ih = ih

  pub listed_entries : Entries t.order (matrix_of m n es)
  listed_entries = record { below = λ r c h k. entry_code (length es) (omega arith) r c }

  module _ (w : List ℕ) (kw : Codes t.order n w) where
    row : ℕ → ℕ → ℕ → Below t.order
    row k r c = code t l (coefficient_in es k r c)

    row_is : (k : ℕ) → k ≤ length es → (r : ℕ) → total t n (λ c. t.product (coefficient_in es k r c) (get_or w c 0)) ≡ (dot (codes_field t l) n (row k r) (held t l w)).0
    unfolding row
    row_is k h r = total_is t l n (λ c. t.product (coefficient_in es k r c) (get_or w c 0)) (λ c. times t l (row k r c) (held t l w c))
        (λ c q. ap₂ t.product (sym (code_is t l (coefficient_in es k r c) (entry_code k h r c))) (as_held t l n w kw c q))

    -- one edge more of row r
    more : (k : ℕ) → (h : k < length es) → (c : ℕ) → row (suc k) (edge_at es k).row c ≡ plus t l (row k (edge_at es k).row c) (times t l ((edge_at es k).coefficient, L.code k h) (unit (codes_field t l) (edge_at es k).column c))
    unfolding row coefficient_in
    more k h c = go (ℕ_discrete c (edge_at es k).column)
      where
        h' : Below t.order
        h' = ((edge_at es k).coefficient, L.code k h)

        go : Dec (c ≡ (edge_at es k).column) → row (suc k) (edge_at es k).row c ≡ plus t l (row k (edge_at es k).row c) (times t l h' (unit (codes_field t l) (edge_at es k).column c))
        go (no d) =
            let x : coefficient_in es (suc k) (edge_at es k).row c ≡ coefficient_in es k (edge_at es k).row c = rw (eqb_not (edge_at es k).column c (λ q. d (sym q)), and_false (eqb (edge_at es k).row (edge_at es k).row)) in
            ap (code t l) x ∙ sym (ap (λ (y : Below t.order). plus t l (row k (edge_at es k).row c) (times t l h' y)) (unit_other (codes_field t l) (edge_at es k).column c d)
            ∙ ap (plus t l (row k (edge_at es k).row c)) (mul-zero (codes_field t l) h') ∙ add-zero (codes_field t l) (row k (edge_at es k).row c))
        go (yes d) = subst (λ (y : ℕ). row (suc k) (edge_at es k).row y ≡ plus t l (row k (edge_at es k).row y) (times t l h' (unit (codes_field t l) (edge_at es k).column y))) (sym d)
            (let x : coefficient_in es (suc k) (edge_at es k).row (edge_at es k).column ≡ (edge_at es k).coefficient = rw (eqb_same (edge_at es k).row, eqb_same (edge_at es k).column) in
            let z : row k (edge_at es k).row (edge_at es k).column ≡ nought t l = below_path (row k (edge_at es k).row (edge_at es k).column) (nought t l) (code_is t l (coefficient_in es k (edge_at es k).row (edge_at es k).column) (entry_code k (omega arith) (edge_at es k).row (edge_at es k).column) ∙ none_before k h k (omega arith)) in
            below_path (row (suc k) (edge_at es k).row (edge_at es k).column) h' (ap (λ (y : ℕ). (code t l y).0) x ∙ code_is t l (edge_at es k).coefficient (L.code k h))
            ∙ sym (ap₂ (λ (a b : Below t.order). plus t l a (times t l h' b)) z (unit_same (codes_field t l) (edge_at es k).column) ∙ (codes_field t l).zero-add (times t l h' (unity t l)) ∙ mul-one (codes_field t l) h'))

    sums : (k : ℕ) → k ≤ length es → (r : ℕ) → (dot (codes_field t l) n (row k r) (held t l w)).0 ≡ edge_sum t es w r k
    unfolding edge_sum row coefficient_in
    sums zero h r = ap (λ (x : Below t.order). x.0) (sum_zero (codes_field t l) n (λ c. times t l (row 0 r c) (held t l w c)) (λ c q.
        ap (λ (x : Below t.order). times t l x (held t l w c)) (below_path (row 0 r c) (nought t l) (code_is t l 0 (let z = l.low in omega arith))) ∙ zero-mul (codes_field t l) (held t l w c)))
    sums (suc k) h r = go (ℕ_discrete (edge_at es k).row r) (sums k (omega arith) r)
      where
        W : ℕ → Below t.order
        W = held t l w

        h' : Below t.order
        h' = ((edge_at es k).coefficient, L.code k h)

        hc : (edge_at es k).column < n
        hc = L.column_below k h

        rest : ℕ
        rest = edge_sum t es w r k

        go : Dec ((edge_at es k).row ≡ r) → (dot (codes_field t l) n (row k r) W).0 ≡ edge_sum t es w r k →
            (dot (codes_field t l) n (row (suc k) r) W).0 ≡ cond (eqb (edge_at es k).row r) (t.sum (t.product (edge_at es k).coefficient (get_or w (edge_at es k).column 0)) (edge_sum t es w r k)) (edge_sum t es w r k)
        go (no d) ih =
            let x : (c : ℕ) → coefficient_in es (suc k) r c ≡ coefficient_in es k r c = λ c. (rw (eqb_not (edge_at es k).row r d)) in
            ap (λ (y : Below t.order). y.0) (sum_same (codes_field t l) n (λ c. times t l (row (suc k) r c) (W c)) (λ c. times t l (row k r c) (W c)) (λ c q. ap (λ (y : ℕ). times t l (code t l y) (W c)) (x c)))
            ∙ ih ∙ (rw (eqb_not (edge_at es k).row r d))
        go (yes d) ih =
            subst (λ (y : ℕ). (dot (codes_field t l) n (row k y) W).0 ≡ edge_sum t es w y k → (dot (codes_field t l) n (row (suc k) y) W).0 ≡ cond (eqb (edge_at es k).row y) (t.sum (t.product (edge_at es k).coefficient (get_or w (edge_at es k).column 0)) (edge_sum t es w y k)) (edge_sum t es w y k)) d here ih
          where
            here : (dot (codes_field t l) n (row k (edge_at es k).row) W).0 ≡ edge_sum t es w (edge_at es k).row k → (dot (codes_field t l) n (row (suc k) (edge_at es k).row) W).0 ≡ cond (eqb (edge_at es k).row (edge_at es k).row) (t.sum (t.product (edge_at es k).coefficient (get_or w (edge_at es k).column 0)) (edge_sum t es w (edge_at es k).row k)) (edge_sum t es w (edge_at es k).row k)
            here eq =
                ap (λ (y : Below t.order). y.0)
                (sum_same (codes_field t l) n (λ c. times t l (row (suc k) (edge_at es k).row c) (W c)) (λ c. times t l (plus t l (row k (edge_at es k).row c) (times t l h' (unit (codes_field t l) (edge_at es k).column c))) (W c)) (λ c q. ap (λ (y : Below t.order). times t l y (W c)) (more k h c))
                ∙ dot_add_left (codes_field t l) n (row k (edge_at es k).row) (unit (codes_field t l) (edge_at es k).column) W h'
                ∙ ap (λ (y : Below t.order). plus t l (dot (codes_field t l) n (row k (edge_at es k).row) W) (times t l h' y)) (dot_turned (codes_field t l) n (unit (codes_field t l) (edge_at es k).column) W ∙ dot_unit (codes_field t l) n (edge_at es k).column W hc)
                ∙ (codes_field t l).add_comm (dot (codes_field t l) n (row k (edge_at es k).row) W) (times t l h' (W (edge_at es k).column)))
                ∙ ap₂ (λ (a b : ℕ). t.sum (t.product (edge_at es k).coefficient a) b) (sym (as_held t l n w kw (edge_at es k).column hc)) eq
                ∙ (rw (eqb_same (edge_at es k).row))

    -- each row's sum goes over its edges alone
    pub row_edges : (r : ℕ) → row_sum t (matrix_of m n es) w r ≡ edge_sum t es w r (length es)
    row_edges r = row_is (length es) (omega arith) r ∙ sums (length es) (omega arith) r

module _ (t : Tables) (es : List Edge) (w : List ℕ) (r : ℕ) where
  pub edges_none : edge_sum t es w r 0 ≡ 0
  unfolding edge_sum
  edges_none = refl

  pub edges_here : (k : ℕ) → (edge_at es k).row ≡ r → edge_sum t es w r (k + 1) ≡ t.sum (t.product (edge_at es k).coefficient (get_or w (edge_at es k).column 0)) (edge_sum t es w r k)
  unfolding edge_sum
  edges_here k e = rw (add-one, eq-eqb (edge_at es k).row r e)

  pub edges_other : (k : ℕ) → ¬ ((edge_at es k).row ≡ r) → edge_sum t es w r (k + 1) ≡ edge_sum t es w r k
  unfolding edge_sum
  edges_other k d = rw (add-one, eqb_not (edge_at es k).row r d)
