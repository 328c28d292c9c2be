-- One row more is cleared. Assumes nothing.
use Rattle.std.proofs.Common.{◌≡◌, ℕ, suc, ◌<◌, ◌≤◌, ◌⊎◌, sym, refl, ap, ◌∙◌, subst, ap₂, inl, inr, arith}
use native.Mathlib.Decide.{ℕ_discrete}
use Rattle.field.specs.Tables.{Tables, Lawful}
use Rattle.linear.specs.Elimination.{Added, RowCleared, Cleared, ClearedTo, OneCleared}
use Rattle.linear.specs.Words.{Matrix, Entries}
use Rattle.linear.proofs.Tests.{last}
use Rattle.linear.proofs.Ring.{zero-mul, mul-one, add-mul}
use Rattle.linear.proofs.Coded.{Below, below_path, plus, times, nought, unity, codes_field}
use Rattle.linear.proofs.Reduce.{mx, product_zero, sum_zero_right}

pub cleared_none : (t : Tables) (R : Matrix) (i c : ℕ) → Entries t.order R → ClearedTo t R R i c 0
cleared_none t R i c E = record { entries = E; done = λ r h. absurd (let z : ⊥ = omega arith in z); rest = λ x j a b d. refl }

-- the factor that takes the entry away
module _ (t : Tables) (l : Lawful t) (a v k u h : ℕ) (ha : a < t.order) (hv : v < t.order) (hk : k < t.order) (hh : h < t.order)
    (one : t.product v k ≡ 1) (quotient : u ≡ t.product a k) (opposite : t.sum u h ≡ 0) where
  pub factor_gone : t.sum a (t.product h v) ≡ 0
  factor_gone = ap (λ (x : Below t.order). x.0) path
    where
      A : Below t.order
      A = (a, ha)

      V : Below t.order
      V = (v, hv)

      K : Below t.order
      K = (k, hk)

      G : Below t.order
      G = (h, hh)

      path : plus t l A (times t l G V) ≡ nought t l
      path =
          ap (λ (x : Below t.order). plus t l x (times t l G V))
          (sym (mul-one (codes_field t l) A) ∙ ap (times t l A) (sym (below_path (times t l K V) (unity t l) (l.product_comm k v hk hv ∙ one))) ∙ sym ((codes_field t l).mul_assoc A K V))
          ∙ sym (add-mul (codes_field t l) (times t l A K) G V)
          ∙ ap (λ (x : Below t.order). times t l x V) (below_path (plus t l (times t l A K) G) (nought t l) (ap (λ (x : ℕ). t.sum x h) (sym quotient) ∙ opposite))
          ∙ zero-mul (codes_field t l) V

module _ (t : Tables) (m n : ℕ) (R S : ℕ → ℕ → ℕ) (i c k : ℕ) (inv : ClearedTo t (mx m n R) (mx m n S) i c k) where
  pub cleared_skip : (k' : ℕ) → k' ≡ suc k → k ≡ i → ClearedTo t (mx m n R) (mx m n S) i c k'
  cleared_skip k' ek e = record {
    entries = inv.entries;
    done = λ r h d. elim (last k r (omega arith)) [ inl p ↦ absurd (d (sym p ∙ e)) | inr j ↦ inv.done r j d ];
    rest = λ x j a b d. inv.rest x j a b (weaker x d);
  }
    where
      weaker : (x : ℕ) → (x ≡ i) ⊎ (k' ≤ x) → (x ≡ i) ⊎ (k ≤ x)
      weaker x (inl d) = inl d
      weaker x (inr d) = inr (omega arith)

  module _ (l : Lawful t) (S' : ℕ → ℕ → ℕ) (h k' : ℕ) (ek : k' ≡ suc k) (hi : i < m) (hk : k < m) (ne : ¬ (k ≡ i)) (hh : h < t.order)
      (gone : t.sum (R k c) (t.product h (R i c)) ≡ 0) (added : Added t (mx m n S) (mx m n S') k i h n) where
    here : (j : ℕ) → j < n → S' k j ≡ t.sum (R k j) (t.product h (R i j))
    here j b = added.done j b ∙ ap₂ (λ (x y : ℕ). t.sum x (t.product h y)) (inv.rest k j hk b (inr (omega arith))) (inv.rest i j hi b (inl refl))

    there : (x j : ℕ) → x < m → j < n → ¬ (x ≡ k) → S' x j ≡ S x j
    there x j a b d = added.rest x j a b (inl d)

    pub cleared_more : ClearedTo t (mx m n R) (mx m n S') i c k'
    cleared_more = record {
      entries = record { below = λ x j a b. code x j a b (ℕ_discrete x k) };
      done = λ r q d. row r (last k r (omega arith)) d;
      rest = λ x j a b d. there x j a b (off x d) ∙ inv.rest x j a b (weaker x d);
    }
      where
        code : (x j : ℕ) → x < m → j < n → Dec (x ≡ k) → S' x j < t.order
        code x j a b (no d) = subst (λ (y : ℕ). y < t.order) (sym (there x j a b d)) (inv.entries.below x j a b)
        code x j a b (yes e) = subst (λ (y : ℕ). S' y j < t.order) (sym e) (subst (λ (y : ℕ). y < t.order) (sym (added.done j b))
            (l.sum_code (S k j) (t.product h (S i j)) (inv.entries.below k j hk b) (l.product_code h (S i j) hh (inv.entries.below i j hi b))))

        row : (r : ℕ) → (k ≡ r) ⊎ (r < k) → ¬ (r ≡ i) → RowCleared t (mx m n R) (mx m n S') i c r
        row r (inl e) d = subst (λ (y : ℕ). RowCleared t (mx m n R) (mx m n S') i c y) e (record { factor = h; factor_code = hh; gone = gone; entries = here })
        row r (inr q) d =
            let w = inv.done r q d in
            record { factor = w.factor; factor_code = w.factor_code; gone = w.gone; entries = λ j b. there r j (omega arith) b (λ e. omega arith) ∙ w.entries j b }

        off : (x : ℕ) → (x ≡ i) ⊎ (k' ≤ x) → ¬ (x ≡ k)
        off x (inl d) e = ne (sym e ∙ d)
        off x (inr d) e = omega arith

        weaker : (x : ℕ) → (x ≡ i) ⊎ (k' ≤ x) → (x ≡ i) ⊎ (k ≤ x)
        weaker x (inl d) = inl d
        weaker x (inr d) = inr (omega arith)

pub cleared_all : (t : Tables) (R S : Matrix) (i c k : ℕ) → i < R.rows → R.rows ≤ k → ClearedTo t R S i c k → Cleared t R S i c
cleared_all t R S i c k hi h inv = record { kept = λ j b. inv.rest i j hi b (inl refl); others = λ r a d. inv.done r (omega arith) d }

-- ---- one row
-- where nothing is to be taken away, nothing is added
pub one_none : (t : Tables) → Lawful t → (m n : ℕ) (R : ℕ → ℕ → ℕ) → Entries t.order (mx m n R) → (i c r : ℕ) → i < m → c < n → r < m → R r c ≡ 0 → OneCleared t (mx m n R) (mx m n R) i c r
one_none t l m n R E i c r hi hc hr e = record {
  factor = 0;
  factor_code = low;
  gone = ap₂ t.sum e (zero_product (R i c) (E.below i c hi hc)) ∙ l.zero_sum 0 low;
  added = record {
    done = λ j h. sym (ap (t.sum (R r j)) (zero_product (R i j) (E.below i j hi h)) ∙ sum_zero_right t l (R r j) (E.below r j hr h));
    rest = λ x j a b d. refl;
  };
}
  where
    low : 0 < t.order
    low = let q = l.low in omega arith

    zero_product : (a : ℕ) → a < t.order → t.product 0 a ≡ 0
    zero_product a h = l.product_comm 0 a low h ∙ product_zero t l a h

module _ (t : Tables) (l : Lawful t) (m n : ℕ) (R S S' : ℕ → ℕ → ℕ) (i c k k' : ℕ) (inv : ClearedTo t (mx m n R) (mx m n S) i c k) (one : OneCleared t (mx m n S) (mx m n S') i c k) where
  pub cleared_one : k' ≡ suc k → i < m → k < m → c < n → ¬ (k ≡ i) → ClearedTo t (mx m n R) (mx m n S') i c k'
  cleared_one ek hi hk hc ne = cleared_more t m n R S i c k inv l S' one.factor k' ek hi hk ne one.factor_code
      (ap₂ (λ (x y : ℕ). t.sum x (t.product one.factor y)) (sym (inv.rest k c hk hc (inr (omega arith)))) (sym (inv.rest i c hi hc (inl refl))) ∙ one.gone)
      one.added
