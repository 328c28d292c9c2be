-- What the rules of an admitted code say of its edges and of its check matrix. Assumes nothing.
use Rattle.std.proofs.Common.{◌≡◌, ℕ, zero, suc, ◌<◌, ◌≤◌, Bool, true, false, cond, ◌&&◌, eqb, ◌⊎◌, List, length, Some, sym, refl, ◌∙◌, subst, subst₂, inl, inr, arith}
use native.Mathlib.Decide.{ℕ_discrete, dec_lt}
use Rattle.std.proofs.lemmas.Option.{slice_get_past}
use Rattle.std.specs.List.{slice_get}
use Rattle.code.proofs.Kept.{stands_at}
use Rattle.code.proofs.Lawfully.{rules_of}
use Rattle.code.specs.Rules.{Rules, HeaderFits, EdgeBefore, Stands}
use Rattle.code.specs.declared.code.Code.{Code}
use Rattle.code.specs.declared.table.Edge.{Edge}
use Rattle.field.specs.Tables.{Tables, Lawful}
use Rattle.linear.specs.Words.{Entries}
use Rattle.linear.proofs.Tests.{eqb_same, eqb_not, last}
use Rattle.encoder.specs.CheckMatrix.{edge_at, coefficient_in, matrix_of, check_matrix, MatrixTold, Listed}
use Rattle.encoder.proofs.Sparse.{listed_entries}

and_false : (b : Bool) → b && false ≡ false
and_false true = refl
and_false false = refl

module _ (c : Code) where
  rules : Rules c.header c.edges.now c.entries.now
  rules = rules_of c.header c.edges.now c.entries.now c.admitted

  pub header_fits : HeaderFits c.header
  header_fits = rules.header

  stands : (k : ℕ) → k < length c.edges.now → Stands c.edges.now k (edge_at c.edges.now k)
  stands k l = stands_at c.edges.now k (record { row = 0; column = 0; coefficient = 0 }) l

  pub listed : Listed c.header.order c.header.rows c.header.columns c.edges.now
  listed = record {
    row_below = λ k l. (rules.edges_fit k (edge_at c.edges.now k) (stands k l)).row;
    column_below = λ k l. (rules.edges_fit k (edge_at c.edges.now k) (stands k l)).column;
    code = λ k l. (rules.edges_fit k (edge_at c.edges.now k) (stands k l)).code;
    distinct = λ k j l i e f. apart (edge_at c.edges.now j) (edge_at c.edges.now k) (rules.edges_rise j k _ _ i (stands j (omega arith)) (stands k l)) e f;
  }
    where
      apart : (a b : Edge) → EdgeBefore a b → a.row ≡ b.row → a.column ≡ b.column → ⊥
      apart a b (inl p) e f = omega arith
      apart a b (inr p) e f = let q = p.1 in omega arith

  pub listed_at : (q : ℕ) → q ≡ c.header.order → Listed q c.header.rows c.header.columns c.edges.now
  listed_at q e = subst (λ (x : ℕ). Listed x c.header.rows c.header.columns c.edges.now) (sym e) listed

  pub check_entries : (t : Tables) → Lawful t → t.order ≡ c.header.order → Entries t.order (check_matrix c)
  check_entries t l e = listed_entries t l c.header.rows c.header.columns c.edges.now (listed_at t.order e)

  pub fewer : c.header.rows ≤ c.header.columns
  fewer = let f = header_fits.fewer in omega arith

  -- the same of a size and edges that are the code's
  module _ (m n : ℕ) (es : List Edge) (em : m ≡ c.header.rows) (en : n ≡ c.header.columns) (ee : es ≡ c.edges.now) where
    pub matrix_is : matrix_of m n es ≡ check_matrix c
    matrix_is = cc

    pub listed_is : (q : ℕ) → q ≡ c.header.order → Listed q m n es
    listed_is q e = subst (λ (x : List Edge). Listed q m n x) (sym ee) (subst₂ (λ (x y : ℕ). Listed q x y c.edges.now) (sym em) (sym en) (listed_at q e))

  -- ---- the matrix, edge by edge
  entry_at : (k i : ℕ) → i < k → k ≤ length c.edges.now → coefficient_in c.edges.now k (edge_at c.edges.now i).row (edge_at c.edges.now i).column ≡ (edge_at c.edges.now i).coefficient
  unfolding coefficient_in
  entry_at zero i l h = absurd (let z : ⊥ = omega arith in z)
  entry_at (suc k) i l h = go (last k i l) (λ j. entry_at k i j (omega arith))
    where
      a : ℕ → Edge
      a j = edge_at c.edges.now j

      go : (k ≡ i) ⊎ (i < k) → (i < k → coefficient_in c.edges.now k (a i).row (a i).column ≡ (a i).coefficient) →
          cond (eqb (a k).row (a i).row && eqb (a k).column (a i).column) (a k).coefficient (coefficient_in c.edges.now k (a i).row (a i).column) ≡ (a i).coefficient
      go (inl p) ih = subst (λ (y : ℕ). cond (eqb (a k).row (a y).row && eqb (a k).column (a y).column) (a k).coefficient (coefficient_in c.edges.now k (a y).row (a y).column) ≡ (a y).coefficient) p
          (rw (eqb_same (a k).row, eqb_same (a k).column))
      go (inr j) ih = other (ℕ_discrete (a k).row (a i).row) (ℕ_discrete (a k).column (a i).column)
        where
          other : Dec ((a k).row ≡ (a i).row) → Dec ((a k).column ≡ (a i).column) →
              cond (eqb (a k).row (a i).row && eqb (a k).column (a i).column) (a k).coefficient (coefficient_in c.edges.now k (a i).row (a i).column) ≡ (a i).coefficient
          other (no d) y = rw (eqb_not (a k).row (a i).row d) (ih j)
          other (yes e) (no d) = rw (eqb_not (a k).column (a i).column d, and_false (eqb (a k).row (a i).row)) (ih j)
          other (yes e) (yes f) = absurd (listed.distinct k i h j (sym e) (sym f))

  entry_none : (k r j : ℕ) → k ≤ length c.edges.now → ((i : ℕ) → i < k → (edge_at c.edges.now i).row ≡ r → (edge_at c.edges.now i).column ≡ j → ⊥) → coefficient_in c.edges.now k r j ≡ 0
  unfolding coefficient_in
  entry_none zero r j h n = refl
  entry_none (suc k) r j h n = go (ℕ_discrete (edge_at c.edges.now k).row r) (ℕ_discrete (edge_at c.edges.now k).column j) (entry_none k r j (omega arith) (λ i l. n i (omega arith)))
    where
      go : Dec ((edge_at c.edges.now k).row ≡ r) → Dec ((edge_at c.edges.now k).column ≡ j) → coefficient_in c.edges.now k r j ≡ 0 →
          cond (eqb (edge_at c.edges.now k).row r && eqb (edge_at c.edges.now k).column j) (edge_at c.edges.now k).coefficient (coefficient_in c.edges.now k r j) ≡ 0
      go (no d) y ih = rw (eqb_not (edge_at c.edges.now k).row r d) ih
      go (yes e) (no d) ih = rw (eqb_not (edge_at c.edges.now k).column j d, and_false (eqb (edge_at c.edges.now k).row r)) ih
      go (yes e) (yes f) ih = absurd (n k (omega arith) e f)

  pub matrix_told : MatrixTold c.edges.now (check_matrix c)
  matrix_told = record {
    edge = λ k e h.
        let lt = stands_below c.edges.now k e h in
        let same : edge_at c.edges.now k ≡ e = some_edge (sym (stands k lt) ∙ h) in
        subst (λ (x : Edge). coefficient_in c.edges.now (length c.edges.now) x.row x.column ≡ x.coefficient) same (entry_at (length c.edges.now) k lt (omega arith));
    elsewhere = λ r j n. entry_none (length c.edges.now) r j (omega arith) (λ i l e f. n i (edge_at c.edges.now i) (stands i l) e f);
  }
    where
      some_edge : {x y : Edge} → Some x ≡ Some y → x ≡ y
      some_edge {x} {y} e = cc

      past : (k : ℕ) (e : Edge) → slice_get c.edges.now k ≡ Some e → Dec (k < length c.edges.now) → k < length c.edges.now
      past k e h (yes l) = l
      past k e h (no d) = absurd (let z = slice_get_past c.edges.now k (omega arith) in let y : ◌≡◌ {A = ℕ} 0 1 = cc in omega arith)

      stands_below : (es : List Edge) (k : ℕ) (e : Edge) → slice_get c.edges.now k ≡ Some e → k < length c.edges.now
      stands_below es k e h = past k e h (dec_lt k (length c.edges.now))
