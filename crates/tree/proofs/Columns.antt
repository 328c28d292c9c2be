-- A column's edges are those that its entries name. Assumes nothing.
use Rattle.std.proofs.Common.{◌≡◌, ℕ, zero, suc, ◌+◌, ◌-◌, ◌<◌, ◌≤◌, Bool, true, false, cond, not, ◌&&◌, eqb, ltb, leb, ◌≢◌, ◌⊎◌, ◌↔◌, List, [], ◌∷◌, length, get_or, sym, refl, ap, ◌∙◌, subst, inl, inr, true≢false, arith}
use Rattle.std.proofs.lemmas.Option.{slice_get-get_or}
use Rattle.std.proofs.lemmas.Bool.{cases_lt, eq-eqb, ne_eqb, eqb-true, and_parts, and_from, le-leb, lt-leb, lt-ltb, le-ltb}
use Rattle.code.specs.declared.table.Edge.{Edge}
use Rattle.code.specs.Rules.{Stands}
use Rattle.code.specs.Views.{View}
use Rattle.tree.specs.Over.{over, total}
use Rattle.tree.specs.Places.{Admitted, width, no_edge, edge_at, row_of, column_of, at_column, arms}
use Rattle.tree.specs.Columns.{height, no_entry, entry_at, place_of, edge_of, first_entry, sum_from, ColumnsStand}
use Rattle.tree.proofs.Facts.{facts, stands}
use Rattle.tree.proofs.Words.{nth_at, except, over_none}
use Rattle.tree.proofs.Cuts.{split, key_in, begins_rise, sum_range}

-- ---- a total by another walk over the same positions
pub total_by : (n m : ℕ) (S T : ℕ → Bool) (σ : ℕ → ℕ) (f : ℕ → ℕ) →
    ((k : ℕ) → k < m → T k ≡ true → (σ k < n) × (S (σ k) ≡ true)) →
    ((k l : ℕ) → k < m → l < m → T k ≡ true → T l ≡ true → σ k ≡ σ l → k ≡ l) →
    ((x : ℕ) → x < n → S x ≡ true → (k : ℕ) × (k < m) × (T k ≡ true) × (σ k ≡ x)) →
    total n S f ≡ total m T (λ k. f (σ k))
unfolding over
total_by n zero S T σ f to inj onto = over_none ◌+◌ 0 n S f (λ x h t. let w = onto x h t in omega (arith, w.1))
total_by n (suc m) S T σ f to inj onto = go (λ U. total_by n m U T σ f) (T m) refl
  where
    Less : Type 0
    Less = (U : ℕ → Bool) →
        ((k : ℕ) → k < m → T k ≡ true → (σ k < n) × (U (σ k) ≡ true)) →
        ((k l : ℕ) → k < m → l < m → T k ≡ true → T l ≡ true → σ k ≡ σ l → k ≡ l) →
        ((x : ℕ) → x < n → U x ≡ true → (k : ℕ) × (k < m) × (T k ≡ true) × (σ k ≡ x)) →
        total n U f ≡ total m T (λ k. f (σ k))

    less : (k : ℕ) → k < suc m → (k ≡ m → ⊥) → k < m
    less k h ne = let d : k ≢ m = ne in omega arith

    go : Less → (b : Bool) → T m ≡ b → total n S f ≡ cond b (f (σ m) + total m T (λ k. f (σ k))) (total m T (λ k. f (σ k)))
    go ih false e =
        ih S (λ k h t. to k (omega arith) t) (λ k l h j. inj k l (omega arith) (omega arith))
        (λ x h t. let w = onto x h t in (w.0, less w.0 w.1 (λ z. true≢false (sym w.2 ∙ ap T z ∙ e)), w.2, w.3))
    go ih true e =
        let here = to m (omega arith) e in
        except n S f (σ m) here.0 here.1
        ∙ ap (λ z. f (σ m) + z)
        (ih (λ y. S y && not (eqb y (σ m)))
        (λ k h t. let a = to k (omega arith) t in
        (a.0, and_from (S (σ k)) (not (eqb (σ k) (σ m))) a.1 (ap not (ne_eqb (σ k) (σ m) (λ z. let q : k ≡ m = inj k m (omega arith) (omega arith) t e z in let w : ⊥ = omega arith in w)))))
        (λ k l h j. inj k l (omega arith) (omega arith))
        (λ x h t.
        let p = and_parts (S x) (not (eqb x (σ m))) t in
        let w = onto x h p.0 in
        (w.0, less w.0 w.1 (λ z. true≢false (sym p.1 ∙ ap not (eq-eqb x (σ m) (sym w.3 ∙ ap σ z)))), w.2, w.3)))

-- ---- the position of an edge
place_at : (es : List Edge) (r c k : ℕ) (e : Edge) → Stands es k e → e.row ≡ r → e.column ≡ c →
    (place_of es r c < length es) × ((get_or es (place_of es r c) no_edge).row ≡ r) × ((get_or es (place_of es r c) no_edge).column ≡ c)
unfolding place_of
place_at [] r c k e s p q = absurd (let z : ◌≡◌ {A = ℕ} 0 1 = cc in let w : ⊥ = omega arith in w)
place_at (x ∷ xs) r c k e s p q = go (λ k s. place_at xs r c k e s p q) k s (eqb x.row r && eqb x.column c) refl
  where
    Found : ℕ → Type 0
    Found i = (i < suc (length xs)) × ((get_or (x ∷ xs) i no_edge).row ≡ r) × ((get_or (x ∷ xs) i no_edge).column ≡ c)

    go : ((k : ℕ) → Stands xs k e → (place_of xs r c < length xs) × ((get_or xs (place_of xs r c) no_edge).row ≡ r) × ((get_or xs (place_of xs r c) no_edge).column ≡ c)) →
        (k : ℕ) → Stands (x ∷ xs) k e → (b : Bool) → (eqb x.row r && eqb x.column c) ≡ b → Found (cond b 0 (suc (place_of xs r c)))
    go ih k s true t = let w = and_parts (eqb x.row r) (eqb x.column c) t in (omega arith, eqb-true x.row r w.0, eqb-true x.column c w.1)
    go ih zero s false t =
        let same : x ≡ e = cc in
        let w : (eqb x.row r && eqb x.column c) ≡ true = and_from (eqb x.row r) (eqb x.column c) (eq-eqb x.row r (ap (λ y. y.row) same ∙ p)) (eq-eqb x.column c (ap (λ y. y.column) same ∙ q)) in
        absurd (true≢false (sym w ∙ t))
    go ih (suc k) s false t = let w = ih k s in (omega (arith, w.0), w.1, w.2)

module _ (K : View) (R : Admitted K) where
  -- no two edges have one row and one column
  pub one_edge : (x y : ℕ) → x < width K → y < width K → row_of K x ≡ row_of K y → column_of K x ≡ column_of K y → x ≡ y
  one_edge x y h k p q = go (cases_lt x y) (cases_lt y x)
    where
      never : (a b : ℕ) → a < b → b < width K → row_of K a ≡ row_of K b → column_of K a ≡ column_of K b → ⊥
      never a b l m s t = elim ((facts K R).rising a b l m) [ inl z ↦ omega arith | inr z ↦ omega (arith, z.1) ]

      go : (x < y) ⊎ (y ≤ x) → (y < x) ⊎ (x ≤ y) → x ≡ y
      go (inl l) d = absurd (never x y l k p q)
      go (inr l) (inl m) = absurd (never y x m h (sym p) (sym q))
      go (inr l) (inr m) = omega arith

  entry_stands : (k : ℕ) → k < height K → Stands K.entries k (entry_at K k)
  entry_stands k h = slice_get-get_or K.entries k no_entry h

  -- no two entries have one row and one column
  one_entry : (x y : ℕ) → x < height K → y < height K → (entry_at K x).row ≡ (entry_at K y).row → (entry_at K x).column ≡ (entry_at K y).column → x ≡ y
  one_entry x y h k p q = go (cases_lt x y) (cases_lt y x)
    where
      never : (a b : ℕ) → a < b → b < height K → (entry_at K a).row ≡ (entry_at K b).row → (entry_at K a).column ≡ (entry_at K b).column → ⊥
      never a b l m s t = elim (R.entries_rise a b (entry_at K a) (entry_at K b) l (entry_stands a (omega arith)) (entry_stands b m)) [ inl z ↦ omega arith | inr z ↦ omega (arith, z.1) ]

      go : (x < y) ⊎ (y ≤ x) → (y < x) ⊎ (x ≤ y) → x ≡ y
      go (inl l) d = absurd (never x y l k p q)
      go (inr l) (inl m) = absurd (never y x m h (sym p) (sym q))
      go (inr l) (inr m) = omega arith

  pub entry_edge : (k : ℕ) → k < height K → (edge_of K k < width K) × (row_of K (edge_of K k) ≡ (entry_at K k).row) × (column_of K (edge_of K k) ≡ (entry_at K k).column)
  entry_edge k h =
      let w = R.entry_has_edge (entry_at K k).row (entry_at K k).column (k, (entry_at K k, (entry_stands k h, refl, refl))) in
      place_at K.edges (entry_at K k).row (entry_at K k).column w.0 w.1.0 w.1.1.0 w.1.1.1 w.1.1.2

  pub only_edge : (k x : ℕ) → k < height K → x < width K → row_of K x ≡ (entry_at K k).row → column_of K x ≡ (entry_at K k).column → x ≡ edge_of K k
  only_edge k x h l p q = let w = entry_edge k h in one_edge x (edge_of K k) l w.0 (p ∙ sym w.1) (q ∙ sym w.2)

  entries_rise : (x y : ℕ) → x ≤ y → y < height K → (entry_at K x).column ≤ (entry_at K y).column
  entries_rise x y h l = go (cases_lt x y)
    where
      go : (x < y) ⊎ (y ≤ x) → (entry_at K x).column ≤ (entry_at K y).column
      go (inl k) = elim (R.entries_rise x y (entry_at K x) (entry_at K y) k (entry_stands x (omega arith)) (entry_stands y l)) [ inl z ↦ omega arith | inr z ↦ omega (arith, z.0) ]
      go (inr k) = subst (λ z. (entry_at K x).column ≤ (entry_at K z).column) (let e : x ≡ y = omega arith in e) (omega arith)

  pub column_range : (c k : ℕ) → k < height K → ((entry_at K k).column ≡ c) ↔ ((first_entry K c ≤ k) × (k < first_entry K (suc c)))
  unfolding first_entry
  column_range c k h = key_in (height K) (λ k. (entry_at K k).column) entries_rise c k h

  pub column_order : (c : ℕ) → (first_entry K c ≤ first_entry K (suc c)) × (first_entry K c ≤ height K)
  unfolding first_entry
  column_order c = (begins_rise (height K) (λ k. (entry_at K k).column) entries_rise c, (split (height K) (λ k. (entry_at K k).column) entries_rise c).0)

  pub column_total : (c : ℕ) (f : ℕ → ℕ) → total (width K) (arms K (at_column c)) f ≡ total (height K) (λ k. eqb (entry_at K k).column c) (λ k. f (edge_of K k))
  unfolding arms
  column_total c f = total_by (width K) (height K) (λ x. eqb (column_of K x) c) (λ k. eqb (entry_at K k).column c) (edge_of K) f
      (λ k h t. let w = entry_edge k h in (w.0, eq-eqb (column_of K (edge_of K k)) c (w.2 ∙ eqb-true (entry_at K k).column c t)))
      (λ k l h j t u e.
      let w = entry_edge k h in let v = entry_edge l j in
      one_entry k l h j (sym w.1 ∙ ap (row_of K) e ∙ v.1) (sym w.2 ∙ ap (column_of K) e ∙ v.2))
      (λ x h t.
      let w = R.edge_has_entry (row_of K x) (column_of K x) (x, (edge_at K x, (stands K x h, refl, refl))) in
      let a = nth_at K.entries w.0 no_entry w.1.0 w.1.1.0 in
      let r : (entry_at K w.0).row ≡ row_of K x = ap (λ y. y.row) a.1 ∙ w.1.1.1 in
      let c : (entry_at K w.0).column ≡ column_of K x = ap (λ y. y.column) a.1 ∙ w.1.1.2 in
      (w.0, a.0, eq-eqb (entry_at K w.0).column _ (c ∙ eqb-true (column_of K x) _ t), sym (only_edge w.0 x a.0 h (sym r) (sym c))))

  pub column_sum_is : (c : ℕ) (f : ℕ → ℕ) → total (width K) (arms K (at_column c)) f ≡ sum_from (λ k. f (edge_of K k)) (first_entry K c) (first_entry K (suc c) - first_entry K c)
  column_sum_is c f =
      let o = column_order c in
      let p = column_order (suc c) in
      let s : ℕ = first_entry K c in
      let m : ℕ = first_entry K (suc c) - first_entry K c in
      let e : s + m ≡ first_entry K (suc c) = omega (arith, o.0) in
      column_total c f ∙ sum_range (height K) s m (λ k. eqb (entry_at K k).column c) (λ k. f (edge_of K k)) (omega (arith, e, p.1)) (λ k h. test k h e)
    where
      test : (k : ℕ) → k < height K → first_entry K c + (first_entry K (suc c) - first_entry K c) ≡ first_entry K (suc c) →
          eqb (entry_at K k).column c ≡ (leb (first_entry K c) k && ltb k (first_entry K c + (first_entry K (suc c) - first_entry K c)))
      test k h e = go (cases_lt k (first_entry K c)) (cases_lt k (first_entry K c + (first_entry K (suc c) - first_entry K c)))
        where
          go : (k < first_entry K c) ⊎ (first_entry K c ≤ k) → (k < first_entry K c + (first_entry K (suc c) - first_entry K c)) ⊎ (first_entry K c + (first_entry K (suc c) - first_entry K c) ≤ k) →
              eqb (entry_at K k).column c ≡ (leb (first_entry K c) k && ltb k (first_entry K c + (first_entry K (suc c) - first_entry K c)))
          go (inl l) d = ne_eqb (entry_at K k).column c (λ z. let w = (column_range c k h).0 z in let y : ⊥ = omega (arith, w.0) in y) ∙ sym (rw (lt-leb (first_entry K c) k l))
          go (inr l) (inl m) = eq-eqb (entry_at K k).column c ((column_range c k h).1 (l, omega arith)) ∙ sym (rw (le-leb (first_entry K c) k l, lt-ltb k (first_entry K c + (first_entry K (suc c) - first_entry K c)) m))
          go (inr l) (inr m) = ne_eqb (entry_at K k).column c (λ z. let w = (column_range c k h).0 z in let y : ⊥ = omega (arith, w.1) in y) ∙ sym (rw (le-leb (first_entry K c) k l, le-ltb k (first_entry K c + (first_entry K (suc c) - first_entry K c)) m))

pub columns_theorem : ColumnsStand
columns_theorem K R = record {
  edge = entry_edge K R;
  only = only_edge K R;
  range = column_range K R;
  order = column_order K R;
  over_all = column_total K R;
  over_own = column_sum_is K R;
}
