-- Where a row and a column stand in the row table. Assumes nothing.
use Rattle.std.proofs.Common.{◌≡◌, ℕ, pred, ◌<◌, ◌≤◌, Bool, true, false, cond, ◌&&◌, eqb, ltb, ◌⊎◌, List, length, get_or, sym, refl, ap, ◌∙◌, subst, inl, inr, arith}
use Rattle.std.proofs.lemmas.Bool.{eq-eqb, eqb-true, lt-ltb, or_left, or_right, ltb-true, ltb-false, and_from, and_parts, and_cases, or_cases, or_parts, cases_order}
use Rattle.std.proofs.lemmas.List.{get_or_default}
use Rattle.std.specs.List.Sorted.{IsPartitionedBy, IsPartitionPoint}
use Rattle.code.specs.declared.table.Edge.{Edge}
use Rattle.tree.specs.Over.{lowest_to}
use Rattle.tree.proofs.Words.{lowest_low, lowest_under}
use Rattle.frame.specs.Columns.{edge_at, row_at, column_at, before, Rising, StandsAt, HasAt, position_of}

-- no two positions have the same row and column
pub only_place : (E : List Edge) → Rising E → (r c x y : ℕ) → StandsAt E r c x → StandsAt E r c y → x ≡ y
only_place E rising r c x y X Y = go (cases_order x y)
  where
    never : (x y : ℕ) → StandsAt E r c x → StandsAt E r c y → x < y → ⊥
    never x y X Y l = pick (rising x y l Y.within)
      where
        pick : (row_at E x < row_at E y) ⊎ ((row_at E x ≡ row_at E y) × (column_at E x < column_at E y)) → ⊥
        pick (inl h) = omega (arith, X.row, Y.row)
        pick (inr h) = omega (arith, h.1, X.column, Y.column)

    go : (x ≡ y) ⊎ ((x < y) ⊎ (y < x)) → x ≡ y
    go (inl e) = e
    go (inr (inl l)) = absurd (never x y X Y l)
    go (inr (inr l)) = absurd (never y x Y X l)

-- where they stand, the position is found
module _ (E : List Edge) (r c : ℕ) (has : HasAt E r c) where
  match : ℕ → Bool
  match x = eqb (row_at E x) r && eqb (column_at E x) c

  matched : (v : Bool) → cond v 0 1 ≤ 0 → v ≡ true
  matched true h = refl
  matched false h = absurd (let z : ⊥ = omega arith in z)

  pub position_stands : StandsAt E r c (position_of E r c)
  unfolding position_of match
  position_stands =
      let f : ℕ → ℕ = λ x. cond (match x) 0 1 in
      let n : ℕ = pred (length E) in
      let X = has.1 in
      let low = lowest_low n f in
      let at : f has.0 ≡ 0 = ap (λ (v : Bool). cond v 0 1) (and_from (eqb (row_at E has.0) r) (eqb (column_at E has.0) c) (eq-eqb _ _ X.row) (eq-eqb _ _ X.column)) in
      let under = lowest_under n f has.0 (omega (arith, X.within)) in
      let p = and_parts (eqb (row_at E (lowest_to n f)) r) (eqb (column_at E (lowest_to n f)) c) (matched (match (lowest_to n f)) (omega arith)) in
      record { within = omega (arith, X.within); row = eqb-true _ _ p.0; column = eqb-true _ _ p.1 }

  pub position_within : position_of E r c < length E
  position_within = position_stands.within

  pub position_is : Rising E → (x : ℕ) → StandsAt E r c x → x ≡ position_of E r c
  position_is rising x X = only_place E rising r c x (position_of E r c) X position_stands

-- an edge that comes before a place, and those before it, do not stand there; nor does one that comes after it, or those after it
module _ (E : List Edge) (rising : Rising E) (r c m x : ℕ) (h : m < length E) (X : StandsAt E r c x) where
  pub place_after : before (edge_at E m) r c ≡ true → m < x
  place_after b = go (cases_order m x) (or_cases (ltb (row_at E m) r) (eqb (row_at E m) r && ltb (column_at E m) c) b)
    where
      same : m ≡ x → (row_at E m ≡ r) × (column_at E m ≡ c)
      same e = (ap (row_at E) e ∙ X.row, ap (column_at E) e ∙ X.column)

      over : (row_at E x < row_at E m) ⊎ ((row_at E x ≡ row_at E m) × (column_at E x < column_at E m)) → (ltb (row_at E m) r ≡ true) ⊎ ((eqb (row_at E m) r && ltb (column_at E m) c) ≡ true) → ⊥
      over (inl k) (inl o) = omega (arith, X.row, ltb-true (row_at E m) r o)
      over (inl k) (inr o) = let p = and_parts (eqb (row_at E m) r) (ltb (column_at E m) c) o in omega (arith, X.row, eqb-true (row_at E m) r p.0)
      over (inr k) (inl o) = omega (arith, X.row, k.0, ltb-true (row_at E m) r o)
      over (inr k) (inr o) = let p = and_parts (eqb (row_at E m) r) (ltb (column_at E m) c) o in omega (arith, X.column, k.1, ltb-true (column_at E m) c p.1)

      equal : (row_at E m ≡ r) × (column_at E m ≡ c) → (ltb (row_at E m) r ≡ true) ⊎ ((eqb (row_at E m) r && ltb (column_at E m) c) ≡ true) → ⊥
      equal s (inl o) = omega (arith, s.0, ltb-true (row_at E m) r o)
      equal s (inr o) = let p = and_parts (eqb (row_at E m) r) (ltb (column_at E m) c) o in omega (arith, s.1, ltb-true (column_at E m) c p.1)

      go : (m ≡ x) ⊎ ((m < x) ⊎ (x < m)) → (ltb (row_at E m) r ≡ true) ⊎ ((eqb (row_at E m) r && ltb (column_at E m) c) ≡ true) → m < x
      go (inl e) o = absurd (equal (same e) o)
      go (inr (inl l)) o = l
      go (inr (inr l)) o = absurd (over (rising x m l h) o)

  pub place_before : before (edge_at E m) r c ≡ false → (row_at E m ≡ r → column_at E m ≡ c → ⊥) → x < m
  place_before b other = go (cases_order m x)
    where
      p : (ltb (row_at E m) r ≡ false) × ((eqb (row_at E m) r && ltb (column_at E m) c) ≡ false)
      p = or_parts (ltb (row_at E m) r) (eqb (row_at E m) r && ltb (column_at E m) c) b

      past : (row_at E m < row_at E x) ⊎ ((row_at E m ≡ row_at E x) × (column_at E m < column_at E x)) → ⊥
      past (inl k) = omega (arith, X.row, ltb-false (row_at E m) r p.0)
      past (inr k) = pick (and_cases (eqb (row_at E m) r) (ltb (column_at E m) c) p.1)
        where
          pick : (eqb (row_at E m) r ≡ false) ⊎ (ltb (column_at E m) c ≡ false) → ⊥
          pick (inl o) = let z : eqb (row_at E m) r ≡ true = eq-eqb (row_at E m) r (k.0 ∙ X.row) in let w : ◌≡◌ {A = ℕ} 0 1 = cc in omega arith
          pick (inr o) = omega (arith, k.1, X.column, ltb-false (column_at E m) c o)

      go : (m ≡ x) ⊎ ((m < x) ⊎ (x < m)) → x < m
      go (inl e) = absurd (other (ap (row_at E) e ∙ X.row) (ap (column_at E) e ∙ X.column))
      go (inr (inl l)) = absurd (past (rising m x l X.within))
      go (inr (inr l)) = l

-- the edges that come before a place stand before the others
module _ (E : List Edge) (rising : Rising E) (r c : ℕ) where
  earlier : (x y : ℕ) → x < y → y < length E → before (edge_at E y) r c ≡ true → before (edge_at E x) r c ≡ true
  earlier x y l h b = go (rising x y l h) (or_cases (ltb (row_at E y) r) (eqb (row_at E y) r && ltb (column_at E y) c) b)
    where
      less : row_at E x < r → before (edge_at E x) r c ≡ true
      less k = or_left (ltb (row_at E x) r) (eqb (row_at E x) r && ltb (column_at E x) c) (lt-ltb (row_at E x) r k)

      same : row_at E x ≡ r → column_at E x < c → before (edge_at E x) r c ≡ true
      same e k = or_right (ltb (row_at E x) r) (eqb (row_at E x) r && ltb (column_at E x) c) (and_from (eqb (row_at E x) r) (ltb (column_at E x) c) (eq-eqb (row_at E x) r e) (lt-ltb (column_at E x) c k))

      go : (row_at E x < row_at E y) ⊎ ((row_at E x ≡ row_at E y) × (column_at E x < column_at E y)) → (ltb (row_at E y) r ≡ true) ⊎ ((eqb (row_at E y) r && ltb (column_at E y) c) ≡ true) → before (edge_at E x) r c ≡ true
      go (inl k) (inl o) = less (omega (arith, ltb-true (row_at E y) r o))
      go (inl k) (inr o) = let p = and_parts (eqb (row_at E y) r) (ltb (column_at E y) c) o in less (omega (arith, eqb-true (row_at E y) r p.0))
      go (inr k) (inl o) = less (omega (arith, k.0, ltb-true (row_at E y) r o))
      go (inr k) (inr o) = let p = and_parts (eqb (row_at E y) r) (ltb (column_at E y) c) o in same (k.0 ∙ eqb-true (row_at E y) r p.0) (omega (arith, k.1, ltb-true (column_at E y) c p.1))

  any : (i : ℕ) (d : Edge) → i < length E → before (get_or E i d) r c ≡ before (edge_at E i) r c
  any i d h = ap (λ e. before e r c) (get_or_default E i d _ h)

  pub before_part : IsPartitionedBy (λ e. before e r c) E
  before_part i j d l h b = go (cases_order i j)
    where
      go : (i ≡ j) ⊎ ((i < j) ⊎ (j < i)) → before (get_or E i d) r c ≡ true
      go (inl e) = ap (λ k. before (get_or E k d) r c) e ∙ b
      go (inr (inl k)) = any i d (omega arith) ∙ earlier i j k h (sym (any j d h) ∙ b)
      go (inr (inr k)) = absurd (let z : ⊥ = omega arith in z)

-- where those that come before the place end, it stands
pub place_found : (E : List Edge) (r c : ℕ) (has : HasAt E r c) → Rising E → (i : ℕ) → IsPartitionPoint (λ e. before e r c ≡ true) (λ e. before e r c ≡ false) E i →
    (i < length E) × (i ≡ position_of E r c)
place_found E r c has rising i P = (omega (arith, is, has.1.within), position_is E r c has rising i (subst (StandsAt E r c) (sym is) has.1))
  where
    x : ℕ
    x = has.0

    low : x < i → ⊥
    low h = let b = P.0 x (record { row = 0; column = 0; coefficient = 0 }) (omega arith) h in
        let l : x < x = place_after E rising r c x x has.1.within has.1 b in
        omega arith

    high : i < x → ⊥
    high h = let b = P.1 i (record { row = 0; column = 0; coefficient = 0 }) (omega arith) (omega (arith, has.1.within)) in
        let l : x < i = place_before E rising r c i x (omega (arith, has.1.within)) has.1 b (λ e f. other e f) in
        omega arith
      where
        other : row_at E i ≡ r → column_at E i ≡ c → ⊥
        other e f = let z : i ≡ x = only_place E rising r c i x (record { within = omega (arith, has.1.within); row = e; column = f }) has.1 in omega arith

    is : i ≡ x
    is = go (cases_order i x)
      where
        go : (i ≡ x) ⊎ ((i < x) ⊎ (x < i)) → i ≡ x
        go (inl e) = e
        go (inr (inl l)) = absurd (high l)
        go (inr (inr l)) = absurd (low l)
