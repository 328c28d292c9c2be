-- One row after another. Assumes nothing.
use Rattle.std.proofs.Common.{◌≡◌, ℕ, zero, suc, ◌+◌, ◌-◌, ◌<◌, ◌≤◌, min, Bool, true, false, cond, not, eqb, ltb, ◌≢◌, ◌⊎◌, List, length, take, drop, Some, None, position, sym, refl, ap, ◌∙◌, subst, ap₂, inl, inr, add-one, arith}
use Rattle.std.proofs.lemmas.List.{get_or-take, get_or-drop}
use Rattle.std.proofs.lemmas.List.Edits.{length-between}
use Rattle.std.proofs.lemmas.Bool.{cases_lt, lt-ltb, le-ltb, cond_both, eqb-true, not-false, ltb-true, ltb-false}
use Rattle.std.proofs.lemmas.List.Sums.{fails_before_first}
use Rattle.std.specs.List.{position_or_len}
use Rattle.tree.specs.Over.{over, count}
use Rattle.field.specs.Tables.{Tables}
use Rattle.tree.proofs.Folds.{over_tests}
use Rattle.frame.specs.Vectors.{minus, over_one}
use Rattle.tree.specs.Rows.{gathered, forth, back, around, row_pairs}
use Rattle.frame.specs.Blocks.{block}
use Rattle.frame.specs.Row.{row_vectors, coefficient_at, RowDone}
use Rattle.frame.specs.AllRows.{starts, last_of, coefficients_of, vectors_of, read_of, rows_pairs, RowsTo, Cut}
use Rattle.frame.specs.Columns.{edge_at, row_at}
use Rattle.code.specs.declared.table.Edge.{Edge}
use Rattle.frame.proofs.Turns.{around_same, forth_same, back_same, forth_pairs_same, back_pairs_same, pairs_same}

-- ---- vectors that agree up to the last
module _ (pairs : ℕ → ℕ → List ℕ → List ℕ → ℕ) (t : Tables) (top last : ℕ) (one : 1 ≤ last) (P Q : ℕ → List ℕ) (same : (i : ℕ) → i ≤ last → P i ≡ Q i) where
  pub all_same : (i : ℕ) → i ≤ last → around t P last i ≡ around t Q last i
  all_same i h = around_same pairs t top last (forth t P) (forth t Q) (back t P last) (back t Q last) i one h
      (λ x l. forth_same pairs t top last P Q same x (omega arith)) (λ x l. back_same pairs t top last P Q same x)

  pub row_pairs_same : row_pairs pairs t top P last ≡ row_pairs pairs t top Q last
  unfolding row_pairs
  row_pairs_same =
      ap₂ ◌+◌ (ap₂ ◌+◌ (back_pairs_same pairs t top last P Q same (last - 1)) (forth_pairs_same pairs t top last P Q same (last - 1) (omega arith)))
      (pairs_same pairs t top last (forth t P) (forth t Q) (back t P last) (back t Q last) one
      (λ x l. forth_same pairs t top last P Q same x (omega arith)) (λ x l. back_same pairs t top last P Q same x) (suc last) (omega arith))

-- ---- where rows begin
pub count_below : (n e : ℕ) → count n (λ x. ltb x e) ≡ min n e
unfolding over
count_below zero e = omega arith
count_below (suc n) e =
    let ih = count_below n e in
    cond_both (ltb n e) (1 + count n (λ x. ltb x e)) (count n (λ x. ltb x e)) (λ z. z ≡ min (suc n) e) (λ k. let l = ltb-true n e k in omega arith) (λ k. let l = ltb-false n e k in omega arith)

pub cut_starts : (edges : List Edge) (r e : ℕ) → Cut edges r e → e ≡ starts edges r
unfolding starts
cut_starts edges r e C =
    sym (over_tests ◌+◌ 0 (length edges) (λ x. ltb (row_at edges x) r) (λ x. ltb x e) (λ x. 1) (λ x h. go x h (cases_lt x e)) ∙ count_below (length edges) e ∙ (let z : min (length edges) e ≡ e = omega (arith, C.within) in z))
  where
    go : (x : ℕ) → x < length edges → (x < e) ⊎ (e ≤ x) → ltb (row_at edges x) r ≡ ltb x e
    go x h (inl l) = lt-ltb (row_at edges x) r (C.lower x l) ∙ sym (lt-ltb x e l)
    go x h (inr l) = le-ltb (row_at edges x) r (C.upper x l h) ∙ sym (le-ltb x e l)

pub cut_none : (edges : List Edge) → Cut edges 0 0
cut_none edges = record { within = omega arith; lower = λ x h. absurd (let z : ⊥ = omega arith in z); upper = λ x h k. omega arith }

pub cut_more : (edges : List Edge) (r first end : ℕ) → ((x y : ℕ) → x ≤ y → y < length edges → row_at edges x ≤ row_at edges y) → Cut edges r first → first ≤ end → end ≤ length edges →
    ((x : ℕ) → first ≤ x → x < end → row_at edges x ≡ r) → (end < length edges → row_at edges end ≡ r → ⊥) → Cut edges (r + 1) end
cut_more edges r first end rising C lo hi same next = record { within = hi; lower = lower; upper = upper }
  where
    lower : (x : ℕ) → x < end → row_at edges x < r + 1
    lower x h = go (cases_lt x first)
      where
        go : (x < first) ⊎ (first ≤ x) → row_at edges x < r + 1
        go (inl l) = omega (arith, C.lower x l)
        go (inr l) = omega (arith, same x l h)

    upper : (x : ℕ) → end ≤ x → x < length edges → r + 1 ≤ row_at edges x
    upper x h l =
        let up = C.upper end lo (omega arith) in
        let ne : row_at edges end ≢ r = next (omega arith) in
        omega (arith, rising end x h l)

-- ---- a part of the edges
pub part_edge : (edges : List Edge) (first end i : ℕ) → i < end - first → edge_at (take (end - first) (drop first edges)) i ≡ edge_at edges (first + i)
part_edge edges first end i h = get_or-take (end - first) (drop first edges) i _ h ∙ get_or-drop first edges i _

-- up to where the first edge of another row stands in a part, all are of the row
pub of_row : (edges : List Edge) (first r n : ℕ) → let part = take (length edges - first) (drop first edges) in
    n ≤ position_or_len (λ (e : Edge). not (eqb e.row r)) part → (x : ℕ) → first ≤ x → x < first + n → x < length edges → row_at edges x ≡ r
of_row edges first r n h x l m o =
    let part : List Edge = take (length edges - first) (drop first edges) in
    let k : ℕ = x - first in
    let z : first + k ≡ x = omega arith in
    let f = fails_before_first (λ (e : Edge). not (eqb e.row r)) part k (record { row = 0; column = 0; coefficient = 0 }) (omega (arith, h)) in
    let e : row_at part k ≡ r = eqb-true (row_at part k) r (not-false (eqb (row_at part k) r) f) in
    subst (λ y. row_at edges y ≡ r) z (ap (λ e. e.row) (sym (part_edge edges first (length edges) k (omega arith))) ∙ e)

-- where `position` answers
pub found_first : {X : Type 0} (p : X → Bool) (xs : List X) (n : ℕ) → position p xs ≡ Some n → n ≡ position_or_len p xs
found_first p xs n e = go (ltb (position_or_len p xs) (length xs)) e
  where
    go : (b : Bool) → cond b (Some (position_or_len p xs)) None ≡ Some n → n ≡ position_or_len p xs
    go true e = cc
    go false e = let f : ◌≡◌ {A = ℕ} 0 1 = cc in absurd (let z : ⊥ = omega arith in z)

pub none_found : {X : Type 0} (p : X → Bool) (xs : List X) → position p xs ≡ None → length xs ≤ position_or_len p xs
none_found p xs e = go (ltb (position_or_len p xs) (length xs)) refl e
  where
    go : (b : Bool) → ltb (position_or_len p xs) (length xs) ≡ b → cond b (Some (position_or_len p xs)) None ≡ None → length xs ≤ position_or_len p xs
    go true h e = let f : ◌≡◌ {A = ℕ} 0 1 = cc in absurd (let z : ⊥ = omega arith in z)
    go false h e = ltb-false (position_or_len p xs) (length xs) h

pub part_coefficient : (edges : List Edge) (first end i : ℕ) → i < end - first → coefficient_at (take (end - first) (drop first edges)) i ≡ coefficient_at edges (first + i)
part_coefficient edges first end i h = ap (λ z. z.coefficient) (part_edge edges first end i h)

pub part_length : (edges : List Edge) (first end : ℕ) → end ≤ length edges → length (take (end - first) (drop first edges)) ≡ end - first
part_length edges first end h = length-between edges first end h

module _ (pairs : ℕ → ℕ → List ℕ → List ℕ → ℕ) (t : Tables) (top : ℕ) (edges : List Edge) (to from s r : ℕ) (before area : List ℕ)
    (B : RowsTo t edges to from s r before area) (apart : to + length edges ≤ from) (clear : from + length edges ≤ s)
    (two : starts edges r + 2 ≤ starts edges (suc r)) (C : Cut edges r (starts edges r)) (D : Cut edges (r + 1) (starts edges (suc r)))
    (hs : ℕ → ℕ) (agree : (i : ℕ) → i ≤ last_of edges r → hs i ≡ coefficients_of edges r i) where
  same_vectors : (i : ℕ) → i ≤ last_of edges r → row_vectors t hs (to + starts edges r) area i ≡ vectors_of t edges to before r i
  same_vectors i h = ap₂ (gathered t) (ap (over_one t) (agree i h)) (B.kept (to + starts edges r + i) (inl (omega (arith, D.within))) (inl (omega (arith, D.within))))

  pub next_pairs : (n c : ℕ) → n ≡ rows_pairs pairs t top edges to before r → c ≡ row_pairs pairs t top (row_vectors t hs (to + starts edges r) area) (last_of edges r) → n + c ≡ rows_pairs pairs t top edges to before (r + 1)
  unfolding rows_pairs
  next_pairs n c en ec =
      ap₂ ◌+◌ en (ec ∙ row_pairs_same pairs t top (last_of edges r) (omega arith) (row_vectors t hs (to + starts edges r) area) (vectors_of t edges to before r) same_vectors)
      ∙ ap (rows_pairs pairs t top edges to before) (sym (add-one r))

  pub rows_more : (after : List ℕ) → RowDone t hs (to + starts edges r) (from + starts edges r) s (last_of edges r) area after → RowsTo t edges to from s (r + 1) before after
  unfolding read_of
  rows_more after R = record { there = there; kept = kept }
    where
      S : ℕ
      S = starts edges r

      there : (x : ℕ) → x < length edges → row_at edges x < r + 1 → block t.order (from + x) after ≡ read_of t edges to before (row_at edges x) (x - starts edges (row_at edges x))
      there x h l = go (cases_lt (row_at edges x) r)
        where
          go : (row_at edges x < r) ⊎ (r ≤ row_at edges x) → block t.order (from + x) after ≡ read_of t edges to before (row_at edges x) (x - starts edges (row_at edges x))
          go (inl k) =
              let b : x < starts edges r = early x h k in
              R.kept (from + x) (inl (omega arith)) (inl (omega arith)) ∙ B.there x h k
            where
              early : (x : ℕ) → x < length edges → row_at edges x < r → x < starts edges r
              early x h k = pick (cases_lt x (starts edges r))
                where
                  pick : (x < starts edges r) ⊎ (starts edges r ≤ x) → x < starts edges r
                  pick (inl y) = y
                  pick (inr y) = absurd (let u = C.upper x y h in let z : ⊥ = omega arith in z)
          go (inr k) =
              let e : r ≡ row_at edges x = omega arith in
              let lo : starts edges r ≤ x = late (cases_lt x (starts edges r)) in
              let hi : x < starts edges (suc r) = inside (cases_lt x (starts edges (suc r))) in
              let i : ℕ = x - starts edges r in
              let z : from + x ≡ from + starts edges r + i = omega arith in
              subst (λ n. block t.order (from + x) after ≡ read_of t edges to before n (x - starts edges n)) e
              (ap (λ n. block t.order n after) z ∙ R.there i (omega arith)
              ∙ ap₂ (gathered t) (ap (minus t) (agree i (omega arith))) (all_same pairs t top (last_of edges r) (omega arith) (row_vectors t hs (to + starts edges r) area) (vectors_of t edges to before r) same_vectors i (omega arith)))
            where
              late : (x < starts edges r) ⊎ (starts edges r ≤ x) → starts edges r ≤ x
              late (inl y) = absurd (let u = C.lower x y in let z : ⊥ = omega arith in z)
              late (inr y) = y

              inside : (x < starts edges (suc r)) ⊎ (starts edges (suc r) ≤ x) → x < starts edges (suc r)
              inside (inl y) = y
              inside (inr y) = absurd (let u = D.upper x y h in let z : ⊥ = omega arith in z)

      kept : (j : ℕ) → (j < from) ⊎ (from + length edges ≤ j) → (j < s) ⊎ (s + 36 ≤ j) → block t.order j after ≡ block t.order j before
      kept j (inl h) o = R.kept j (inl (omega arith)) o ∙ B.kept j (inl h) o
      kept j (inr h) o = R.kept j (inr (omega (arith, D.within))) o ∙ B.kept j (inr h) o

pub rows_none : (t : Tables) (edges : List Edge) (to from s : ℕ) (before : List ℕ) → RowsTo t edges to from s 0 before before
rows_none t edges to from s before = record { there = λ x h l. absurd (let z : ⊥ = omega arith in z); kept = λ j o i. refl }
