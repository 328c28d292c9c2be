-- What the rules of admitting say of the edges at their positions. Assumes nothing.
use Rattle.std.proofs.Common.{◌≡◌, ℕ, zero, suc, ◌+◌, ◌<◌, ◌≤◌, Bool, true, false, cond, eqb, ◌⊎◌, List, length, get_or, take, count_by, refl, ap, ◌∙◌, add-one, arith}
use Rattle.std.proofs.lemmas.List.{take_all}
use Rattle.std.proofs.lemmas.Option.{slice_get-get_or}
use Rattle.std.proofs.lemmas.List.Sums.{count_by_more_yes, count_by_more_no}
use Rattle.code.specs.Admission.{in_row, in_column}
use Rattle.code.specs.Rules.{Stands, EdgeFits}
use Rattle.code.specs.Views.{View}
use Rattle.tree.specs.Over.{over, count}
use Rattle.tree.specs.Places.{Admitted, width, no_edge, edge_at, row_of, column_of, coefficient_of}

pub record Facts (K : View) : Type 0 where
  pub order_low : 2 ≤ K.header.order
  pub order_high : K.header.order ≤ 64
  pub columns_low : 2 ≤ K.header.columns
  pub columns_high : K.header.columns ≤ 256
  pub rows_low : 1 ≤ K.header.rows
  pub rows_high : K.header.rows ≤ 128
  pub ceiling_low : 1 ≤ K.header.ceiling
  pub ceiling_high : K.header.ceiling ≤ 1023
  pub limit_high : K.header.limit ≤ 200
  pub width_high : width K ≤ 1024
  pub row_below : (e : ℕ) → e < width K → row_of K e < K.header.rows
  pub column_below : (e : ℕ) → e < width K → column_of K e < K.header.columns
  pub coefficient_low : (e : ℕ) → e < width K → 1 ≤ coefficient_of K e
  pub coefficient_high : (e : ℕ) → e < width K → coefficient_of K e < K.header.order
  pub rising : (e x : ℕ) → e < x → x < width K → (row_of K e < row_of K x) ⊎ ((row_of K e ≡ row_of K x) × (column_of K e < column_of K x))
  pub row_low : (r : ℕ) → r < K.header.rows → 2 ≤ count (width K) (λ e. eqb (row_of K e) r)
  pub row_high : (r : ℕ) → r < K.header.rows → count (width K) (λ e. eqb (row_of K e) r) ≤ 16
  pub column_low : (c : ℕ) → c < K.header.columns → 1 ≤ count (width K) (λ e. eqb (column_of K e) c)
  pub column_high : (c : ℕ) → c < K.header.columns → count (width K) (λ e. eqb (column_of K e) c) ≤ 8

-- what stands at a position
pub stands : (K : View) (e : ℕ) → e < width K → Stands K.edges e (edge_at K e)
stands K e h = slice_get-get_or K.edges e no_edge h

-- a count over positions is a count over the list
module _ {A : Type 0} (p : A → Bool) (xs : List A) (d : A) where
  count_front : (n : ℕ) → n ≤ length xs → count n (λ i. p (get_or xs i d)) ≡ count_by p (take n xs)
  unfolding over
  count_front zero h = refl
  count_front (suc n) h = go (count_front n (omega arith)) (p (get_or xs n d)) refl
    where
      go : count n (λ i. p (get_or xs i d)) ≡ count_by p (take n xs) → (b : Bool) → p (get_or xs n d) ≡ b →
          cond b (1 + count n (λ i. p (get_or xs i d))) (count n (λ i. p (get_or xs i d))) ≡ count_by p (take (suc n) xs)
      go ih true e =
          let m = count_by_more_yes p xs n d (omega arith) e in
          let s = ap (λ k. count_by p (take k xs)) (add-one n) in
          omega arith
      go ih false e =
          let m = count_by_more_no p xs n d (omega arith) e in
          let s = ap (λ k. count_by p (take k xs)) (add-one n) in
          omega arith

  pub count_list : count (length xs) (λ i. p (get_or xs i d)) ≡ count_by p xs
  count_list = count_front (length xs) (omega arith) ∙ ap (count_by p) (take_all (length xs) xs (omega arith))

pub facts : (K : View) → Admitted K → Facts K
facts K R = record {
  order_low = R.header.order.0;
  order_high = R.header.order.1;
  columns_low = R.header.columns.0;
  columns_high = R.header.columns.1;
  rows_low = R.header.rows.0;
  rows_high = R.header.rows.1;
  ceiling_low = R.header.ceiling.0;
  ceiling_high = R.header.ceiling.1;
  limit_high = R.header.limit.1;
  width_high = R.few_edges;
  row_below = λ e h. (fit e h).row;
  column_below = λ e h. (fit e h).column;
  coefficient_low = λ e h. (fit e h).coefficient;
  coefficient_high = λ e h. (fit e h).code;
  rising = λ e x l h. R.edges_rise e x (edge_at K e) (edge_at K x) l (stands K e (omega arith)) (stands K x h);
  row_low = λ r h. let z = R.row_degrees r h in omega (arith, z.0, count_list (in_row r) K.edges no_edge);
  row_high = λ r h. let z = R.row_degrees r h in omega (arith, z.1, count_list (in_row r) K.edges no_edge);
  column_low = λ c h. let z = R.column_degrees c h in omega (arith, z.0, count_list (in_column c) K.edges no_edge);
  column_high = λ c h. let z = R.column_degrees c h in omega (arith, z.1, count_list (in_column c) K.edges no_edge);
}
  where
    fit : (e : ℕ) → e < width K → EdgeFits K.header (edge_at K e)
    fit e h = R.edges_fit e (edge_at K e) (stands K e h)
