-- The decided symbols, as they stand in a word, and the rows that fail with them. Assumes nothing.
use Rattle.std.proofs.Common.{◌≡◌, ℕ, pred, ◌+◌, ◌*◌, ◌<◌, ◌≤◌, not, eqb, ◌⊎◌, List, length, get_or, ap, ◌∙◌, inl, inr, arith}
use Rattle.std.proofs.lemmas.List.{get_or_past}
use Rattle.std.proofs.lemmas.Bool.{cases_lt}
use Rattle.field.specs.Tables.{Tables}
use Rattle.code.specs.Views.{View}
use Rattle.tree.specs.Places.{Admitted, width, row_of, column_of, coefficient_of}
use Rattle.tree.specs.Rows.{tabled}
use Rattle.tree.specs.Frame.{parts_of, decided, row_sum, failing, word_of}
use Rattle.tree.proofs.Facts.{Facts, facts}
use Rattle.tree.proofs.Folds.{over_same, over_tests}
use Rattle.tree.proofs.Rows.{length_tabled, at_tabled, rows_rise}
use Rattle.tree.proofs.Words.{lowest_low}
use Rattle.frame.specs.Words.{symbol_at, sum_to, failing_to, Summable}

module _ (F : Tables) (K : View) (R : Admitted K) (orders : F.order ≡ K.header.order) (area word : List ℕ)
    (is : word ≡ tabled K.header.columns (symbol_at K.header.order K.header.columns area)) where
  A : Facts K
  A = facts K R

  long : length word ≡ K.header.columns
  long = ap length is ∙ length_tabled K.header.columns (symbol_at K.header.order K.header.columns area)

  at : (c : ℕ) → c < K.header.columns → get_or word c 0 ≡ symbol_at K.header.order K.header.columns area c
  at c h = ap (λ v. get_or v c 0) is ∙ at_tabled K.header.columns (symbol_at K.header.order K.header.columns area) c h

  symbol_code : (c : ℕ) → get_or word c 0 < F.order
  symbol_code c = go (cases_lt c K.header.columns)
    where
      go : (c < K.header.columns) ⊎ (K.header.columns ≤ c) → get_or word c 0 < F.order
      go (inl h) = let l = lowest_low (pred K.header.order) (λ a. get_or area ((K.header.columns + c) * K.header.order + a) 0) in let o = A.order_low in omega (arith, at c h)
      go (inr h) = let s : length word ≤ c = omega (arith, long) in let o = A.order_low in omega (arith, get_or_past word c 0 s)

  pub summable : Summable F K.edges word
  summable = record {
    rising = rows_rise K A;
    coefficients = λ x h. omega (arith, A.coefficient_high x h);
    columns = λ x h. omega (arith, A.column_below x h, long);
    symbols = symbol_code;
  }

  same_sum : (r : ℕ) → sum_to F K.edges word r (width K) ≡ row_sum F K (decided K (parts_of K area)) r
  unfolding row_sum decided parts_of
  same_sum r = over_same F.sum 0 (width K) (λ e. eqb (row_of K e) r) (λ e. F.product (coefficient_of K e) (get_or word (column_of K e) 0)) (λ e. F.product (coefficient_of K e) (symbol_at K.header.order K.header.columns area (column_of K e)))
      (λ e h t. ap (F.product (coefficient_of K e)) (at (column_of K e) (A.column_below e h)))

  pub failing_is : failing_to F K.edges word K.header.rows ≡ failing F K (decided K (parts_of K area))
  unfolding failing
  failing_is = over_tests ◌+◌ 0 K.header.rows (λ r. not (eqb (sum_to F K.edges word r (width K)) 0)) (λ r. not (eqb (row_sum F K (decided K (parts_of K area)) r) 0)) (λ x. 1) (λ r h. ap (λ s. not (eqb s 0)) (same_sum r))

  pub word_is : word ≡ word_of K (parts_of K area)
  unfolding word_of decided parts_of
  word_is = is
