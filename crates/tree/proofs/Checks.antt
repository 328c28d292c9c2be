-- The check of a row and the check along the tree are one. Assumes nothing.
use Rattle.std.proofs.Common.{◌≡◌, ℕ, ◌<◌, Bool, true, false, not, ◌&&◌, ◌||◌, eqb, ◌⊎◌, sym, refl, ap, ◌∙◌, inl, inr, true≢false, arith}
use Rattle.std.proofs.lemmas.Bool.{cases_eq, eq-eqb, ne_eqb, eqb-true, and_parts}
use Rattle.field.specs.Tables.{Tables, Lawful}
use Rattle.code.specs.Views.{View}
use Rattle.tree.specs.Over.{over}
use Rattle.tree.specs.Places.{Admitted, width, row_of, column_of, coefficient_of, others}
use Rattle.tree.specs.Frame.{row_sum}
use Rattle.tree.specs.Checks.{ChecksAre, ChecksStand}
use Rattle.tree.proofs.Laws.{laws_of}
use Rattle.tree.proofs.Facts.{facts}
use Rattle.tree.proofs.Folds.{over_tests, counted}
use Rattle.tree.proofs.Best.{sum_zero}
use Rattle.tree.proofs.Joins.{over_union, over_one}

-- an edge of the row is the edge, or another
or_other : (K : View) (e x : ℕ) → eqb (row_of K x) (row_of K e) ≡ (eqb x e || others K e x)
unfolding others
or_other K e x = go (cases_eq x e)
  where
    all : (b : Bool) → b ≡ (b && not false)
    all true = refl
    all false = refl

    go : (x ≡ e) ⊎ (x ≡ e → ⊥) → eqb (row_of K x) (row_of K e) ≡ (eqb x e || (eqb (row_of K x) (row_of K e) && not (eqb x e)))
    go (inl s) = eq-eqb (row_of K x) (row_of K e) (ap (row_of K) s) ∙ sym (rw (eq-eqb x e s))
    go (inr s) = rw (ne_eqb x e s) (all (eqb (row_of K x) (row_of K e)))

module _ (F : Tables) (L : Lawful F) (K : View) (R : Admitted K) (orders : F.order ≡ K.header.order) (word : ℕ → ℕ) (codes : (c : ℕ) → c < K.header.columns → word c < K.header.order) where
  abbrev term : ℕ → ℕ
  term x = F.product (coefficient_of K x) (word (column_of K x))

  term_code : (x : ℕ) → x < width K → term x < K.header.order
  term_code x h =
      let Q = laws_of F L K.header.order orders in
      let A = facts K R in
      Q.product_code (coefficient_of K x) (word (column_of K x)) (A.coefficient_high x h) (codes (column_of K x) (A.column_below x h))

  row_is : (e : ℕ) → e < width K → row_sum F K word (row_of K e) ≡ F.sum (term e) (over F.sum 0 (width K) (others K e) term)
  unfolding row_sum others
  row_is e h =
      let Q = laws_of F L K.header.order orders in
      over_tests F.sum 0 (width K) (λ x. eqb (row_of K x) (row_of K e)) (λ x. eqb x e || others K e x) term (λ x l. or_other K e x)
      ∙ over_union F.sum 0 (λ a. a < K.header.order) (omega (arith, Q.two)) (λ a b. Q.sum_code a b) (λ a b c. Q.sum_assoc a b c) (λ a b. Q.sum_comm a b) (λ a. Q.zero_sum a)
      (width K) (λ x. eqb x e) (others K e) term (λ x l t. term_code x l) (λ x l t. term_code x l) (λ x l s t. apart x s t)
      ∙ ap (λ y. F.sum y (over F.sum 0 (width K) (others K e) term)) (over_one F.sum 0 (width K) e term h ∙ sum_zero F K Q (term e) (term_code e h))
    where
      not-true : (b : Bool) → b ≡ true → not b ≡ true → ⊥
      not-true true s t = true≢false (sym t)
      not-true false s t = true≢false (sym s)

      apart : (x : ℕ) → eqb x e ≡ true → (eqb (row_of K x) (row_of K e) && not (eqb x e)) ≡ true → ⊥
      apart x s t = not-true (eqb x e) s (and_parts (eqb (row_of K x) (row_of K e)) (not (eqb x e)) t).1

  pub checks_are : ChecksAre F K word
  checks_are = record {
    same = λ e h. (λ z. sym (row_is e h) ∙ z, λ z. row_is e h ∙ z);
    some = λ r h.
        let w = counted (width K) (λ e. eqb (row_of K e) r) (omega (arith, (facts K R).row_low r h)) in
        (w.0, w.1, eqb-true (row_of K w.0) r w.2);
  }

pub checks_theorem : ChecksStand
checks_theorem F L K R orders word codes = checks_are F L K R orders word codes
