-- A search over all words finds one exactly if there is one. Assumes nothing.
use Rattle.std.proofs.Common.{◌≡◌, ℕ, zero, suc, ◌<◌, Bool, true, false, not, ◌&&◌, eqb, List, [], ◌∷◌, get_or, refl, ap, ap₂, le_of_suc-le-suc, not-suc-le-zero, arith, eq-eqb, eqb-true}
use native.Mathlib.Decide.{ℕ_discrete}
use Rattle.field.specs.Every.{every_below, some_below}
use Rattle.field.specs.Tables.{Tables}
use Rattle.field.proofs.Tested.{some_below_at, some_below_true, every_below_at, and_true}
use Rattle.linear.specs.Columns.{combined, higher_sum}
use Rattle.linear.specs.Laws.{ColumnTold, RowsTold}
use Rattle.linear.specs.Rows.{rows_sum, gives_zero, dependent, row_fails}
use Rattle.linear.proofs.Tests.{eqb_not, no_both}
use Rattle.linear.specs.Search.{some_word}
use Rattle.linear.specs.Words.{Codes, Matrix, row_sum}

pub every_true : (p : ℕ → Bool) (n : ℕ) → ((k : ℕ) → k < n → p k ≡ true) → every_below p n ≡ true
every_true p zero h = refl
every_true p (suc n) h = ap₂ ◌&&◌ (h n (omega arith)) (every_true p n (λ k l. h k (omega arith)))

pub some_word_at : (q n : ℕ) (p : List ℕ → Bool) → some_word q n p ≡ true → (w : List ℕ) × Codes q n w × (p w ≡ true)
some_word_at q zero p e = ([], record { long = refl; below = λ i l. absurd (not-suc-le-zero l) }, e)
some_word_at q (suc n) p e =
    let a = some_below_at (λ a. some_word q n (λ w. p (a ∷ w))) q e in
    let r = some_word_at q n (λ w. p (a.0 ∷ w)) a.2 in
    (a.0 ∷ r.0, record { long = ap suc r.1.long; below = at a.0 r.0 a.1 r.1.below }, r.2)
  where
    at : (a : ℕ) (w : List ℕ) → a < q → ((i : ℕ) → i < n → get_or w i 0 < q) → (i : ℕ) → i < suc n → get_or (a ∷ w) i 0 < q
    at a w h b zero l = h
    at a w h b (suc i) l = b i (le_of_suc-le-suc l)

pub some_word_true : (q n : ℕ) (p : List ℕ → Bool) (w : List ℕ) → Codes q n w → p w ≡ true → some_word q n p ≡ true
some_word_true q zero p [] c e = e
some_word_true q zero p (x ∷ w) c e = absurd (let h = c.long in let z : ⊥ = omega arith in z)
some_word_true q (suc n) p [] c e = absurd (let h = c.long in let z : ⊥ = omega arith in z)
some_word_true q (suc n) p (x ∷ w) c e =
    some_below_true (λ a. some_word q n (λ w. p (a ∷ w))) q x (c.below 0 (omega arith))
    (some_word_true q n (λ w. p (x ∷ w)) w (record { long = (let h = c.long in omega arith); below = λ i l. c.below (suc i) (omega arith) }) e)

pub columns_told : (t : Tables) (H : Matrix) (c : ℕ) → ColumnTold t H c
unfolding combined
columns_told t H c = record {
  combination = λ e. let r = some_word_at t.order H.columns test e in
      (r.0, record { codes = r.1; equal = λ x l. eqb-true (H.entry x c) (higher_sum t H r.0 c x) (every_below_at (λ r'. eqb (H.entry r' c) (higher_sum t H r.0 c r')) H.rows x r.2 l) });
  none = λ e f k. let z : some_word t.order H.columns test ≡ true = some_word_true t.order H.columns test f k.codes
      (every_true (λ r. eqb (H.entry r c) (higher_sum t H f c r)) H.rows (λ r l. eq-eqb (H.entry r c) (higher_sum t H f c r) (k.equal r l))) in
      let y : ◌≡◌ {A = ℕ} 0 1 = cc in omega arith;
}
  where
    test : List ℕ → Bool
    test f = every_below (λ r. eqb (H.entry r c) (higher_sum t H f c r)) H.rows

pub rows_told : (t : Tables) (H : Matrix) → RowsTold t H
unfolding dependent
rows_told t H = record {
  some = λ e.
      let w = some_word_at t.order H.rows (gives_zero t H) e in
      let a = and_true (some_below (nonzero w.0) H.rows) (every_below (zero_at w.0) H.columns) w.2 in
      let k = some_below_at (nonzero w.0) H.rows a.0 in
      record {
        factors = w.0;
        codes = w.1;
        row = k.0;
        row_below = k.1;
        not_zero = λ z. no_both k.2 (ap not (eq-eqb (get_or w.0 k.0 0) 0 z));
        zero_row = λ c l. eqb-true (rows_sum t H w.0 c) 0 (every_below_at (zero_at w.0) H.columns c a.1 l);
      };
  none = λ e d. no_both (some_word_true t.order H.rows (gives_zero t H) d.factors d.codes
      (ap₂ ◌&&◌ (some_below_true (nonzero d.factors) H.rows d.row d.row_below (ap not (eqb_not (get_or d.factors d.row 0) 0 d.not_zero)))
      (every_true (zero_at d.factors) H.columns (λ c l. eq-eqb (rows_sum t H d.factors c) 0 (d.zero_row c l))))) e;
}
  where
    nonzero : List ℕ → ℕ → Bool
    nonzero g r = not (eqb (get_or g r 0) 0)

    zero_at : List ℕ → ℕ → Bool
    zero_at g c = eqb (rows_sum t H g c) 0

module _ (t : Tables) (H : Matrix) (w : List ℕ) where
  failing : ℕ → Bool
  failing r = not (eqb (row_sum t H w r) 0)

  pub fails_yes : (r : ℕ) → r < H.rows → ¬ (row_sum t H w r ≡ 0) → row_fails t H w ≡ true
  unfolding failing
  fails_yes r h d = some_below_true failing H.rows r h (ap not (eqb_not (row_sum t H w r) 0 d))

  pub fails_at : row_fails t H w ≡ true → (r : ℕ) × (r < H.rows) × (row_sum t H w r ≡ 0 → ⊥)
  unfolding failing
  fails_at e = let k = some_below_at failing H.rows e in (k.0, k.1, λ z. no_both k.2 (ap not (eq-eqb (row_sum t H w k.0) 0 z)))

  pub holds_all : row_fails t H w ≡ false → (r : ℕ) → r < H.rows → row_sum t H w r ≡ 0
  holds_all e r h = go (ℕ_discrete (row_sum t H w r) 0)
    where
      go : Dec (row_sum t H w r ≡ 0) → row_sum t H w r ≡ 0
      go (yes z) = z
      go (no d) = absurd (no_both (fails_yes r h d) e)
