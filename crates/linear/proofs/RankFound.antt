-- The rank as a relation is the rank as a value. Assumes nothing.
use Rattle.std.proofs.Common.{◌≡◌, ℕ, zero, suc, ◌<◌, ◌≤◌, Bool, true, false, cond, not, ◌&&◌, eqb, List, map, get_or, sym, refl, ap, ◌∙◌, subst, ap₂, arith, eq-eqb, eqb-true}
use native.Mathlib.Decide.{ℕ_discrete}
use Rattle.std.specs.List.{range_with_len}
use Rattle.std.proofs.lemmas.List.FromFn.{length-map-range_with_len, get_or-map-range_with_len}
use Rattle.field.specs.Tables.{Tables}
use Rattle.field.specs.Every.{every_below, some_below}
use Rattle.field.proofs.Tested.{some_below_at, some_below_true, every_below_at, and_true}
use Rattle.linear.specs.Count.{count}
use Rattle.linear.specs.Rank.{Independent, Rank, selected, vanishes, stands_apart, largest, rank_of}
use Rattle.linear.specs.Rows.{rows_sum}
use Rattle.linear.specs.Search.{some_word}
use Rattle.linear.specs.Words.{Codes, Matrix}
use Rattle.linear.proofs.Tests.{no_both, eqb_not}
use Rattle.linear.proofs.Counts.{count_most, count_same}
use Rattle.linear.proofs.Search.{some_word_at, some_word_true, every_true}

largest_is : (p : ℕ → Bool) (n k : ℕ) → p k ≡ true → k ≤ n → ((j : ℕ) → p j ≡ true → j ≤ k) → largest p n ≡ k
unfolding largest
largest_is p zero k e h m = omega arith
largest_is p (suc n) k e h m = go (p (suc n)) refl (λ l. largest_is p n k e l m)
  where
    go : (b : Bool) → p (suc n) ≡ b → (k ≤ n → largest p n ≡ k) → cond b (suc n) (largest p n) ≡ k
    go true q ih = let x = m (suc n) q in omega arith
    go false q ih = ih (let d : ¬ (k ≡ suc n) = λ z. no_both e (ap p z ∙ q) in omega arith)

not-true : (b : Bool) → ¬ (b ≡ true) → not b ≡ true
not-true true n = absurd (n refl)
not-true false n = refl

module _ (t : Tables) (H : Matrix) (S : List ℕ) where
  inside : List ℕ → ℕ → Bool
  inside g r = cond (selected S r) true (eqb (get_or g r 0) 0)

  independent_yes : Independent t H (selected S) → stands_apart t H S ≡ true
  unfolding stands_apart inside
  independent_yes i = not-true (some_word t.order H.rows (vanishes t H S)) (λ e.
      let w = some_word_at t.order H.rows (vanishes t H S) e in
      let g = w.0 in
      let a = and_true (every_below (inside g) H.rows) (every_below (λ c. eqb (rows_sum t H g c) 0) H.columns && some_below (λ r. not (eqb (get_or g r 0) 0)) H.rows) w.2 in
      let b = and_true (every_below (λ c. eqb (rows_sum t H g c) 0) H.columns) (some_below (λ r. not (eqb (get_or g r 0) 0)) H.rows) a.1 in
      let k = some_below_at (λ r. not (eqb (get_or g r 0) 0)) H.rows b.1 in
      let z : get_or g k.0 0 ≡ 0 = i g (record {
        codes = w.1;
        within = λ r h o. out g r (selected S r) o (every_below_at (inside g) H.rows r a.0 h);
        zero_row = λ c h. eqb-true (rows_sum t H g c) 0 (every_below_at (λ c. eqb (rows_sum t H g c) 0) H.columns c b.0 h);
      }) k.0 k.1 in
      no_both k.2 (ap not (eq-eqb (get_or g k.0 0) 0 z)))
    where
      out : (g : List ℕ) (r : ℕ) (b : Bool) → b ≡ false → cond b true (eqb (get_or g r 0) 0) ≡ true → get_or g r 0 ≡ 0
      out g r true o e = absurd (no_both refl o)
      out g r false o e = eqb-true (get_or g r 0) 0 e

  independent_is : stands_apart t H S ≡ true → Independent t H (selected S)
  unfolding stands_apart inside
  independent_is e g v r h = go (ℕ_discrete (get_or g r 0) 0)
    where
      within : (x : ℕ) → x < H.rows → (b : Bool) → selected S x ≡ b → cond b true (eqb (get_or g x 0) 0) ≡ true
      within x q true o = refl
      within x q false o = eq-eqb (get_or g x 0) 0 (v.within x q o)

      go : Dec (get_or g r 0 ≡ 0) → get_or g r 0 ≡ 0
      go (yes z) = z
      go (no d) =
          let some : some_word t.order H.rows (vanishes t H S) ≡ true = some_word_true t.order H.rows (vanishes t H S) g v.codes
          (ap₂ ◌&&◌ (every_true (inside g) H.rows (λ x q. within x q (selected S x) refl))
          (ap₂ ◌&&◌ (every_true (λ c. eqb (rows_sum t H g c) 0) H.columns (λ c q. eq-eqb (rows_sum t H g c) 0 (v.zero_row c q)))
          (some_below_true (λ x. not (eqb (get_or g x 0) 0)) H.rows r h (ap not (eqb_not (get_or g r 0) 0 d))))) in
          absurd (no_both e (ap not some))

digit : Bool → ℕ
digit b = cond b 1 0

digit_is : (b : Bool) → eqb (digit b) 1 ≡ b
unfolding digit
digit_is true = refl
digit_is false = refl

pub rank_value : (t : Tables) (H : Matrix) (k : ℕ) → Rank t H k → rank_of t H ≡ k
unfolding digit
rank_value t H k R = largest_is test H.rows k
    (some_word_true 2 H.rows (choice k) S codes (ap₂ ◌&&◌ (eq-eqb (count H.rows (selected S)) k (count_same H.rows (selected S) R.chosen same ∙ R.many)) (independent_yes t H S (moved R.chosen (selected S) same R.independent))))
    (let c = count_most H.rows R.chosen in let m = R.many in omega arith)
    (λ j e. let w = some_word_at 2 H.rows (choice j) e in
    let a = and_true (eqb (count H.rows (selected w.0)) j) (stands_apart t H w.0) w.2 in
    let m = R.most (selected w.0) (independent_is t H w.0 a.1) in
    let q = eqb-true (count H.rows (selected w.0)) j a.0 in omega arith)
  where
    choice : ℕ → List ℕ → Bool
    choice k S = eqb (count H.rows (selected S)) k && stands_apart t H S

    test : ℕ → Bool
    test k = some_word 2 H.rows (choice k)

    S : List ℕ
    S = map (λ r. digit (R.chosen r)) (range_with_len 0 H.rows)

    at : (r : ℕ) → r < H.rows → get_or S r 0 ≡ digit (R.chosen r)
    at r h = get_or-map-range_with_len (λ r. digit (R.chosen r)) 0 H.rows r r 0 h (omega arith)

    small : (b : Bool) → digit b < 2
    small true = omega arith
    small false = omega arith

    codes : Codes 2 H.rows S
    codes = record { long = length-map-range_with_len (λ r. digit (R.chosen r)) 0 H.rows; below = λ i h. subst (λ (x : ℕ). x < 2) (sym (at i h)) (small (R.chosen i)) }

    same : (r : ℕ) → r < H.rows → selected S r ≡ R.chosen r
    same r h = ap (λ (x : ℕ). eqb x 1) (at r h) ∙ digit_is (R.chosen r)

    moved : (p q : ℕ → Bool) → ((r : ℕ) → r < H.rows → q r ≡ p r) → Independent t H p → Independent t H q
    moved p q e i g v = i g (record { codes = v.codes; within = λ r h o. v.within r h (e r h ∙ o); zero_row = v.zero_row })
