-- No cost of a round passes nine ceilings. Assumes nothing.
use Rattle.std.proofs.Common.{◌≡◌, ℕ, zero, suc, ◌+◌, ◌*◌, ◌<◌, ◌≤◌, Bool, true, false, cond, eqb, refl, arith}
use Rattle.std.proofs.lemmas.Bool.{eq-eqb}
use Rattle.field.specs.Tables.{Tables}
use Rattle.code.specs.Views.{View}
use Rattle.tree.specs.Over.{over, total, count}
use Rattle.tree.specs.Places.{width, column_of, at_column, at_edge, arms, others}
use Rattle.tree.specs.Tree.{lower}
use Rattle.tree.specs.Decoder.{from_check_cost, column_sum, less_least, round_to, round_distance}
use Rattle.tree.specs.Statement.{Loaded, Within}
use Rattle.tree.proofs.Laws.{Laws}
use Rattle.tree.proofs.Facts.{Facts}
use Rattle.tree.proofs.Folds.{greatest_within}
use Rattle.tree.proofs.Best.{from_hit}
use Rattle.tree.proofs.Words.{except}

-- each part of a total is at most 1023
pub total_low : (n : ℕ) (test : ℕ → Bool) (f : ℕ → ℕ) → ((x : ℕ) → x < n → test x ≡ true → f x ≤ 1023) → total n test f ≤ 1023 * count n test
unfolding over
total_low zero test f h = omega arith
total_low (suc n) test f h = go (total_low n test f (λ x l. h x (omega arith))) (test n) refl
  where
    go : total n test f ≤ 1023 * count n test → (b : Bool) → test n ≡ b → cond b (f n + total n test f) (total n test f) ≤ 1023 * cond b (1 + count n test) (count n test)
    go ih true e = let z = h n (omega arith) e in omega arith
    go ih false e = ih

module _ (F : Tables) (K : View) (L : Laws F K.header.order) (A : Facts K) (costs : ℕ → ℕ → ℕ) (low : Within K costs) where
  pub from_low : (e a : ℕ) → e < width K → a < K.header.order → from_check_cost F K costs e a ≤ K.header.ceiling
  from_low e a h l =
      let H = from_hit F K L A costs low e a h l in
      let g = greatest_within (width K) (others K e) (λ x. costs x (H.at x)) K.header.ceiling (λ x k t. low x (H.at x) k (H.codes x k t)) in
      omega (arith, H.is)

  module _ (channel : ℕ → ℕ → ℕ) (loaded : Loaded K channel) where
    pub column_low : (c a : ℕ) → c < K.header.columns → a < K.header.order → column_sum K channel (from_check_cost F K costs) (at_column c) a ≤ 9207
    unfolding column_sum arms
    column_low c a h l =
        omega (
          arith,
          loaded c a h l,
          A.ceiling_high,
          A.column_high c h,
          total_low (width K) (λ x. eqb (column_of K x) c) (λ e. from_check_cost F K costs e a) (λ x k t. omega (arith, from_low x a k l, A.ceiling_high)),
        )

    -- an edge's sum is its column's without its own from-check cost
    pub edge_sum : (e a : ℕ) → e < width K → column_sum K channel (from_check_cost F K costs) (at_column (column_of K e)) a ≡ from_check_cost F K costs e a + column_sum K channel (from_check_cost F K costs) (at_edge e) a
    unfolding column_sum arms
    edge_sum e a h =
        let x = except (width K) (λ y. eqb (column_of K y) (column_of K e)) (λ y. from_check_cost F K costs y a) e h (eq-eqb (column_of K e) (column_of K e) refl) in
        omega arith

    pub distance_low : (c a : ℕ) → c < K.header.columns → a < K.header.order → round_distance F K channel costs c a ≤ 9207
    unfolding round_distance less_least
    distance_low c a h l = omega (arith, column_low c a h l)

    pub to_low : (e a : ℕ) → round_to F K channel costs e a ≤ K.header.ceiling
    unfolding round_to lower
    to_low e a = omega arith
