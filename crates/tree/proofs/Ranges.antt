-- What the words of an area are after a call, and that the decoder reads its tables within their range alone. Assumes nothing.
use Rattle.std.proofs.Common.{◌≡◌, ℕ, zero, suc, pred, ◌+◌, ◌-◌, ◌*◌, ◌/◌, ◌%◌, ◌<◌, ◌≤◌, min, max, Bool, true, false, ltb, leb, List, get_or, take, sym, refl, ap, ◌∙◌, ap₂, arith, ltb→lt, lt→ltb, leb→le, get_or-take}
use lib.Arith.{digits_lt, digits_div, digits_mod}
use Rattle.std.proofs.lemmas.List.FromFn.{get_or-map-range_with_len}
use Rattle.tree.specs.Over.{least_to, lowest_to}
use Rattle.field.specs.Tables.{Tables}
use Rattle.code.specs.Views.{View}
use Rattle.tree.proofs.Facts.{Facts}
use Rattle.tree.specs.Places.{Place, at_column, at_edge, place_column, width, coefficient_of, arms, others}
use Rattle.tree.specs.Tree.{lower}
use Rattle.tree.specs.Decoder.{best, from_check_cost, column_sum, less_least, round_to, round_distance}
use Rattle.tree.specs.Frame.{Parts, parts_of, block, laid, held_words}
use Rattle.tree.proofs.Folds.{over_same, cond_related, TIs, is_T}
use Rattle.tree.proofs.Words.{lowest_low}

pub ltb_yes : (m n : ℕ) → m < n → ltb m n ≡ true
ltb_yes m n h = TIs (ltb m n) (lt→ltb m n h)

pub ltb_is : (m n : ℕ) → ltb m n ≡ true → m < n
ltb_is m n e = ltb→lt m n (is_T (ltb m n) e)

pub ltb_no : (m n : ℕ) → n ≤ m → ltb m n ≡ false
ltb_no m n h = go (ltb m n) refl
  where
    go : (b : Bool) → ltb m n ≡ b → b ≡ false
    go true e = absurd (let k : m < n = ltb_is m n e in let z : ⊥ = omega arith in z)
    go false e = refl

pub leb_is : (m n : ℕ) → leb m n ≡ true → m ≤ n
leb_is m n e = leb→le m n (is_T (leb m n) e)

-- ---- what stands in the words
module _ (K : View) (P : Parts) (after : List ℕ) (held : take (held_words K) after ≡ laid K P) where
  at_block : (j a : ℕ) → j < 2 * K.header.columns + 2 * width K → a < K.header.order → get_or after (j * K.header.order + a) 0 ≡ block K P j a
  unfolding laid
  at_block j a h l =
      let i : ℕ = j * K.header.order + a in
      let w : i < held_words K = digits_lt h l in
      sym (get_or-take (held_words K) after i 0 w) ∙ ap (λ xs. get_or xs i 0) held
      ∙ get_or-map-range_with_len (λ i. block K P (i / K.header.order) (i % K.header.order)) 0 (held_words K) i i 0 w (omega arith)
      ∙ ap₂ (block K P) (digits_div j l) (digits_mod j l)

  pub after_channel : (c a : ℕ) → c < K.header.columns → a < K.header.order → (parts_of K after).channel c a ≡ P.channel c a
  unfolding parts_of block
  after_channel c a h l = at_block c a (omega arith) l ∙ (rw (ltb_yes c K.header.columns h))

  pub after_distances : (c a : ℕ) → c < K.header.columns → a < K.header.order → (parts_of K after).distances c a ≡ P.distances c a
  unfolding parts_of block
  after_distances c a h l =
      let e : K.header.columns + c - K.header.columns ≡ c = omega arith in
      at_block (K.header.columns + c) a (omega arith) l ∙
      (rw (ltb_no (K.header.columns + c) K.header.columns (omega arith), ltb_yes (K.header.columns + c) (2 * K.header.columns) (omega arith), e))

  pub after_to : (e a : ℕ) → e < width K → a < K.header.order → (parts_of K after).to_check e a ≡ P.to_check e a
  unfolding parts_of block
  after_to x a h l =
      let j : ℕ = 2 * K.header.columns + x in
      let e : 2 * K.header.columns + x - 2 * K.header.columns ≡ x = omega arith in
      at_block (2 * K.header.columns + x) a (omega arith) l ∙
      (rw (ltb_no (2 * K.header.columns + x) K.header.columns (omega arith), ltb_no (2 * K.header.columns + x) (2 * K.header.columns) (omega arith), ltb_yes (2 * K.header.columns + x) (2 * K.header.columns + width K) (omega arith), e))

  pub after_from : (e a : ℕ) → e < width K → a < K.header.order → (parts_of K after).from_check e a ≡ P.from_check e a
  unfolding parts_of block
  after_from x a h l =
      let e : 2 * K.header.columns + width K + x - (2 * K.header.columns + width K) ≡ x = omega arith in
      at_block (2 * K.header.columns + width K + x) a (omega arith) l ∙
      (rw (ltb_no (2 * K.header.columns + width K + x) K.header.columns (omega arith), ltb_no (2 * K.header.columns + width K + x) (2 * K.header.columns) (omega arith), ltb_no (2 * K.header.columns + width K + x) (2 * K.header.columns + width K) (omega arith), e))

-- ---- tables that agree within their range
pub least_same : (n : ℕ) (f g : ℕ → ℕ) → ((b : ℕ) → b ≤ n → f b ≡ g b) → least_to n f ≡ least_to n g
unfolding least_to
least_same zero f g h = h 0 (omega arith)
least_same (suc n) f g h = ap₂ min (least_same n f g (λ b l. h b (omega arith))) (h (suc n) (omega arith))

pub lowest_same : (n : ℕ) (f g : ℕ → ℕ) → ((b : ℕ) → b ≤ n → f b ≡ g b) → lowest_to n f ≡ lowest_to n g
unfolding lowest_to
lowest_same zero f g h = refl
lowest_same (suc n) f g h =
    let ih : lowest_to n f ≡ lowest_to n g = lowest_same n f g (λ b l. h b (omega arith)) in
    let here : f (suc n) ≡ g (suc n) = h (suc n) (omega arith) in
    let there : f (lowest_to n f) ≡ g (lowest_to n g) = h (lowest_to n f) (omega (arith, lowest_low n f)) ∙ ap g ih in
    cc

module _ (F : Tables) (K : View) (A : Facts K) where
  best_same : (costs stsoc : ℕ → ℕ → ℕ) (n : ℕ) → ((x b : ℕ) → x < n → b < K.header.order → costs x b ≡ stsoc x b) →
      (test : ℕ → Bool) (sofar : ℕ) → best F K costs n test sofar ≡ best F K stsoc n test sofar
  unfolding best
  best_same costs stsoc zero h test sofar = refl
  best_same costs stsoc (suc n) h test sofar =
      let ih = best_same costs stsoc n (λ x b l. h x b (omega arith)) test in
      cond_related ◌≡◌ (test n)
      (least_to (pred K.header.order) (λ b. max (costs n b) (best F K costs n test (F.sum sofar (F.product (coefficient_of K n) b)))))
      (best F K costs n test sofar)
      (least_to (pred K.header.order) (λ b. max (stsoc n b) (best F K stsoc n test (F.sum sofar (F.product (coefficient_of K n) b)))))
      (best F K stsoc n test sofar)
      (λ e. least_same (pred K.header.order) (λ b. max (costs n b) (best F K costs n test (F.sum sofar (F.product (coefficient_of K n) b)))) (λ b. max (stsoc n b) (best F K stsoc n test (F.sum sofar (F.product (coefficient_of K n) b))))
      (λ b l. ap₂ max (h n b (omega arith) (omega (arith, A.order_low))) (ih (F.sum sofar (F.product (coefficient_of K n) b)))))
      (ih sofar)

  module _ (channel lennahc costs stsoc : ℕ → ℕ → ℕ)
      (same : (c a : ℕ) → c < K.header.columns → a < K.header.order → channel c a ≡ lennahc c a)
      (equal : (x b : ℕ) → x < width K → b < K.header.order → costs x b ≡ stsoc x b) where
    pub from_same : (e a : ℕ) → from_check_cost F K costs e a ≡ from_check_cost F K stsoc e a
    unfolding from_check_cost
    from_same e a = best_same costs stsoc (width K) equal (others K e) (F.product (coefficient_of K e) a)

    sum_same : (p : Place) (a : ℕ) → place_column K p < K.header.columns → a < K.header.order → column_sum K channel (from_check_cost F K costs) p a ≡ column_sum K lennahc (from_check_cost F K stsoc) p a
    unfolding column_sum
    sum_same p a h l = ap₂ ◌+◌ (same (place_column K p) a h l)
        (over_same ◌+◌ 0 (width K) (arms K p) (λ e. from_check_cost F K costs e a) (λ e. from_check_cost F K stsoc e a) (λ e w t. from_same e a))

    less_same : (p : Place) (a : ℕ) → place_column K p < K.header.columns → a < K.header.order →
        less_least K (column_sum K channel (from_check_cost F K costs) p) a ≡ less_least K (column_sum K lennahc (from_check_cost F K stsoc) p) a
    unfolding less_least
    less_same p a h l = ap₂ ◌-◌ (sum_same p a h l)
        (least_same (pred K.header.order) (column_sum K channel (from_check_cost F K costs) p) (column_sum K lennahc (from_check_cost F K stsoc) p) (λ b k. sum_same p b h (omega (arith, A.order_low))))

    pub distance_same : (c a : ℕ) → c < K.header.columns → a < K.header.order → round_distance F K channel costs c a ≡ round_distance F K lennahc stsoc c a
    unfolding round_distance
    distance_same c a h l = less_same (at_column c) a h l

    pub to_same : (e a : ℕ) → e < width K → a < K.header.order → round_to F K channel costs e a ≡ round_to F K lennahc stsoc e a
    unfolding round_to
    to_same e a h l = ap (lower K (at_edge e)) (less_same (at_edge e) a (A.column_below e h) l)
