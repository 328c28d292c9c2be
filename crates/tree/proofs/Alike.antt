-- Areas that begin with the same words: the calls of a decode answer alike on them. Assumes nothing.
use Rattle.std.proofs.Common.{◌≡◌, ℕ, zero, suc, pred, ◌+◌, ◌<◌, ◌≤◌, Bool, true, false, not, ◌&&◌, eqb, ltb, leb, List, length, take, sym, refl, ap, ◌∙◌, ap₂, arith}
use Rattle.std.proofs.lemmas.Bool.{leb-true}
use Rattle.field.specs.Tables.{Tables}
use Rattle.code.specs.Views.{View}
use Rattle.tree.specs.Over.{every}
use Rattle.tree.specs.Places.{Admitted, width, row_of, column_of, coefficient_of}
use Rattle.tree.specs.Rows.{PairsRule, round_pairs}
use Rattle.tree.specs.Frame.{numbers_of, same_numbers, Slip, no_slip, loading, running, held_words, area_words, Parts, parts_of, laid, within, decided, row_sum, failing, word_of, rounds, concludes, next_parts, Reply, round_told, word_told, Outcome, granted, want, want_area, outcome}
use Rattle.tree.specs.Areas.{Holds}
use Rattle.tree.specs.Decoding.{Alike}
use Rattle.tree.proofs.Facts.{facts}
use Rattle.tree.proofs.Folds.{over_same, over_tests}
use Rattle.tree.proofs.Ranges.{lowest_same, distance_same, to_same, from_same}
use Rattle.tree.proofs.Rows.{tabled_same}
use Rattle.tree.proofs.Areas.{holds_is}
use Rattle.tree.proofs.Follow.{held_is}

-- ---- parts with the same distances
pub same_decided : (K : View) (P Q : Parts) → 2 ≤ K.header.order → ((c a : ℕ) → c < K.header.columns → a < K.header.order → P.distances c a ≡ Q.distances c a) → (c : ℕ) → c < K.header.columns → decided K P c ≡ decided K Q c
unfolding decided
same_decided K P Q two h c l = lowest_same (pred K.header.order) (P.distances c) (Q.distances c) (λ a k. h c a l (omega arith))

-- they fail the same rows, and decide the same word
pub failing_same : (F : Tables) (K : View) → Admitted K → (P Q : Parts) → ((c a : ℕ) → c < K.header.columns → a < K.header.order → P.distances c a ≡ Q.distances c a) →
    failing F K (decided K P) ≡ failing F K (decided K Q)
unfolding failing row_sum
failing_same F K R P Q same =
    let A = facts K R in
    over_tests ◌+◌ 0 K.header.rows _ _ (λ x. 1) (λ r h. ap (λ s. not (eqb s 0))
    (over_same F.sum 0 (width K) (λ e. eqb (row_of K e) r) _ _ (λ e l t. ap (F.product (coefficient_of K e))
    (same_decided K P Q A.order_low same (column_of K e) (A.column_below e l)))))

pub word_same : (K : View) → Admitted K → (P Q : Parts) → ((c a : ℕ) → c < K.header.columns → a < K.header.order → P.distances c a ≡ Q.distances c a) → word_of K P ≡ word_of K Q
unfolding word_of
word_same K R P Q same = tabled_same K.header.columns (decided K P) (decided K Q) (same_decided K P Q (facts K R).order_low same)

-- ---- costs within the ceiling
every_same : (n : ℕ) (f g : ℕ → Bool) → ((x : ℕ) → x < n → f x ≡ g x) → every n f ≡ every n g
unfolding every
every_same zero f g h = refl
every_same (suc n) f g h = ap₂ ◌&&◌ (h n (omega arith)) (every_same n f g (λ x l. h x (omega arith)))

within_same : (K : View) (n : ℕ) (f g : ℕ → ℕ → ℕ) → ((c a : ℕ) → c < n → a < K.header.order → f c a ≡ g c a) → within K n f ≡ within K n g
unfolding within
within_same K n f g h = every_same n _ _ (λ c l. every_same K.header.order _ _ (λ a m. ap (λ v. leb v K.header.ceiling) (h c a l m)))

module _ (K : View) (R : Admitted K) (a b : List ℕ) (same : Alike K a b) where
  one : 1 ≤ K.header.order
  one = omega (arith, (facts K R).order_low)

  held_room : area_words K ≤ length b → held_words K ≤ length b
  held_room room = omega arith

  -- the one holds the parts of the other
  pub alike_holds : area_words K ≤ length b → Holds K a (parts_of K b)
  alike_holds room =
      holds_is K a (parts_of K b) (same.held ∙ held_is K b (parts_of K b) one (held_room room)
      (record { channel = λ c x l m. refl; distances = λ c x l m. refl; to_check = λ e x l m. refl; from_check = λ e x l m. refl }))

  pub alike_fails : (F : Tables) → area_words K ≤ length b → failing F K (decided K (parts_of K a)) ≡ failing F K (decided K (parts_of K b))
  alike_fails F room = failing_same F K R (parts_of K a) (parts_of K b) (alike_holds room).distances

  pub alike_low : area_words K ≤ length b →
      (within K K.header.columns (parts_of K a).channel && within K (width K) (parts_of K a).to_check)
      ≡ (within K K.header.columns (parts_of K b).channel && within K (width K) (parts_of K b).to_check)
  alike_low room = ap₂ ◌&&◌ (within_same K K.header.columns _ _ (alike_holds room).channel) (within_same K (width K) _ _ (alike_holds room).to_check)

  -- a test of the area's length, and what follows it
  by_room : {X : Type 0} (Z : Outcome → X) (o p : Outcome) → (area_words K ≤ length b → Z o ≡ Z p) → Z (want_area K a o) ≡ Z (want_area K b p)
  by_room Z o p h = ap (λ n. Z (want (leb (area_words K) n) 20 o)) same.as_long ∙ go (leb (area_words K) (length b)) refl
    where
      go : (t : Bool) → leb (area_words K) (length b) ≡ t → Z (want (leb (area_words K) (length b)) 20 o) ≡ Z (want (leb (area_words K) (length b)) 20 p)
      go true e = ap (λ t. Z (want t 20 o)) e ∙ h (leb-true (area_words K) (length b) e) ∙ sym (ap (λ t. Z (want t 20 p)) e)
      go false e = ap (λ t. Z (want t 20 o)) e ∙ sym (ap (λ t. Z (want t 20 p)) e)

  by_test : {X : Type 0} (Z : Outcome → X) (t : Bool) (n : ℕ) (o p : Outcome) → Z o ≡ Z p → Z (want t n o) ≡ Z (want t n p)
  by_test Z true n o p h = h
  by_test Z false n o p h = refl

  -- conclude answers alike
  pub alike_conclude : (F : Tables) (size : ℕ) (s : Slip) → outcome F K (concludes size) a s ≡ outcome F K (concludes size) b s
  unfolding outcome
  alike_conclude F size no_slip = refl
  alike_conclude F size (loading n) = refl
  alike_conclude F size (running n r) =
      by_test (λ o. o) (eqb F.order K.header.order) 18 _ _ (by_test (λ o. o) (same_numbers n (numbers_of K)) 19 _ _
      (by_room (λ o. o) _ _ (λ room. by_test (λ o. o) (eqb size K.header.columns) 7 _ _
      (ap₂ (λ x w. want (eqb x 0) 24 (granted (word_told w r))) (alike_fails F room) (word_same K R (parts_of K a) (parts_of K b) (alike_holds room).distances)))))

  -- whatever does not look at what a granted round tells is the same of a round
  pub alike_round : {X : Type 0} (Z : Outcome → X) → ((x y : Reply) → Z (granted x) ≡ Z (granted y)) → (F : Tables) (pairs : PairsRule) (s : Slip) →
      Z (outcome F K (rounds pairs) a s) ≡ Z (outcome F K (rounds pairs) b s)
  unfolding outcome
  alike_round Z deaf F pairs no_slip = refl
  alike_round Z deaf F pairs (loading n) = refl
  alike_round Z deaf F pairs (running n r) =
      by_test Z (eqb F.order K.header.order) 18 _ _ (by_test Z (same_numbers n (numbers_of K)) 19 _ _
      (by_room Z _ _ (λ room.
      ap (λ t. Z (want t 22 (want (ltb r K.header.limit) 23 (granted (told a))))) (alike_low room)
      ∙ by_test Z (within K K.header.columns (parts_of K b).channel && within K (width K) (parts_of K b).to_check) 22 _ _
      (by_test Z (ltb r K.header.limit) 23 (granted (told a)) (granted (told b)) (deaf (told a) (told b))))))
    where
      told : List ℕ → Reply
      told area = round_told (suc r) (failing F K (decided K (next_parts F K (rounds pairs) (parts_of K area)))) (round_pairs pairs F K (parts_of K area).to_check)

  -- what a round lays down is the same
  pub alike_laid : (F : Tables) (pairs : PairsRule) (after : List ℕ) → area_words K ≤ length b → length after ≡ length a →
      take (held_words K) after ≡ laid K (next_parts F K (rounds pairs) (parts_of K a)) → take (held_words K) after ≡ laid K (next_parts F K (rounds pairs) (parts_of K b))
  unfolding next_parts
  alike_laid F pairs after room long held =
      let A = facts K R in
      let P = parts_of K a in let Q = parts_of K b in
      let H = alike_holds room in
      let G = holds_is K after (next_parts F K (rounds pairs) P) held in
      held_is K after (next_parts F K (rounds pairs) Q) one (omega (arith, same.as_long))
      (record {
        channel = λ c x l m. G.channel c x l m ∙ H.channel c x l m;
        distances = λ c x l m. G.distances c x l m ∙ distance_same F K A P.channel Q.channel P.to_check Q.to_check H.channel H.to_check c x l m;
        to_check = λ e x l m. G.to_check e x l m ∙ to_same F K A P.channel Q.channel P.to_check Q.to_check H.channel H.to_check e x l m;
        from_check = λ e x l m. G.from_check e x l m ∙ from_same F K A P.channel Q.channel P.to_check Q.to_check H.channel H.to_check e x;
      })
