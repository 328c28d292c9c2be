-- No run is stuck. Assumes nothing.
use Rattle.std.proofs.Common.{◌≡◌, ℕ, zero, suc, pred, ◌+◌, ◌<◌, Bool, true, not, ◌&&◌, eqb, ltb, leb, List, length, sym, refl, ap, ◌∙◌, subst, arith}
use Rattle.std.proofs.lemmas.Bool.{and_from, le-leb, eq-eqb, lt-ltb, ltb-true}
use Rattle.field.specs.Tables.{Tables}
use Rattle.code.specs.Views.{View}
use Rattle.tree.specs.Over.{lowest_to}
use Rattle.tree.specs.Places.{width, row_of, column_of, coefficient_of}
use Rattle.tree.specs.Tree.{lower}
use Rattle.tree.specs.Decoder.{round_to, round_distance, to_check_cost, distance}
use Rattle.tree.specs.Statement.{Loaded, Within}
use Rattle.tree.specs.Rows.{PairsRule, round_pairs}
use Rattle.tree.specs.Frame.{Numbers, numbers_of, same_numbers, loading, running, Parts, parts_of, area_words, rounds, Reply, done, slip_given, round_told, Outcome, granted, grants, want, want_numbers, want_area, want_column, want_length, outcome, within, decided, row_sum, failing, next_parts}
use Rattle.tree.specs.Run.{History, Decided, LoadsOn, RoundsOn, GoesOn}
use Rattle.tree.proofs.Facts.{Facts, facts}
use Rattle.tree.proofs.Folds.{over_same, over_tests}
use Rattle.tree.proofs.Ranges.{lowest_same, distance_same}
use Rattle.tree.proofs.Outcomes.{want_is, want_grants, grants_want, numbers_same, within_made}
use Rattle.tree.proofs.Runs.{Ready, Going, Inv, invariant, decided_is, decided_once}

-- no to-check cost passes the ceiling
to_within : (F : Tables) (K : View) → Facts K → (channel : ℕ → ℕ → ℕ) → Loaded K channel → (k : ℕ) → Within K (to_check_cost F K channel k)
unfolding to_check_cost round_to lower
to_within F K A channel low zero e a h l = low (column_of K e) a (A.column_below e h) l
to_within F K A channel low (suc k) e a h l = omega arith

module _ (h : History) (area : List ℕ) (n : Numbers) (R : Ready h area n) where
  abbrev K : View
  K = h.code

  abbrev F : Tables
  F = h.field

  abbrev P : Parts
  P = parts_of h.code area

  t_order : eqb F.order K.header.order ≡ true
  t_order = eq-eqb F.order K.header.order R.orders

  t_numbers : same_numbers n (numbers_of K) ≡ true
  t_numbers = subst (λ x. same_numbers n x ≡ true) R.numbers (numbers_same n)

  t_area : leb (area_words K) (length area) ≡ true
  t_area = le-leb (area_words K) (length area) R.room

  t_channel : within K K.header.columns P.channel ≡ true
  t_channel = within_made K K.header.columns P.channel (λ c a l m. omega (arith, R.channel c a l m, R.low c a))

  load_on : LoadsOn (record { area = area; slip = loading n }) h
  unfolding outcome
  load_on = record {
    load = λ c values l e.
        want_grants (same_numbers n (numbers_of K)) 19 (want_area K area (want_column K c (want_length (length values) K.header.order (granted done)))) t_numbers
        (want_grants (leb (area_words K) (length area)) 20 (want_column K c (want_length (length values) K.header.order (granted done))) t_area
        (want_grants (ltb c K.header.columns) 21 (want_length (length values) K.header.order (granted done)) (lt-ltb c K.header.columns l)
        (want_grants (eqb (length values) K.header.order) 7 (granted done) (eq-eqb (length values) K.header.order e) refl)));
    start =
        let last : Outcome = granted (slip_given (running (numbers_of K) 0)) in
        want_grants (same_numbers n (numbers_of K)) 19 (want_area K area (want (within K K.header.columns P.channel) 22 last)) t_numbers
        (want_grants (leb (area_words K) (length area)) 20 (want (within K K.header.columns P.channel) 22 last) t_area
        (want_grants (within K K.header.columns P.channel) 22 last t_channel refl));
  }

  module _ (r : ℕ) (G : Going h area r) where
    loaded : Loaded K h.stored
    loaded c a l m = R.low c a

    A : Facts K
    A = facts K R.admitted

    t_to : within K (width K) P.to_check ≡ true
    t_to = within_made K (width K) P.to_check (λ e a l m. omega (arith, G.to_check e a l m, to_within F K A h.stored loaded r e a l m))

    -- the decided symbols after the round
    next_symbol : (pairs : PairsRule) (c : ℕ) → c < K.header.columns → Decided F K h.stored (suc h.rounds_made) c (decided K (next_parts F K (rounds pairs) P) c)
    unfolding decided next_parts distance
    next_symbol pairs c l =
        let same : lowest_to (pred K.header.order) (round_distance F K P.channel P.to_check c) ≡ lowest_to (pred K.header.order) (distance F K h.stored (suc r) c) =
        lowest_same (pred K.header.order) (round_distance F K P.channel P.to_check c) (distance F K h.stored (suc r) c)
        (λ b k. distance_same F K A P.channel h.stored P.to_check (to_check_cost F K h.stored r) R.channel G.to_check c b l (omega (arith, A.order_low))) in
        subst (λ k. Decided F K h.stored (suc k) c (lowest_to (pred K.header.order) (round_distance F K P.channel P.to_check c))) G.made
        (subst (λ x. Decided F K h.stored (suc r) c x) (sym same) (decided_is F R.lawful K R.admitted R.orders h.stored loaded (suc r) c l))

    abbrev tells : PairsRule → Outcome
    tells pairs = granted (round_told (suc r) (failing F K (decided K (next_parts F K (rounds pairs) P))) (round_pairs pairs F K P.to_check))

    abbrev lows : Bool
    lows = within K K.header.columns P.channel && within K (width K) P.to_check

    round_told_is : (pairs : PairsRule) (m fails p : ℕ) → outcome F K (rounds pairs) area (running n r) ≡ granted (round_told m fails p) →
        (suc r ≡ m) × (failing F K (decided K (next_parts F K (rounds pairs) P)) ≡ fails)
    unfolding outcome
    round_told_is pairs m fails p g =
        let x : Reply = round_told m fails p in
        let v1 = want_is (eqb F.order K.header.order) 18 (want_numbers K n (want_area K area (want lows 22 (want (ltb r K.header.limit) 23 (tells pairs))))) x g in
        let v2 = want_is (same_numbers n (numbers_of K)) 19 (want_area K area (want lows 22 (want (ltb r K.header.limit) 23 (tells pairs)))) x v1.1 in
        let v3 = want_is (leb (area_words K) (length area)) 20 (want lows 22 (want (ltb r K.header.limit) 23 (tells pairs))) x v2.1 in
        let v4 = want_is lows 22 (want (ltb r K.header.limit) 23 (tells pairs)) x v3.1 in
        let v5 = want_is (ltb r K.header.limit) 23 (tells pairs) x v4.1 in
        let e : granted (round_told (suc r) (failing F K (decided K (next_parts F K (rounds pairs) P))) (round_pairs pairs F K P.to_check)) ≡ granted (round_told m fails p) = v5.1 in
        let a : suc r ≡ m = cc in
        let b : failing F K (decided K (next_parts F K (rounds pairs) P)) ≡ fails = cc in
        (a, b)

    fails_same : (w s : ℕ → ℕ) → ((c : ℕ) → c < K.header.columns → w c ≡ s c) → failing F K w ≡ failing F K s
    unfolding failing row_sum
    fails_same w s e = over_tests ◌+◌ 0 K.header.rows _ _ (λ x. 1) (λ x l. ap (λ y. test y)
        (over_same F.sum 0 (width K) (λ y. eqb (row_of K y) x) (λ y. F.product (coefficient_of K y) (w (column_of K y))) (λ y. F.product (coefficient_of K y) (s (column_of K y)))
        (λ y h t. ap (F.product (coefficient_of K y)) (e (column_of K y) (A.column_below y h)))))
      where
        test : ℕ → Bool
        test y = not (eqb y 0)

    round_on_is : RoundsOn (record { area = area; slip = running n r }) h
    unfolding outcome
    round_on_is = record {
      grant = λ pairs. (there pairs, back pairs);
      made = λ pairs m fails p g. sym (round_told_is pairs m fails p g).0 ∙ ap suc G.made;
      fails = λ pairs m fails p g s d. sym (round_told_is pairs m fails p g).1
          ∙ fails_same (decided K (next_parts F K (rounds pairs) P)) s (λ c l. decided_once F K h.stored (suc h.rounds_made) c (decided K (next_parts F K (rounds pairs) P) c) (s c) (next_symbol pairs c l) (d c l));
    }
      where
        there : (pairs : PairsRule) → grants (outcome F K (rounds pairs) area (running n r)) ≡ true → h.rounds_made < K.header.limit
        there pairs g =
            let v1 = grants_want (eqb F.order K.header.order) 18 (want_numbers K n (want_area K area (want lows 22 (want (ltb r K.header.limit) 23 (tells pairs))))) g in
            let v2 = grants_want (same_numbers n (numbers_of K)) 19 (want_area K area (want lows 22 (want (ltb r K.header.limit) 23 (tells pairs)))) v1.1 in
            let v3 = grants_want (leb (area_words K) (length area)) 20 (want lows 22 (want (ltb r K.header.limit) 23 (tells pairs))) v2.1 in
            let v4 = grants_want lows 22 (want (ltb r K.header.limit) 23 (tells pairs)) v3.1 in
            let v5 = grants_want (ltb r K.header.limit) 23 (tells pairs) v4.1 in
            subst (λ k. k < K.header.limit) G.made (ltb-true r K.header.limit v5.0)

        back : (pairs : PairsRule) → h.rounds_made < K.header.limit → grants (outcome F K (rounds pairs) area (running n r)) ≡ true
        back pairs l =
            want_grants (eqb F.order K.header.order) 18 (want_numbers K n (want_area K area (want lows 22 (want (ltb r K.header.limit) 23 (tells pairs))))) t_order
            (want_grants (same_numbers n (numbers_of K)) 19 (want_area K area (want lows 22 (want (ltb r K.header.limit) 23 (tells pairs)))) t_numbers
            (want_grants (leb (area_words K) (length area)) 20 (want lows 22 (want (ltb r K.header.limit) 23 (tells pairs))) t_area
            (want_grants lows 22 (want (ltb r K.header.limit) 23 (tells pairs)) (and_from (within K K.header.columns P.channel) (within K (width K) P.to_check) t_channel t_to)
            (want_grants (ltb r K.header.limit) 23 (tells pairs) (lt-ltb r K.header.limit (subst (λ k. k < K.header.limit) (sym G.made) l)) refl))))

pub goes_on : GoesOn
unfolding Inv
goes_on f h run = (
  λ n e.
      let i : Inv h f.area (loading n) = subst (λ s. Inv h f.area s) e (invariant run) in
      subst (λ s. LoadsOn (record { area = f.area; slip = s }) h) (sym e) (load_on h f.area n i.0),
  λ n r e.
      let i : Inv h f.area (running n r) = subst (λ s. Inv h f.area s) e (invariant run) in
      subst (λ s. RoundsOn (record { area = f.area; slip = s }) h) (sym e) (round_on_is h f.area n i.0 r i.1),
)
