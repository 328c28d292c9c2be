-- The joined vector is the join, and no other is. Assumes nothing.
use Rattle.std.proofs.Common.{◌≡◌, ℕ, ◌<◌, ◌≤◌, Bool, eqb, ◌⊎◌, List, map, length, get_or, All, sym, refl, subst, inl, inr, arith}
use Rattle.std.specs.List.{range_with_len}
use Rattle.std.proofs.lemmas.List.FromFn.{length-map-range_with_len, get_or-map-range_with_len, fill_by_all}
use Rattle.std.proofs.lemmas.List.Elements.{All-map, All-weaker}
use Rattle.std.proofs.lemmas.List.{get_or_past}
use Rattle.std.proofs.lemmas.Bool.{eq-eqb, eqb-true, cases_lt}
use Rattle.field.specs.Tables.{Tables, Lawful}
use Rattle.field.proofs.Cancel.{zero_code, sum_zero}
use Rattle.joiner.specs.Costs.{Low}
use Rattle.joiner.specs.Joined.{pairs_below, pairs_to, pair_cost, joined_at, joined_of, Reaches, IsJoin}
use Rattle.joiner.specs.Members.{In, in_map, in_kept, in_counting, in_concatenated, in_some, all_codes, all_concatenated, all_kept, least_is, least_under}

pair_in : (q b c : ℕ) → b < q → c < q → In (pairs_below q) (b, c)
unfolding pairs_below
pair_in q b c hb hc =
    in_concatenated (λ x. map (λ y. (x, y)) (range_with_len 0 q)) (range_with_len 0 q) b (b, c) (in_counting q 0 b (omega arith) (omega arith))
    (in_map (λ y. (b, y)) (range_with_len 0 q) c (in_counting q 0 c (omega arith) (omega arith)))

pairs_below_is : (q : ℕ) → All (λ p. (p.0 < q) × (p.1 < q)) (pairs_below q)
unfolding pairs_below
pairs_below_is q =
    let within : (b : ℕ) → b < q → All (λ (c : ℕ). (b < q) × (c < q)) (range_with_len 0 q) =
    λ b hb. All-weaker (λ c. c < q) (λ (c : ℕ). (b < q) × (c < q)) (λ c hc. (hb, hc)) (range_with_len 0 q) (all_codes q) in
    all_concatenated (λ p. (p.0 < q) × (p.1 < q)) (λ x. map (λ y. (x, y)) (range_with_len 0 q)) (range_with_len 0 q)
    (All-weaker (λ b. b < q) (λ (b : ℕ). All (λ (p : ℕ × ℕ). (p.0 < q) × (p.1 < q)) (map (λ y. (b, y)) (range_with_len 0 q)))
    (λ b hb. All-map {X = ℕ × ℕ} (λ (p : ℕ × ℕ). (p.0 < q) × (p.1 < q)) (λ y. (b, y)) (range_with_len 0 q) (within b hb)) (range_with_len 0 q) (all_codes q))

module _ (t : Tables) (left right : List ℕ) where
  abbrev cost : ℕ × ℕ → ℕ
  cost p = pair_cost left right p.0 p.1

  abbrev adds : ℕ → ℕ × ℕ → Bool
  adds a p = eqb (t.sum p.0 p.1) a

  cost_in : (a b c : ℕ) → b < t.order → c < t.order → t.sum b c ≡ a → In (map cost (pairs_to t a)) (pair_cost left right b c)
  unfolding pairs_to
  cost_in a b c hb hc e = in_map cost (pairs_to t a) (b, c) (in_kept (adds a) (pairs_below t.order) (b, c) (eq-eqb (t.sum b c) a e) (pair_in t.order b c hb hc))

  costs_reach : (a : ℕ) → All (Reaches t left right a) (map cost (pairs_to t a))
  unfolding pairs_to
  costs_reach a =
      All-map (Reaches t left right a) cost (pairs_to t a)
      (all_kept (adds a) (λ p. (p.0 < t.order) × (p.1 < t.order)) (λ p. Reaches t left right a (cost p)) (λ p h k. (p.0, p.1, h.0, h.1, eqb-true (t.sum p.0 p.1) a k, refl)) (pairs_below t.order) (pairs_below_is t.order))

  -- no pair is below the entry
  pub joined_under : (a b c : ℕ) → b < t.order → c < t.order → t.sum b c ≡ a → joined_at t left right a ≤ pair_cost left right b c
  unfolding joined_at
  joined_under a b c hb hc e = least_under (map cost (pairs_to t a)) (pair_cost left right b c) (cost_in a b c hb hc e)

  pub length_joined : length (joined_of t left right) ≡ t.order
  unfolding joined_of
  length_joined = length-map-range_with_len (joined_at t left right) 0 t.order

  pub at_joined : (a : ℕ) → a < t.order → get_or (joined_of t left right) a 0 ≡ joined_at t left right a
  unfolding joined_of
  at_joined a h = get_or-map-range_with_len (joined_at t left right) 0 t.order a a 0 h (omega arith)

  -- entry by entry the same, so the same
  pub joined_by : (third : List ℕ) → length third ≡ t.order → ((a : ℕ) → a < t.order → get_or third a 0 ≡ joined_at t left right a) → third ≡ joined_of t left right
  unfolding joined_of
  joined_by third long h = fill_by_all (joined_at t left right) third t.order 0 long h

  module _ (laws : Lawful t) where
    -- some pair reaches the entry
    pub joined_reached : (a : ℕ) → a < t.order → Reaches t left right a (joined_at t left right a)
    unfolding joined_at
    joined_reached a h =
        let some = in_some (map cost (pairs_to t a)) _ (cost_in a a 0 h (zero_code t laws) (sum_zero t laws a h)) in
        least_is (Reaches t left right a) (map cost (pairs_to t a)) some (costs_reach a)

    pub joined_is : IsJoin t left right (joined_of t left right)
    joined_is = record {
      long = length_joined;
      reached = λ a h. subst (Reaches t left right a) (sym (at_joined a h)) (joined_reached a h);
      least = λ a b c hb hc e. subst (λ v. v ≤ pair_cost left right b c) (sym (at_joined a (subst (λ x. x < t.order) e (laws.sum_code b c hb hc)))) (joined_under a b c hb hc e);
    }

    -- no cost above the ceiling comes of costs up to it
    pub joined_low : (ceiling : ℕ) → Low ceiling left → Low ceiling right → Low ceiling (joined_of t left right)
    joined_low ceiling hl hr a = go (cases_lt a t.order)
      where
        go : (a < t.order) ⊎ (t.order ≤ a) → get_or (joined_of t left right) a 0 ≤ ceiling
        go (inl h) = let w = joined_reached a h in omega (arith, at_joined a h, w.5, hl w.0, hr w.1)
        go (inr h) = let past : length (joined_of t left right) ≤ a = omega (arith, length_joined) in omega (arith, get_or_past (joined_of t left right) a 0 past)

    -- there is one join only
    pub joined_only : (third : List ℕ) → IsJoin t left right third → third ≡ joined_of t left right
    joined_only third j = joined_by third j.long same
      where
        same : (a : ℕ) → a < t.order → get_or third a 0 ≡ joined_at t left right a
        same a h =
            let w = j.reached a h in
            let v = joined_reached a h in
            let above = joined_under a w.0 w.1 w.2 w.3 w.4 in
            let below = j.least a v.0 v.1 v.2 v.3 v.4 in
            omega (arith, w.5, v.5)
