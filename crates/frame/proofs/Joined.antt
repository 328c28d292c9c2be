-- What a joiner writes is what the rows' definitions call a join; how long it is, and how high. Assumes nothing.
use Rattle.std.proofs.Common.{◌≡◌, ℕ, pred, ◌<◌, ◌≤◌, Bool, true, false, cond, eqb, List, length, get_or, sym, refl, ap, ◌∙◌, subst, arith}
use Rattle.std.proofs.lemmas.List.FromFn.{length-map-range_with_len, get_or-map-range_with_len}
use Rattle.std.proofs.lemmas.Bool.{eq-eqb, eqb-true}
use Rattle.field.specs.Tables.{Tables, Lawful}
use Rattle.field.proofs.Cancel.{zero_code, sum_zero}
use Rattle.joiner.specs.Costs.{Low}
use Rattle.joiner.specs.Joined.{joined_of, pair_cost, Reaches, IsJoin}
use Rattle.joiner.proofs.Joining.{joined_only, joined_low}
use Rattle.tree.specs.Over.{least_to}
use Rattle.tree.specs.Rows.{tabled, joined_at, joined}
use Rattle.tree.proofs.Folds.{least_reached, least_under}

module _ (t : Tables) (l r : List ℕ) where
  pub length_joined : length (joined t l r) ≡ t.order
  unfolding joined tabled
  length_joined = length-map-range_with_len (joined_at t l r) 0 t.order

  at_joined : (a : ℕ) → a < t.order → get_or (joined t l r) a 0 ≡ joined_at t l r a
  unfolding joined tabled
  at_joined a h = get_or-map-range_with_len (joined_at t l r) 0 t.order a a 0 h (omega arith)

  module _ (L : Lawful t) where
    -- the pair that stands in, or a pair of the join
    abbrev value : ℕ → ℕ → ℕ → ℕ
    value a b c = cond (eqb (t.sum b c) a) (pair_cost l r b c) (pair_cost l r a 0)

    value_reaches : (a b c : ℕ) → a < t.order → b < t.order → c < t.order → Reaches t l r a (value a b c)
    value_reaches a b c ha hb hc = go (eqb (t.sum b c) a) refl
      where
        go : (v : Bool) → eqb (t.sum b c) a ≡ v → Reaches t l r a (cond v (pair_cost l r b c) (pair_cost l r a 0))
        go true e = (b, c, hb, hc, eqb-true (t.sum b c) a e, refl)
        go false e = (a, 0, ha, zero_code t L, sum_zero t L a ha, refl)

    reached : (a : ℕ) → a < t.order → Reaches t l r a (joined_at t l r a)
    unfolding joined_at
    reached a h =
        let o = least_reached (pred t.order) (λ b. least_to (pred t.order) (value a b)) in
        let i = least_reached (pred t.order) (value a o.0) in
        let z = zero_code t L in
        subst (Reaches t l r a) (i.2 ∙ o.2) (value_reaches a o.0 i.0 h (omega (arith, o.1)) (omega (arith, i.1)))

    under : (a b c : ℕ) → b < t.order → c < t.order → t.sum b c ≡ a → joined_at t l r a ≤ pair_cost l r b c
    unfolding joined_at
    under a b c hb hc e =
        let o = least_under (pred t.order) (λ b. least_to (pred t.order) (value a b)) b (omega arith) in
        let i = least_under (pred t.order) (value a b) c (omega arith) in
        let v : value a b c ≡ pair_cost l r b c = ap (λ x. cond x (pair_cost l r b c) (pair_cost l r a 0)) (eq-eqb (t.sum b c) a e) in
        omega arith

    is_join : IsJoin t l r (joined t l r)
    is_join = record {
      long = length_joined;
      reached = λ a h. subst (Reaches t l r a) (sym (at_joined a h)) (reached a h);
      least = λ a b c hb hc e. subst (λ v. v ≤ pair_cost l r b c) (sym (at_joined a (subst (λ x. x < t.order) e (L.sum_code b c hb hc)))) (under a b c hb hc e);
    }

    -- the joiner's vector is the rows' join
    pub joined_same : joined_of t l r ≡ joined t l r
    joined_same = sym (joined_only t l r L (joined t l r) is_join)

    pub low_joined : (top : ℕ) → Low top l → Low top r → Low top (joined t l r)
    low_joined top hl hr = subst (Low top) joined_same (joined_low t l r L top hl hr)
