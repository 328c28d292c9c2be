-- One pair after another: what the vector under way keeps, and that the join comes of it. Assumes nothing.
use Rattle.std.proofs.Common.{◌≡◌, ℕ, ◌<◌, ◌≤◌, min, ◌⊎◌, List, [], ◌∷◌, length, get_or, replicate, All, sym, ap, ◌∙◌, subst, inl, inr, arith}
use Rattle.std.specs.List.{range_with_len}
use Rattle.std.proofs.lemmas.List.{length-set, length-replicate, get_or-replicate, get_or-set_same, get_or-set_other}
use Rattle.std.proofs.lemmas.Bool.{cases_eq, cases_lt}
use Rattle.field.specs.Tables.{Tables, Lawful}
use Rattle.joiner.specs.Costs.{Low}
use Rattle.joiner.specs.Joined.{pair_cost, joined_at, joined_of, Reaches}
use Rattle.joiner.specs.Loops.{lowered, rowed, combined}
use Rattle.joiner.specs.Members.{In, in_counting, all_codes}
use Rattle.joiner.proofs.Joining.{joined_under, joined_reached, joined_by}
use Rattle.std.proofs.lemmas.List.Elements.{All-head, All-tail}

module _ (t : Tables) (laws : Lawful t) (top : ℕ) (left right : List ℕ) where
  -- every entry is the ceiling or reached by a pair
  pub record Fit (third : List ℕ) : Type 0 where
    pub long : length third ≡ t.order
    pub low : (a : ℕ) → a < t.order → get_or third a 0 ≤ top
    pub reached : (a : ℕ) → a < t.order → (get_or third a 0 ≡ top) ⊎ Reaches t left right a (get_or third a 0)

  pub fit_none : (n : ℕ) → n ≡ t.order → Fit (replicate n top)
  fit_none n e = record {
    long = length-replicate n top ∙ e;
    low = λ a h. omega (arith, get_or-replicate n a top 0 (omega arith));
    reached = λ a h. inl (get_or-replicate n a top 0 (omega arith));
  }

  -- ---- one pair
  module _ (third : List ℕ) (F : Fit third) (b c : ℕ) (hb : b < t.order) (hc : c < t.order) where
    abbrev next : List ℕ
    next = lowered t b c (pair_cost left right b c) third

    long_one : length next ≡ t.order
    long_one = length-set third (t.sum b c) _ ∙ F.long

    at_sum : get_or next (t.sum b c) 0 ≡ min (get_or third (t.sum b c) 0) (pair_cost left right b c)
    at_sum = get_or-set_same third (t.sum b c) _ 0 (omega (arith, F.long, laws.sum_code b c hb hc))

    at_other : (a : ℕ) → (t.sum b c ≡ a → ⊥) → get_or next a 0 ≡ get_or third a 0
    at_other a n = get_or-set_other third (t.sum b c) a _ 0 (λ e. n (sym e))

    one_falls : (a : ℕ) → get_or next a 0 ≤ get_or third a 0
    one_falls a = go (cases_eq (t.sum b c) a)
      where
        go : (t.sum b c ≡ a) ⊎ (t.sum b c ≡ a → ⊥) → get_or next a 0 ≤ get_or third a 0
        go (inl e) = subst (λ x. get_or next x 0 ≤ get_or third x 0) e (omega (arith, at_sum))
        go (inr n) = omega (arith, at_other a n)

    fit_one : Fit next
    fit_one = record { long = long_one; low = λ a h. omega (arith, one_falls a, F.low a h); reached = λ a h. go a h (cases_eq (t.sum b c) a) }
      where
        here : (s : ℕ) → t.sum b c ≡ s → (get_or third s 0 ≡ top) ⊎ Reaches t left right s (get_or third s 0) → get_or next s 0 ≡ min (get_or third s 0) (pair_cost left right b c) →
            (get_or third s 0 < pair_cost left right b c) ⊎ (pair_cost left right b c ≤ get_or third s 0) → (get_or next s 0 ≡ top) ⊎ Reaches t left right s (get_or next s 0)
        here s e (inl k) m (inl l) = inl (omega arith)
        here s e (inr k) m (inl l) = inr (subst (Reaches t left right s) (let z : get_or third s 0 ≡ get_or next s 0 = omega arith in z) k)
        here s e k m (inr l) = inr (b, c, hb, hc, e, (let z : pair_cost left right b c ≡ get_or next s 0 = omega arith in z))

        go : (a : ℕ) → a < t.order → (t.sum b c ≡ a) ⊎ (t.sum b c ≡ a → ⊥) → (get_or next a 0 ≡ top) ⊎ Reaches t left right a (get_or next a 0)
        go a h (inl e) = here a e (F.reached a h) (subst (λ x. get_or next x 0 ≡ min (get_or third x 0) (pair_cost left right b c)) e at_sum) (cases_lt (get_or third a 0) (pair_cost left right b c))
        go a h (inr n) = subst (λ v. (v ≡ top) ⊎ Reaches t left right a v) (sym (at_other a n)) (F.reached a h)

    one_under : get_or next (t.sum b c) 0 ≤ pair_cost left right b c
    one_under = omega (arith, at_sum)

  -- ---- the pairs of one left code
  module _ (b : ℕ) (hb : b < t.order) where
    row_fit : (cs third : List ℕ) → All (λ c. c < t.order) cs → Fit third → Fit (rowed t left right b cs third)
    unfolding rowed
    row_fit [] third h F = F
    row_fit (c ∷ cs) third h F = row_fit cs (lowered t b c (pair_cost left right b c) third) (All-tail (λ x. x < t.order) c cs h) (fit_one third F b c hb (All-head (λ x. x < t.order) c cs h))

    row_falls : (cs third : List ℕ) → All (λ c. c < t.order) cs → Fit third → (a : ℕ) → get_or (rowed t left right b cs third) a 0 ≤ get_or third a 0
    unfolding rowed
    row_falls [] third h F a = omega arith
    row_falls (c ∷ cs) third h F a =
        omega (arith, row_falls cs (lowered t b c (pair_cost left right b c) third) (All-tail (λ x. x < t.order) c cs h) (fit_one third F b c hb (All-head (λ x. x < t.order) c cs h)) a, one_falls third F b c hb (All-head (λ x. x < t.order) c cs h) a)

    row_under : (cs third : List ℕ) → All (λ c. c < t.order) cs → Fit third → (c : ℕ) → In cs c → get_or (rowed t left right b cs third) (t.sum b c) 0 ≤ pair_cost left right b c
    unfolding rowed
    row_under [] third h F c k = absurd k
    row_under (d ∷ cs) third h F c (inl e) =
        let next : List ℕ = lowered t b d (pair_cost left right b d) third in
        subst (λ x. get_or (rowed t left right b cs next) (t.sum b x) 0 ≤ pair_cost left right b x) e
        (omega (arith, row_falls cs next (All-tail (λ x. x < t.order) d cs h) (fit_one third F b d hb (All-head (λ x. x < t.order) d cs h)) (t.sum b d), one_under third F b d hb (All-head (λ x. x < t.order) d cs h)))
    row_under (d ∷ cs) third h F c (inr k) = row_under cs (lowered t b d (pair_cost left right b d) third) (All-tail (λ x. x < t.order) d cs h) (fit_one third F b d hb (All-head (λ x. x < t.order) d cs h)) c k

  -- ---- the pairs of some left with some right codes
  module _ (cs : List ℕ) (hcs : All (λ c. c < t.order) cs) where
    pub fit : (bs third : List ℕ) → All (λ b. b < t.order) bs → Fit third → Fit (combined t left right bs cs third)
    unfolding combined
    fit [] third h F = F
    fit (b ∷ bs) third h F = fit bs (rowed t left right b cs third) (All-tail (λ x. x < t.order) b bs h) (row_fit b (All-head (λ x. x < t.order) b bs h) cs third hcs F)

    falls : (bs third : List ℕ) → All (λ b. b < t.order) bs → Fit third → (a : ℕ) → get_or (combined t left right bs cs third) a 0 ≤ get_or third a 0
    unfolding combined
    falls [] third h F a = omega arith
    falls (b ∷ bs) third h F a =
        omega (arith, falls bs (rowed t left right b cs third) (All-tail (λ x. x < t.order) b bs h) (row_fit b (All-head (λ x. x < t.order) b bs h) cs third hcs F) a, row_falls b (All-head (λ x. x < t.order) b bs h) cs third hcs F a)

    pub under : (bs third : List ℕ) → All (λ b. b < t.order) bs → Fit third → (b c : ℕ) → In bs b → In cs c → get_or (combined t left right bs cs third) (t.sum b c) 0 ≤ pair_cost left right b c
    unfolding combined
    under [] third h F b c k m = absurd k
    under (d ∷ bs) third h F b c (inl e) m =
        let next : List ℕ = rowed t left right d cs third in
        subst (λ x. get_or (combined t left right bs cs next) (t.sum x c) 0 ≤ pair_cost left right x c) e
        (omega (arith, falls bs next (All-tail (λ x. x < t.order) d bs h) (row_fit d (All-head (λ x. x < t.order) d bs h) cs third hcs F) (t.sum d c), row_under d (All-head (λ x. x < t.order) d bs h) cs third hcs F c m))
    under (d ∷ bs) third h F b c (inr k) m = under bs (rowed t left right d cs third) (All-tail (λ x. x < t.order) d bs h) (row_fit d (All-head (λ x. x < t.order) d bs h) cs third hcs F) b c k m

  -- ---- what comes of it
  module _ (hl : Low top left) (hr : Low top right) where
    -- an entry that is not above the join is the join
    pub settled : (third : List ℕ) → Fit third → (a : ℕ) → a < t.order → (get_or third a 0 ≤ joined_at t left right a) ⊎ (top ≤ joined_at t left right a) → get_or third a 0 ≡ joined_at t left right a
    settled third F a h k = go (F.reached a h) k (joined_reached t left right laws a h)
      where
        go : (get_or third a 0 ≡ top) ⊎ Reaches t left right a (get_or third a 0) → (get_or third a 0 ≤ joined_at t left right a) ⊎ (top ≤ joined_at t left right a) → Reaches t left right a (joined_at t left right a) →
            get_or third a 0 ≡ joined_at t left right a
        go (inl e) (inl m) w = omega (arith, hl w.0, hr w.1, w.5)
        go (inl e) (inr m) w = omega (arith, hl w.0, hr w.1, w.5)
        go (inr v) (inl m) w = omega (arith, joined_under t left right a v.0 v.1 v.2 v.3 v.4, v.5)
        go (inr v) (inr m) w = omega (arith, joined_under t left right a v.0 v.1 v.2 v.3 v.4, v.5, F.low a h)

    -- all pairs of codes give the join
    whole_by : (n : ℕ) → n ≡ t.order → combined t left right (range_with_len 0 t.order) (range_with_len 0 t.order) (replicate n top) ≡ joined_of t left right
    whole_by n e =
        let all = all_codes t.order in
        let F0 = fit_none n e in
        let third = combined t left right (range_with_len 0 t.order) (range_with_len 0 t.order) (replicate n top) in
        let F = fit (range_with_len 0 t.order) all (range_with_len 0 t.order) (replicate n top) all F0 in
        joined_by t left right third F.long
        (λ a h. let w = joined_reached t left right laws a h in
        settled third F a h (inl (subst (λ x. get_or third x 0 ≤ joined_at t left right a) w.4 (subst (λ v. get_or third (t.sum w.0 w.1) 0 ≤ v) w.5
        (under (range_with_len 0 t.order) all (range_with_len 0 t.order) (replicate n top) all F0 w.0 w.1 (in_counting t.order 0 w.0 (omega arith) (omega (arith, w.2))) (in_counting t.order 0 w.1 (omega arith) (omega (arith, w.3))))))))

    pub whole : (blank last : List ℕ) (n : ℕ) → n ≡ t.order → blank ≡ replicate n top → last ≡ combined t left right (range_with_len 0 t.order) (range_with_len 0 t.order) blank → last ≡ joined_of t left right
    whole blank last n en eb e = e ∙ ap (combined t left right (range_with_len 0 t.order) (range_with_len 0 t.order)) eb ∙ whole_by n en
