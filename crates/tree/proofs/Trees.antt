-- The tree theorem. Assumes nothing.
use Rattle.std.proofs.Common.{◌≡◌, ℕ, zero, suc, pred, ◌+◌, ◌-◌, ◌<◌, ◌≤◌, max, true, sym, refl, ap, ◌∙◌, subst, ap₂, arith}
use mathlib.Core.Bool.{Bool-discrete}
use native.Mathlib.Decide.{dec_lt}
use Rattle.tree.specs.Over.{greatest, least_to}
use Rattle.field.specs.Tables.{Tables}
use Rattle.tree.proofs.Laws.{Laws, laws_of}
use Rattle.code.specs.Views.{View}
use Rattle.tree.proofs.Facts.{Facts, facts}
use Rattle.tree.specs.Places.{Place, at_column, at_edge, place_column, width, column_of, coefficient_of, arms, others, Arm, Other}
use Rattle.tree.specs.Tree.{Filling, leaf, grow, symbol, part, Satisfied, Fits, Valid, Raw, Least, lower, Cost, Cheapest}
use Rattle.tree.specs.Decoder.{from_check_cost, column_sum, less_least, round_to, round_distance, to_check_cost, distance}
use Rattle.tree.specs.Statement.{Loaded, Within, TreeStands}
use Rattle.tree.proofs.Folds.{over_same, total_mono, greatest_mono, least_reached, least_under, choose}
use Rattle.tree.proofs.Best.{products, Hit, from_hit, from_under}

blank : (k : ℕ) → Filling k
blank zero = leaf 0
blank (suc k) = grow 0 (λ e x. blank k)

dec_arm : (K : View) (p : Place) (x : ℕ) → Dec (Arm K p x)
dec_arm K p x = go (dec_lt x (width K)) (Bool-discrete (arms K p x) true)
  where
    go : Dec (x < width K) → Dec (arms K p x ≡ true) → Dec (Arm K p x)
    go (yes h) (yes t) = yes (record { within = h; passes = t })
    go (yes h) (no t) = no (λ a. t a.passes)
    go (no h) t = no (λ a. h a.within)

dec_other : (K : View) (e x : ℕ) → Dec (Other K e x)
dec_other K e x = go (dec_lt x (width K)) (Bool-discrete (others K e x) true)
  where
    go : Dec (x < width K) → Dec (others K e x ≡ true) → Dec (Other K e x)
    go (yes h) (yes t) = yes (record { within = h; passes = t })
    go (yes h) (no t) = no (λ a. t a.passes)
    go (no h) t = no (λ a. h a.within)

least_once : {k : ℕ} {valid : Filling k → Type 0} {has : Filling k → ℕ → Type 0} {m n : ℕ} → Least valid has m → Least valid has n → m ≡ n
least_once {m = m} {n = n} a b =
    let h : m ≤ n = a.under b.one b.one_valid n b.one_has in
    let g : n ≤ m = b.under a.one a.one_valid m a.one_has in
    omega arith

lower_mono : (K : View) (p : Place) (v w : ℕ) → v ≤ w → lower K p v ≤ lower K p w
unfolding lower
lower_mono K (at_column c) v w h = h
lower_mono K (at_edge e) v w h = omega arith

module _ (F : Tables) (K : View) (L : Laws F K.header.order) (A : Facts K) (channel : ℕ → ℕ → ℕ) where
  -- what holds of the edges' fillings of depth k
  record Upto (k : ℕ) : Type 0 where
    low : Within K (to_check_cost F K channel k)
    some : (e a : ℕ) → a < K.header.order → (f : Filling k) × (symbol f ≡ a) × Valid F K k (at_edge e) f × Cost F K channel k (at_edge e) f (to_check_cost F K channel k e (symbol f))
    all : (e : ℕ) (f : Filling k) → Valid F K k (at_edge e) f → (v : ℕ) × Cost F K channel k (at_edge e) f v
    under : (e : ℕ) (f : Filling k) → Valid F K k (at_edge e) f → (v : ℕ) → Cost F K channel k (at_edge e) f v → to_check_cost F K channel k e (symbol f) ≤ v
    once : (p : Place) (f : Filling k) (v w : ℕ) → Cost F K channel k p f v → Cost F K channel k p f w → v ≡ w

  pub code_of : (k : ℕ) (p : Place) (f : Filling k) → Valid F K k p f → symbol f < K.header.order
  unfolding Valid
  code_of zero p f h = h
  code_of (suc k) p f h = h.code

  module _ (k : ℕ) (M : Upto k) where
    costs : ℕ → ℕ → ℕ
    costs = to_check_cost F K channel k

    sums : Place → ℕ → ℕ
    sums p a = column_sum K channel (from_check_cost F K costs) p a

    -- fillings for the row of an edge, at what the from-check cost tells
    record Branch (e a : ℕ) (parts : ℕ → Filling k) : Type 0 where
      satisfied : Satisfied F K e a (λ x. symbol (parts x))
      valid : (x : ℕ) → Other K e x → Valid F K k (at_edge x) (parts x)
      cost : (x : ℕ) → Other K e x → Cost F K channel k (at_edge x) (parts x) (costs x (symbol (parts x)))
      is : greatest (width K) (others K e) (λ x. costs x (symbol (parts x))) ≡ from_check_cost F K costs e a

    branch : (e a : ℕ) → e < width K → a < K.header.order → (parts : ℕ → Filling k) × Branch e a parts
    unfolding products costs
    branch e a h l = (chosen.0, made)
      where
        hit : Hit F K L A costs (width K) (others K e) (F.product (coefficient_of K e) a) (from_check_cost F K costs e a)
        hit = from_hit F K L A costs M.low e a h l

        chosen : (parts : ℕ → Filling k) × ((x : ℕ) → Other K e x → (symbol (parts x) ≡ hit.at x) × Valid F K k (at_edge x) (parts x) × Cost F K channel k (at_edge x) (parts x) (costs x (symbol (parts x))))
        chosen = choose (Other K e) (dec_other K e) (blank k)
            (λ x g. (symbol g ≡ hit.at x) × Valid F K k (at_edge x) g × Cost F K channel k (at_edge x) g (costs x (symbol g)))
            (λ x o. let r = M.some x (hit.at x) (hit.codes x o.within o.passes) in (r.0, (r.1, r.2, r.3)))

        made : Branch e a chosen.0
        made = record {
          satisfied =
              ap (F.sum (F.product (coefficient_of K e) a))
              (over_same F.sum 0 (width K) (others K e) (λ x. F.product (coefficient_of K x) (symbol (chosen.0 x))) (λ x. F.product (coefficient_of K x) (hit.at x))
              (λ x k t. ap (F.product (coefficient_of K x)) (chosen.1 x (record { within = k; passes = t })).0))
              ∙ hit.fits;
          valid = λ x o. (chosen.1 x o).1;
          cost = λ x o. (chosen.1 x o).2;
          is =
              over_same max 0 (width K) (others K e) (λ x. costs x (symbol (chosen.0 x))) (λ x. costs x (hit.at x))
              (λ x k t. ap (costs x) (chosen.1 x (record { within = k; passes = t })).0)
              ∙ hit.is;
        }

    raw_some : (p : Place) (a : ℕ) → a < K.header.order →
        (f : Filling (suc k)) × (symbol f ≡ a) × Valid F K (suc k) p f × Raw K channel (Cost F K channel k) p f (sums p (symbol f))
    unfolding symbol part Valid sums column_sum
    raw_some p a l = (grow a chosen.0, refl, fits, raw)
      where
        chosen : (parts : ℕ → ℕ → Filling k) × ((e : ℕ) → Arm K p e → Branch e a (parts e))
        chosen = choose (Arm K p) (dec_arm K p) (λ x. blank k) (λ e parts. Branch e a parts) (λ e d. branch e a d.within l)

        fits : Fits F K (Valid F K k) p (grow a chosen.0)
        fits = record { code = l; satisfied = λ e d. (chosen.1 e d).satisfied; parts = λ e d x o. (chosen.1 e d).valid x o }

        raw : Raw K channel (Cost F K channel k) p (grow a chosen.0) (sums p a)
        raw = record {
          part_cost = λ e x. costs x (symbol (chosen.0 e x));
          each = λ e d x o. (chosen.1 e d).cost x o;
          is = ap (λ y. channel (place_column K p) a + y)
              (over_same ◌+◌ 0 (width K) (arms K p) (λ e. from_check_cost F K costs e a) (λ e. greatest (width K) (others K e) (λ x. costs x (symbol (chosen.0 e x))))
              (λ e h t. sym (chosen.1 e (record { within = h; passes = t })).is));
        }

    raw_all : (p : Place) (f : Filling (suc k)) → Valid F K (suc k) p f → (v : ℕ) × Raw K channel (Cost F K channel k) p f v
    unfolding Valid
    raw_all p f h = (_, record { part_cost = chosen.0; each = λ e d x o. chosen.1 e d x o; is = refl })
      where
        inner : (e : ℕ) → Arm K p e → (w : ℕ → ℕ) × ((x : ℕ) → Other K e x → Cost F K channel k (at_edge x) (part f e x) (w x))
        inner e d = choose (Other K e) (dec_other K e) 0 (λ x v. Cost F K channel k (at_edge x) (part f e x) v) (λ x o. M.all x (part f e x) (h.parts e d x o))

        chosen : (w : ℕ → ℕ → ℕ) × ((e : ℕ) → Arm K p e → (x : ℕ) → Other K e x → Cost F K channel k (at_edge x) (part f e x) (w e x))
        chosen = choose (Arm K p) (dec_arm K p) (λ x. 0) (λ e w. (x : ℕ) → Other K e x → Cost F K channel k (at_edge x) (part f e x) (w x)) inner

    raw_under : (p : Place) (f : Filling (suc k)) → Valid F K (suc k) p f → (v : ℕ) → Raw K channel (Cost F K channel k) p f v → sums p (symbol f) ≤ v
    unfolding Valid sums column_sum costs
    raw_under p f h v r =
        let t = total_mono (width K) (arms K p) (λ e. from_check_cost F K costs e (symbol f)) (λ e. greatest (width K) (others K e) (r.part_cost e)) each in
        omega (arith, r.is)
      where
        each : (e : ℕ) → e < width K → arms K p e ≡ true → from_check_cost F K costs e (symbol f) ≤ greatest (width K) (others K e) (r.part_cost e)
        each e w t =
            let d : Arm K p e = record { within = w; passes = t } in
            let u = from_under F K L A costs e (symbol f) w h.code (λ x. symbol (part f e x)) (λ x o. code_of k (at_edge x) (part f e x) (h.parts e d x o)) (h.satisfied e d) in
            let g = greatest_mono (width K) (others K e) (λ x. costs x (symbol (part f e x))) (r.part_cost e)
            (λ x y z. let o : Other K e x = record { within = y; passes = z } in M.under x (part f e x) (h.parts e d x o) (r.part_cost e x) (r.each e d x o)) in
            omega arith

    raw_once : (p : Place) (f : Filling (suc k)) (v w : ℕ) → Raw K channel (Cost F K channel k) p f v → Raw K channel (Cost F K channel k) p f w → v ≡ w
    raw_once p f v w r s =
        r.is ∙ ap (λ y. channel (place_column K p) (symbol f) + y)
        (over_same ◌+◌ 0 (width K) (arms K p) (λ e. greatest (width K) (others K e) (r.part_cost e)) (λ e. greatest (width K) (others K e) (s.part_cost e))
        (λ e h t. let d : Arm K p e = record { within = h; passes = t } in
        over_same max 0 (width K) (others K e) (r.part_cost e) (s.part_cost e)
        (λ x y z. let o : Other K e x = record { within = y; passes = z } in M.once (at_edge x) (part f e x) (r.part_cost e x) (s.part_cost e x) (r.each e d x o) (s.each e d x o))))
        ∙ sym s.is

    bottom : Place → ℕ
    bottom p = least_to (pred K.header.order) (sums p)

    least_raw : (p : Place) → Least (Valid F K (suc k) p) (Raw K channel (Cost F K channel k) p) (bottom p)
    unfolding bottom
    least_raw p =
        let b = least_reached (pred K.header.order) (sums p) in
        let s = raw_some p b.0 (omega (arith, L.two, b.1)) in
        record {
          one = s.0;
          one_valid = s.2;
          one_has = subst (λ y. Raw K channel (Cost F K channel k) p s.0 y) (ap (sums p) s.1 ∙ b.2) s.3;
          under = λ f h v r.
              let u = raw_under p f h v r in
              let c = code_of (suc k) p f h in
              let m = least_under (pred K.header.order) (sums p) (symbol f) (omega arith) in
              omega arith;
        }

    next : Place → ℕ → ℕ
    next p a = lower K p (sums p a - bottom p)

    cost_some : (p : Place) (a : ℕ) → a < K.header.order →
        (f : Filling (suc k)) × (symbol f ≡ a) × Valid F K (suc k) p f × Cost F K channel (suc k) p f (next p (symbol f))
    unfolding Cost next
    cost_some p a l =
        let s = raw_some p a l in
        (s.0, s.1, s.2, record { own = sums p (symbol s.0); own_raw = s.3; least = bottom p; least_raw = least_raw p; is = refl })

    cost_all : (p : Place) (f : Filling (suc k)) → Valid F K (suc k) p f → (v : ℕ) × Cost F K channel (suc k) p f v
    unfolding Cost
    cost_all p f h =
        let s = raw_all p f h in
        (lower K p (s.0 - bottom p), record { own = s.0; own_raw = s.1; least = bottom p; least_raw = least_raw p; is = refl })

    cost_under : (p : Place) (f : Filling (suc k)) → Valid F K (suc k) p f → (v : ℕ) → Cost F K channel (suc k) p f v → next p (symbol f) ≤ v
    unfolding Cost next
    cost_under p f h v c =
        let e : c.least ≡ bottom p = least_once c.least_raw (least_raw p) in
        let u : sums p (symbol f) ≤ c.own = raw_under p f h c.own c.own_raw in
        let m : lower K p (sums p (symbol f) - bottom p) ≤ lower K p (c.own - c.least) = lower_mono K p (sums p (symbol f) - bottom p) (c.own - c.least) (omega arith) in
        omega (arith, c.is)

    cost_once : (p : Place) (f : Filling (suc k)) (v w : ℕ) → Cost F K channel (suc k) p f v → Cost F K channel (suc k) p f w → v ≡ w
    unfolding Cost
    cost_once p f v w c d =
        c.is ∙ ap (lower K p) (ap₂ ◌-◌ (raw_once p f c.own d.own c.own_raw d.own_raw) (least_once c.least_raw d.least_raw)) ∙ sym d.is

  start_upto : Loaded K channel → Upto zero
  unfolding Valid Cost to_check_cost symbol
  start_upto h = record {
    low = λ e a l k. h (column_of K e) a (A.column_below e l) k;
    some = λ e a l. (leaf a, refl, l, refl);
    all = λ e f v. (_, refl);
    under = λ e f v w c. omega (arith, c);
    once = λ p f v w c d. c ∙ sym d;
  }

  next_upto : (k : ℕ) → Upto k → Upto (suc k)
  unfolding to_check_cost round_to less_least next bottom sums costs lower
  next_upto k M = record {
    low = λ e a l k. omega arith;
    some = λ e a l. cost_some k M (at_edge e) a l;
    all = λ e f h. cost_all k M (at_edge e) f h;
    under = λ e f h v c. cost_under k M (at_edge e) f h v c;
    once = cost_once k M;
  }

  upto : Loaded K channel → (k : ℕ) → Upto k
  upto h zero = start_upto h
  upto h (suc k) = next_upto k (upto h k)

  cheapest_above : (k : ℕ) → Upto k → (c a : ℕ) → a < K.header.order → Cheapest F K channel (suc k) c a (distance F K channel (suc k) c a)
  unfolding distance round_distance less_least next bottom sums costs lower
  cheapest_above k M c a l =
      let s = cost_some k M (at_column c) a l in
      record {
        filling = s.0;
        root = s.1;
        valid = s.2;
        cost = subst (λ y. Cost F K channel (suc k) (at_column c) s.0 (next k M (at_column c) y)) s.1 s.3;
        costs_something = cost_all k M (at_column c);
        costs_once = cost_once k M (at_column c);
        under = λ f h e v x. subst (λ y. next k M (at_column c) y ≤ v) e (cost_under k M (at_column c) f h v x);
      }

  cheapest : Loaded K channel → (k c a : ℕ) → a < K.header.order → Cheapest F K channel k c a (distance F K channel k c a)
  unfolding Valid Cost distance symbol
  cheapest h zero c a l = record {
    filling = leaf a;
    root = refl;
    valid = l;
    cost = refl;
    costs_something = λ f v. (_, refl);
    costs_once = λ f v w x y. x ∙ sym y;
    under = λ f v e w x. subst (λ y. channel c y ≤ w) e (omega (arith, x));
  }
  cheapest h (suc k) c a l = cheapest_above k (upto h k) c a l

pub tree_theorem : TreeStands
tree_theorem F L K A e channel h k c a m l = cheapest F K (laws_of F L K.header.order e) (facts K A) channel h k c a l
