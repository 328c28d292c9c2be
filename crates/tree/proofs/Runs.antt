-- The law over all runs. Assumes nothing.
use Rattle.std.proofs.Common.{◌≡◌, ℕ, suc, pred, ◌<◌, ◌≤◌, true, cond, eqb, ltb, leb, ◌↔◌, List, length, get_or, sym, refl, ap, ◌∙◌, subst, arith}
use Rattle.std.proofs.lemmas.List.FromFn.{get_or-map-range_with_len, length-map-range_with_len}
use Rattle.std.proofs.lemmas.Bool.{le-leb, leb-true, eq-eqb, eqb-true, lt-ltb, ltb-true}
use Rattle.field.specs.Tables.{Tables, Lawful}
use Rattle.code.specs.Views.{View}
use Rattle.tree.specs.Over.{lowest_to}
use Rattle.tree.specs.Places.{Admitted, at_column, width, row_of, column_of, coefficient_of}
use Rattle.tree.specs.Tree.{Filling, symbol, Valid, Cost, Cheapest}
use Rattle.tree.specs.Decoder.{to_check_cost, distance}
use Rattle.tree.specs.Statement.{Loaded}
use Rattle.tree.specs.Rows.{PairsRule, tabled}
use Rattle.tree.specs.Frame.{Numbers, numbers_of, same_numbers, Slip, no_slip, loading, running, Frame, Words, Parts, parts_of, area_words, Call, opens, loads, starts, rounds, reads, concludes, Reply, slip_given, column_told, word_told, Outcome, granted, grants, want, want_numbers, want_area, want_column, want_length, outcome, stores, decided, row_sum, failing, told, word_of, next_parts, next_slip, Effect}
use Rattle.tree.specs.Run.{History, next_history, Same, Brings, Run, new, obeyed, turned_down, Decided, EveryCheck, ColumnRight, ReadsRight, ConcludesRight, RunsStand}
use Rattle.tree.proofs.Laws.{laws_of}
use Rattle.tree.proofs.Facts.{facts}
use Rattle.tree.proofs.Folds.{over_same, cond_related}
use Rattle.tree.proofs.Words.{lowest_low, lowest_under, lowest_lowest}
use Rattle.tree.proofs.Ranges.{lowest_same, after_channel, after_distances, after_to, distance_same, to_same}
use Rattle.tree.proofs.Outcomes.{want_is, want_grants, grants_want, never, numbers_same, none_fails, fails_none}
use Rattle.tree.proofs.Trees.{tree_theorem, code_of}

-- ---- what holds of a frame after every run
pub record Ready (h : History) (area : List ℕ) (n : Numbers) : Type 0 where
  pub lawful : Lawful h.field
  pub admitted : Admitted h.code
  pub orders : h.field.order ≡ h.code.header.order
  pub numbers : n ≡ numbers_of h.code
  pub room : area_words h.code ≤ length area
  pub low : (c a : ℕ) → h.stored c a ≤ h.code.header.ceiling
  pub channel : (c a : ℕ) → c < h.code.header.columns → a < h.code.header.order → (parts_of h.code area).channel c a ≡ h.stored c a

pub record Going (h : History) (area : List ℕ) (r : ℕ) : Type 0 where
  pub made : r ≡ h.rounds_made
  pub distances : (c a : ℕ) → c < h.code.header.columns → a < h.code.header.order → (parts_of h.code area).distances c a ≡ distance h.field h.code h.stored r c a
  pub to_check : (e a : ℕ) → e < width h.code → a < h.code.header.order → (parts_of h.code area).to_check e a ≡ to_check_cost h.field h.code h.stored r e a

unfoldable pub Inv : History → List ℕ → Slip → Type 0
Inv h area no_slip = Unit {0}
Inv h area (loading n) = Ready h area n × (h.rounds_made ≡ 0)
Inv h area (running n r) = Ready h area n × Going h area r

stores_low : (K : View) (values : List ℕ) (a : ℕ) → stores K values a ≤ K.header.ceiling
unfolding stores
stores_low K values a = omega arith

-- each call, at each slip that it takes
step_open : (h : History) (F : Tables) (K : View) (area : List ℕ) (s : Slip) (after : Frame) (x : Reply) → Lawful F → Admitted K →
    outcome F K opens area s ≡ granted x → Effect F K opens (record { area = area; slip = s }) after →
    Inv (next_history F K opens h) after.area (loading (numbers_of K))
unfolding Inv outcome next_history next_parts
step_open h F K area s after x law adm g e =
    let w = want_is (eqb F.order K.header.order) 18 (want_area K area (granted (slip_given (loading (numbers_of K))))) x g in
    let v = want_is (leb (area_words K) (length area)) 20 (granted (slip_given (loading (numbers_of K)))) x w.1 in
    let room : area_words K ≤ length area = leb-true (area_words K) (length area) v.0 in (
      record {
        lawful = law;
        admitted = adm;
        orders = eqb-true F.order K.header.order w.0;
        numbers = refl;
        room = subst (λ x. area_words K ≤ x) (sym e.as_long) room;
        low = λ c a. omega arith;
        channel = λ c a l m. after_channel K (next_parts F K opens (parts_of K area)) after.area e.held c a l m;
      },
      refl,
    )

step_load : (h : History) (c : ℕ) (values : List ℕ) (area : List ℕ) (n : Numbers) (after : Frame) → Inv h area (loading n) →
    Effect h.field h.code (loads c values) (record { area = area; slip = loading n }) after →
    Inv (next_history h.field h.code (loads c values) h) after.area (loading n)
unfolding Inv next_history next_parts
step_load h c values area n after i e =
    let R = i.0 in
    let K = h.code in (
      record {
        lawful = R.lawful;
        admitted = R.admitted;
        orders = R.orders;
        numbers = R.numbers;
        room = subst (λ x. area_words K ≤ x) (sym e.as_long) R.room;
        low = λ x a. cond_related (λ y z. y ≤ K.header.ceiling) (eqb x c) (stores K values a) (h.stored x a) 0 0 (λ t. stores_low K values a) (R.low x a);
        channel = λ x a l m.
            after_channel K (next_parts h.field K (loads c values) (parts_of K area)) after.area e.held x a l m
            ∙ ap (cond (eqb x c) (stores K values a)) (R.channel x a l m);
      },
      i.1,
    )

step_start : (h : History) (area : List ℕ) (n : Numbers) (after : Frame) → Inv h area (loading n) →
    Effect h.field h.code starts (record { area = area; slip = loading n }) after →
    Inv (next_history h.field h.code starts h) after.area (running (numbers_of h.code) 0)
unfolding Inv next_history next_parts distance to_check_cost
step_start h area n after i e =
    let R = i.0 in
    let K = h.code in
    let A = facts K R.admitted in
    let P = next_parts h.field K starts (parts_of K area) in (
      record {
        lawful = R.lawful;
        admitted = R.admitted;
        orders = R.orders;
        numbers = refl;
        room = subst (λ x. area_words K ≤ x) (sym e.as_long) R.room;
        low = R.low;
        channel = λ x a l m. after_channel K P after.area e.held x a l m ∙ R.channel x a l m;
      },
      record {
        made = sym i.1;
        distances = λ x a l m. after_distances K P after.area e.held x a l m ∙ R.channel x a l m;
        to_check = λ x a l m. after_to K P after.area e.held x a l m ∙ R.channel (column_of K x) a (A.column_below x l) m;
      },
    )

step_round : (h : History) (pairs : PairsRule) (area : List ℕ) (n : Numbers) (r : ℕ) (after : Frame) → Inv h area (running n r) →
    Effect h.field h.code (rounds pairs) (record { area = area; slip = running n r }) after →
    Inv (next_history h.field h.code (rounds pairs) h) after.area (running n (suc r))
unfolding Inv next_history next_parts distance to_check_cost
step_round h pairs area n r after i e =
    let R = i.0 in
    let G = i.1 in
    let K = h.code in
    let F = h.field in
    let A = facts K R.admitted in
    let P = next_parts F K (rounds pairs) (parts_of K area) in (
      record {
        lawful = R.lawful;
        admitted = R.admitted;
        orders = R.orders;
        numbers = R.numbers;
        room = subst (λ x. area_words K ≤ x) (sym e.as_long) R.room;
        low = R.low;
        channel = λ x a l m. after_channel K P after.area e.held x a l m ∙ R.channel x a l m;
      },
      record {
        made = ap suc G.made;
        distances = λ x a l m. after_distances K P after.area e.held x a l m
            ∙ distance_same F K A (parts_of K area).channel h.stored (parts_of K area).to_check (to_check_cost F K h.stored r) R.channel G.to_check x a l m;
        to_check = λ x a l m. after_to K P after.area e.held x a l m
            ∙ to_same F K A (parts_of K area).channel h.stored (parts_of K area).to_check (to_check_cost F K h.stored r) R.channel G.to_check x a l m;
      },
    )

step_read : (h : History) (c size : ℕ) (area : List ℕ) (n : Numbers) (r : ℕ) (after : Frame) → Inv h area (running n r) →
    Effect h.field h.code (reads c size) (record { area = area; slip = running n r }) after →
    Inv (next_history h.field h.code (reads c size) h) after.area (running n r)
unfolding Inv next_history next_parts
step_read h c size area n r after i e =
    let R = i.0 in
    let G = i.1 in
    let K = h.code in
    let P = parts_of K area in (
      record {
        lawful = R.lawful;
        admitted = R.admitted;
        orders = R.orders;
        numbers = R.numbers;
        room = subst (λ x. area_words K ≤ x) (sym e.as_long) R.room;
        low = R.low;
        channel = λ x a l m. after_channel K P after.area e.held x a l m ∙ R.channel x a l m;
      },
      record {
        made = G.made;
        distances = λ x a l m. after_distances K P after.area e.held x a l m ∙ G.distances x a l m;
        to_check = λ x a l m. after_to K P after.area e.held x a l m ∙ G.to_check x a l m;
      },
    )

Step : Tables → View → Call → History → Type 0
Step F K call h = (area : List ℕ) (s : Slip) (after : Frame) (x : Reply) → Inv h area s → outcome F K call area s ≡ granted x →
    Effect F K call (record { area = area; slip = s }) after → Inv (next_history F K call h) after.area (next_slip K call s)

-- with the field and the code of the last granted open
same : (F : Tables) (K : View) (call : Call) (h : History) → Same F K h → Step h.field h.code call h → Step F K call h
same F K call h s t = subst (λ G. Step G K call h) (sym s.field) (subst (λ H. Step h.field H call h) (sym s.code) t)

step_own : (call : Call) (h : History) → ((F : Tables) (K : View) → call ≡ opens → ⊥) → Step h.field h.code call h
unfolding Step next_slip outcome Inv
step_own opens h none area s after x i g e = absurd (none h.field h.code refl)
step_own (loads c values) h _ area no_slip after x i g e = absurd (never x g)
step_own (loads c values) h _ area (loading n) after x i g e = step_load h c values area n after i e
step_own (loads c values) h _ area (running n r) after x i g e = absurd (never x g)
step_own starts h _ area no_slip after x i g e = absurd (never x g)
step_own starts h _ area (loading n) after x i g e = step_start h area n after i e
step_own starts h _ area (running n r) after x i g e = absurd (never x g)
step_own (rounds pairs) h _ area no_slip after x i g e = absurd (never x g)
step_own (rounds pairs) h _ area (loading n) after x i g e = absurd (never x g)
step_own (rounds pairs) h _ area (running n r) after x i g e = step_round h pairs area n r after i e
step_own (reads c size) h _ area no_slip after x i g e = absurd (never x g)
step_own (reads c size) h _ area (loading n) after x i g e = absurd (never x g)
step_own (reads c size) h _ area (running n r) after x i g e = step_read h c size area n r after i e
step_own (concludes size) h _ area s after x i g e = tt

step : (call : Call) (F : Tables) (K : View) (h : History) → Brings call F K h → Step F K call h
unfolding Brings Step next_slip
step opens F K h b = λ area s after x i g e. step_open h F K area s after x b.0 b.1 g e
step (loads c values) F K h b = same F K (loads c values) h b (step_own (loads c values) h (λ F K e. let z : ◌≡◌ {A = ℕ} 0 1 = cc in omega arith))
step starts F K h b = same F K starts h b (step_own starts h (λ F K e. let z : ◌≡◌ {A = ℕ} 0 1 = cc in omega arith))
step (rounds pairs) F K h b = same F K (rounds pairs) h b (step_own (rounds pairs) h (λ F K e. let z : ◌≡◌ {A = ℕ} 0 1 = cc in omega arith))
step (reads c size) F K h b = same F K (reads c size) h b (step_own (reads c size) h (λ F K e. let z : ◌≡◌ {A = ℕ} 0 1 = cc in omega arith))
step (concludes size) F K h b = same F K (concludes size) h b (step_own (concludes size) h (λ F K e. let z : ◌≡◌ {A = ℕ} 0 1 = cc in omega arith))

pub invariant : {f : Frame} {h : History} → Run f h → Inv h f.area f.slip
unfolding Inv Step
invariant (new area h w) = tt
invariant (obeyed {before = b} {after = f} {h = h} r F K call x o g e) =
    subst (λ s. Inv (next_history F K call h) f.area s) (sym e.slip) (step call F K h o b.area b.slip f x (invariant r) g e)
invariant (turned_down r F K call area slip n e) = invariant r

pub run_words : {f : Frame} {h : History} → Run f h → Words f.area
run_words (new area h w) = w
run_words (obeyed r F K call x o g e) = e.words
run_words (turned_down r F K call area slip n e) = run_words r

-- ---- the decided symbol
module _ (F : Tables) (L : Lawful F) (K : View) (R : Admitted K) (orders : F.order ≡ K.header.order) (stored : ℕ → ℕ → ℕ) (low : Loaded K stored) (k c : ℕ) (col : c < K.header.columns) where
  abbrev pub far : ℕ → ℕ
  far = distance F K stored k c

  symbol_low : (f : Filling k) → Valid F K k (at_column c) f → symbol f < K.header.order
  symbol_low f v = code_of F K (laws_of F L K.header.order orders) (facts K R) stored k (at_column c) f v

  pub decided_is : Decided F K stored k c (lowest_to (pred K.header.order) far)
  decided_is =
      let A = facts K R in
      let d : ℕ = lowest_to (pred K.header.order) far in
      let dl : d < K.header.order = omega (arith, lowest_low (pred K.header.order) far, A.order_low) in
      let t = tree_theorem F L K R orders stored low k c d col dl in
      record {
        filling = t.filling;
        root = t.root;
        valid = t.valid;
        amount = far d;
        cost = t.cost;
        under = λ f v w x.
            let b = symbol_low f v in
            let u = (tree_theorem F L K R orders stored low k c (symbol f) col b).under f v refl w x in
            let m = lowest_under (pred K.header.order) far (symbol f) (omega arith) in
            omega arith;
        lowest = λ f v x.
            let b = symbol_low f v in
            let u = (tree_theorem F L K R orders stored low k c (symbol f) col b).under f v refl (far d) x in
            let m = lowest_under (pred K.header.order) far (symbol f) (omega arith) in
            lowest_lowest (pred K.header.order) far (symbol f) (omega arith) (omega arith);
      }

pub decided_once : (F : Tables) (K : View) (stored : ℕ → ℕ → ℕ) (k c d e : ℕ) → Decided F K stored k c d → Decided F K stored k c e → d ≡ e
decided_once F K stored k c d e x y =
    let same : y.amount ≡ x.amount =
    (let p = x.under y.filling y.valid y.amount y.cost in
    let q = y.under x.filling x.valid x.amount x.cost in omega arith) in
    let p : d ≤ symbol y.filling = x.lowest y.filling y.valid (subst (λ v. Cost F K stored k (at_column c) y.filling v) same y.cost) in
    let q : e ≤ symbol x.filling = y.lowest x.filling x.valid (subst (λ v. Cost F K stored k (at_column c) x.filling v) (sym same) x.cost) in
    omega (arith, x.root, y.root)

-- ---- the law
module _ (h : History) (area : List ℕ) (n : Numbers) (r : ℕ) (R : Ready h area n) (G : Going h area r) where
  abbrev K : View
  K = h.code

  abbrev F : Tables
  F = h.field

  abbrev P : Parts
  P = parts_of h.code area

  loaded : Loaded K h.stored
  loaded c a l m = R.low c a

  symbol_is : (c : ℕ) → c < K.header.columns → Decided F K h.stored h.rounds_made c (decided K P c)
  unfolding decided
  symbol_is c l =
      let same : decided K P c ≡ lowest_to (pred K.header.order) (distance F K h.stored r c) =
      lowest_same (pred K.header.order) (P.distances c) (distance F K h.stored r c) (λ b k. G.distances c b l (omega (arith, (facts K R.admitted).order_low))) in
      subst (λ k. Decided F K h.stored k c (decided K P c)) G.made
      (subst (λ x. Decided F K h.stored r c x) (sym same) (decided_is F R.lawful K R.admitted R.orders h.stored loaded r c l))

  told_right : (c : ℕ) → c < K.header.columns → ColumnRight h c (told K P c) (decided K P c)
  unfolding told tabled
  told_right c l = record {
    long = length-map-range_with_len (P.distances c) 0 K.header.order;
    cheapest = λ a m.
        let value : get_or (told K P c) a 0 ≡ distance F K h.stored r c a =
        get_or-map-range_with_len (P.distances c) 0 K.header.order a a 0 m (omega arith) ∙ G.distances c a l m in
        subst (λ k. Cheapest F K h.stored k c a (get_or (told K P c) a 0)) G.made
        (subst (λ x. Cheapest F K h.stored r c a x) (sym value) (tree_theorem F R.lawful K R.admitted R.orders h.stored loaded r c a l m));
    symbol = symbol_is c l;
  }

  t_order : eqb F.order K.header.order ≡ true
  t_order = eq-eqb F.order K.header.order R.orders

  t_numbers : same_numbers n (numbers_of K) ≡ true
  t_numbers = subst (λ x. same_numbers n x ≡ true) R.numbers (numbers_same n)

  t_area : leb (area_words K) (length area) ≡ true
  t_area = le-leb (area_words K) (length area) R.room

  reads_tell : (c size : ℕ) (ds : List ℕ) (d : ℕ) → outcome F K (reads c size) area (running n r) ≡ granted (column_told ds d) → ColumnRight h c ds d
  unfolding outcome
  reads_tell c size ds d g =
      let last : Outcome = granted (column_told (told K P c) (decided K P c)) in
      let x : Reply = column_told ds d in
      let w1 = want_is (same_numbers n (numbers_of K)) 19 (want_area K area (want_column K c (want_length size K.header.order last))) x g in
      let w2 = want_is (leb (area_words K) (length area)) 20 (want_column K c (want_length size K.header.order last)) x w1.1 in
      let w3 = want_is (ltb c K.header.columns) 21 (want_length size K.header.order last) x w2.1 in
      let w4 = want_is (eqb size K.header.order) 7 last x w3.1 in
      let e : granted (column_told (told K P c) (decided K P c)) ≡ granted (column_told ds d) = w4.1 in
      let p : told K P c ≡ ds = cc in
      let q : decided K P c ≡ d = cc in
      subst (λ y. ColumnRight h c ds y) q (subst (λ y. ColumnRight h c y (decided K P c)) p (told_right c (ltb-true c K.header.columns w3.0)))

  reads_grant : (c : ℕ) → c < K.header.columns → grants (outcome F K (reads c K.header.order) area (running n r)) ≡ true
  unfolding outcome
  reads_grant c l =
      let last : Outcome = granted (column_told (told K P c) (decided K P c)) in
      want_grants (same_numbers n (numbers_of K)) 19 (want_area K area (want_column K c (want_length K.header.order K.header.order last))) t_numbers
      (want_grants (leb (area_words K) (length area)) 20 (want_column K c (want_length K.header.order K.header.order last)) t_area
      (want_grants (ltb c K.header.columns) 21 (want_length K.header.order K.header.order last) (lt-ltb c K.header.columns l)
      (want_grants (eqb K.header.order K.header.order) 7 last (eq-eqb K.header.order K.header.order refl) refl)))

  agree : (s : ℕ → ℕ) → ((c : ℕ) → c < K.header.columns → Decided F K h.stored h.rounds_made c (s c)) → (x : ℕ) → row_sum F K s x ≡ row_sum F K (decided K P) x
  unfolding row_sum
  agree s d x =
      over_same F.sum 0 (width K) (λ e. eqb (row_of K e) x) (λ e. F.product (coefficient_of K e) (s (column_of K e))) (λ e. F.product (coefficient_of K e) (decided K P (column_of K e)))
      (λ e w t. ap (F.product (coefficient_of K e))
      (let l = (facts K R.admitted).column_below e w in
      decided_once F K h.stored h.rounds_made (column_of K e) (s (column_of K e)) (decided K P (column_of K e)) (d (column_of K e) l) (symbol_is (column_of K e) l)))

  concludes_grant : (s : ℕ → ℕ) → ((c : ℕ) → c < K.header.columns → Decided F K h.stored h.rounds_made c (s c)) →
      (grants (outcome F K (concludes K.header.columns) area (running n r)) ≡ true) ↔ EveryCheck F K s
  unfolding outcome
  concludes_grant s d = (there, back)
    where
      word : Outcome
      word = granted (word_told (word_of K P) r)

      last : Outcome
      last = want (eqb (failing F K (decided K P)) 0) 24 word

      N : ℕ
      N = K.header.columns

      there : grants (outcome F K (concludes N) area (running n r)) ≡ true → EveryCheck F K s
      there g x l =
          let w1 = grants_want (eqb F.order K.header.order) 18 (want_numbers K n (want_area K area (want_length N N last))) g in
          let w2 = grants_want (same_numbers n (numbers_of K)) 19 (want_area K area (want_length N N last)) w1.1 in
          let w3 = grants_want (leb (area_words K) (length area)) 20 (want_length N N last) w2.1 in
          let w4 = grants_want (eqb N N) 7 last w3.1 in
          let w5 = grants_want (eqb (failing F K (decided K P)) 0) 24 word w4.1 in
          agree s d x ∙ none_fails F K (decided K P) (eqb-true (failing F K (decided K P)) 0 w5.0) x l

      back : EveryCheck F K s → grants (outcome F K (concludes N) area (running n r)) ≡ true
      back c =
          let t : eqb (failing F K (decided K P)) 0 ≡ true = eq-eqb (failing F K (decided K P)) 0 (fails_none F K (decided K P) (λ x l. sym (agree s d x) ∙ c x l)) in
          want_grants (eqb F.order K.header.order) 18 (want_numbers K n (want_area K area (want_length N N last))) t_order
          (want_grants (same_numbers n (numbers_of K)) 19 (want_area K area (want_length N N last)) t_numbers
          (want_grants (leb (area_words K) (length area)) 20 (want_length N N last) t_area
          (want_grants (eqb N N) 7 last (eq-eqb N N refl) (want_grants (eqb (failing F K (decided K P)) 0) 24 word t refl))))

  concludes_tell : (size : ℕ) (word : List ℕ) (made : ℕ) → outcome F K (concludes size) area (running n r) ≡ granted (word_told word made) → (word_of K P ≡ word) × (r ≡ made)
  unfolding outcome
  concludes_tell size word made g =
      let own : Outcome = granted (word_told (word_of K P) r) in
      let last : Outcome = want (eqb (failing F K (decided K P)) 0) 24 own in
      let x : Reply = word_told word made in
      let w1 = want_is (eqb F.order K.header.order) 18 (want_numbers K n (want_area K area (want_length size K.header.columns last))) x g in
      let w2 = want_is (same_numbers n (numbers_of K)) 19 (want_area K area (want_length size K.header.columns last)) x w1.1 in
      let w3 = want_is (leb (area_words K) (length area)) 20 (want_length size K.header.columns last) x w2.1 in
      let w4 = want_is (eqb size K.header.columns) 7 last x w3.1 in
      let w5 = want_is (eqb (failing F K (decided K P)) 0) 24 own x w4.1 in
      let e : granted (word_told (word_of K P) r) ≡ granted (word_told word made) = w5.1 in
      let p : word_of K P ≡ word = cc in
      let q : r ≡ made = cc in
      (p, q)

  word_long : length (word_of K P) ≡ K.header.columns
  unfolding word_of tabled
  word_long = length-map-range_with_len (decided K P) 0 K.header.columns

  word_symbol : (c : ℕ) → c < K.header.columns → Decided F K h.stored h.rounds_made c (get_or (word_of K P) c 0)
  unfolding word_of tabled
  word_symbol c l = subst (λ d. Decided F K h.stored h.rounds_made c d) (sym (get_or-map-range_with_len (decided K P) 0 K.header.columns c c 0 l (omega arith))) (symbol_is c l)

  pub both : ReadsRight (record { area = area; slip = running n r }) h × ConcludesRight (record { area = area; slip = running n r }) h
  both = (
    record { tells = reads_tell; grant = reads_grant },
    record {
      some = λ c l. (decided K P c, symbol_is c l);
      once = decided_once F K h.stored h.rounds_made;
      grant = concludes_grant;
      long = λ size word made g. ap length (sym (concludes_tell size word made g).0) ∙ word_long;
      symbols = λ size word made g c l. subst (λ w. Decided F K h.stored h.rounds_made c (get_or w c 0)) (concludes_tell size word made g).0 (word_symbol c l);
      made = λ size word made g. sym (concludes_tell size word made g).1 ∙ G.made;
    },
  )

pub runs_theorem : RunsStand
unfolding Inv
runs_theorem f h run n r e =
    let i : Inv h f.area (running n r) = subst (λ s. Inv h f.area s) e (invariant run) in
    let b = both h f.area n r i.0 i.1 in
    subst (λ s. ReadsRight (record { area = f.area; slip = s }) h × ConcludesRight (record { area = f.area; slip = s }) h) (sym e) b
