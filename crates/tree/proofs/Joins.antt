-- A row's joins give its from-check costs. Assumes nothing.
use Rattle.std.proofs.Common.{◌≡◌, ℕ, zero, suc, pred, ◌+◌, ◌-◌, ◌<◌, ◌≤◌, max, Bool, true, false, cond, not, ◌&&◌, ◌||◌, eqb, sym, refl, ap, ◌∙◌, subst, ap₂, true≢false, arith}
use native.Mathlib.Decide.{dec_le}
use Rattle.tree.specs.Over.{over, greatest}
use Rattle.field.specs.Tables.{Tables}
use Rattle.tree.proofs.Laws.{Laws, laws_of}
use Rattle.code.specs.Views.{View}
use Rattle.tree.proofs.Facts.{Facts, facts}
use Rattle.tree.specs.Places.{width, row_of, coefficient_of, others}
use Rattle.tree.specs.Decoder.{from_check_cost}
use Rattle.tree.specs.Statement.{Within}
use Rattle.tree.specs.Join.{Joined, between, RowJoins, JoinsStand}
use Rattle.tree.proofs.Folds.{over_related, over_same, over_tests, eqb_same, eqb_is, eqb_not, below_suc}
use Rattle.tree.proofs.Best.{products, products_code, sum_zero, from_hit, from_under}

next_test : (i j x : ℕ) → i ≤ suc j → between i (suc j) x ≡ (between i j x || eqb x (suc j))
next_test i j x h = grind arith

first_test : (i j x : ℕ) → i ≤ j → between i j x ≡ (eqb x i || between (suc i) j x)
first_test i j x h = grind arith

one_test : (i x : ℕ) → between i i x ≡ eqb x i
one_test i x = grind arith

around_test : (i j e x : ℕ) → i < e → e < j → (between i j x && not (eqb x e)) ≡ (between i (pred e) x || between (suc e) j x)
around_test i j e x h k = grind arith

disjoint : (i j k l x : ℕ) → j < k → between i j x ≡ true → between k l x ≡ true → ⊥
disjoint i j k l x h p q = grind arith

first_out : (i j x : ℕ) → i < j → (between i j x && not (eqb x i)) ≡ between (suc i) j x
first_out i j x h = grind arith

last_out : (i j x : ℕ) → i < j → (between i j x && not (eqb x j)) ≡ between i (pred j) x
last_out i j x h = grind arith

in_between : (i j x : ℕ) → i ≤ x → x ≤ j → between i j x ≡ true
in_between i j x h k = grind arith

apart_next : (i j x : ℕ) → between i j x ≡ true → eqb x (suc j) ≡ true → ⊥
apart_next i j x p q = grind arith

apart_first : (i j x : ℕ) → eqb x i ≡ true → between (suc i) j x ≡ true → ⊥
apart_first i j x p q = grind arith

or_true : (a b : Bool) → b ≡ true → a || b ≡ true
or_true true b e = refl
or_true false b e = e

-- ---- folds over two tests that share no position
module _ (op : ℕ → ℕ → ℕ) (u : ℕ) (D : ℕ → Type 0) (du : D u) (closed : (a b : ℕ) → D a → D b → D (op a b))
    (assoc : (a b c : ℕ) → D a → D b → D c → op (op a b) c ≡ op a (op b c)) (comm : (a b : ℕ) → D a → D b → op a b ≡ op b a) (unit : (a : ℕ) → D a → op u a ≡ a) where
  over_in : (n : ℕ) (test : ℕ → Bool) (f : ℕ → ℕ) → ((x : ℕ) → x < n → test x ≡ true → D (f x)) → D (over op u n test f)
  over_in n test f h = over_related (λ a b. D a) op op u u du (λ a b c d p q. closed a b p q) n test f f h

  pub over_union : (n : ℕ) (one two : ℕ → Bool) (f : ℕ → ℕ) → ((x : ℕ) → x < n → one x ≡ true → D (f x)) → ((x : ℕ) → x < n → two x ≡ true → D (f x)) →
      ((x : ℕ) → x < n → one x ≡ true → two x ≡ true → ⊥) → over op u n (λ x. one x || two x) f ≡ op (over op u n one f) (over op u n two f)
  unfolding over
  over_union zero one two f p q apart = sym (unit u du)
  over_union (suc n) one two f p q apart =
      go (over_union n one two f (λ x l. p x (omega arith)) (λ x l. q x (omega arith)) (λ x l. apart x (omega arith))) (one n) refl (two n) refl
    where
      A : ℕ
      A = over op u n one f

      B : ℕ
      B = over op u n two f

      U : ℕ
      U = over op u n (λ x. one x || two x) f

      da : D A
      da = over_in n one f (λ x l. p x (omega arith))

      db : D B
      db = over_in n two f (λ x l. q x (omega arith))

      go : U ≡ op A B → (s : Bool) → one n ≡ s → (t : Bool) → two n ≡ t → cond (s || t) (op (f n) U) U ≡ op (cond s (op (f n) A) A) (cond t (op (f n) B) B)
      go ih true e true g = absurd (apart n (omega arith) e g)
      go ih true e false g = ap (op (f n)) ih ∙ sym (assoc (f n) A B (p n (omega arith) e) da db)
      go ih false e true g =
          let df = q n (omega arith) g in
          ap (op (f n)) ih ∙ sym (assoc (f n) A B df da db) ∙ ap (λ y. op y B) (comm (f n) A df da) ∙ assoc A (f n) B da df db
      go ih false e false g = ih

over_none : (op : ℕ → ℕ → ℕ) (u n e : ℕ) (f : ℕ → ℕ) → n ≤ e → over op u n (λ x. eqb x e) f ≡ u
unfolding over
over_none op u zero e f h = refl
over_none op u (suc n) e f h = rw (eqb_not n e (omega arith)) (over_none op u n e f (omega arith))

pub over_one : (op : ℕ → ℕ → ℕ) (u n e : ℕ) (f : ℕ → ℕ) → e < n → over op u n (λ x. eqb x e) f ≡ op (f e) u
unfolding over
over_one op u zero e f h = absurd (let z : ⊥ = omega arith in z)
over_one op u (suc n) e f h = go (λ k. over_one op u n e f k) (eqb n e) refl
  where
    go : (e < n → over op u n (λ x. eqb x e) f ≡ op (f e) u) → (b : Bool) → eqb n e ≡ b → cond b (op (f n) (over op u n (λ x. eqb x e) f)) (over op u n (λ x. eqb x e) f) ≡ op (f e) u
    go ih true t = let s : n ≡ e = eqb_is n e t in ap₂ (λ y z. op (f y) z) s (over_none op u n e f (omega arith))
    go ih false t = ih (below t)
      where
        below : eqb n e ≡ false → e < n
        below b = below_suc (λ y. y ≡ e → e < n) n (λ y k s. omega arith) (λ s. absurd (true≢false (sym (eqb_same n) ∙ ap (eqb n) s ∙ b))) e h refl

-- ---- vectors that tell the least over some edges
module _ (F : Tables) (K : View) (L : Laws F K.header.order) (A : Facts K) (costs : ℕ → ℕ → ℕ) where
  record Symbols (test : ℕ → Bool) (t v : ℕ) : Type 0 where
    at : ℕ → ℕ
    codes : (x : ℕ) → x < width K → test x ≡ true → at x < K.header.order
    sums : products F K (width K) test at ≡ t
    is : greatest (width K) test (λ x. costs x (at x)) ≡ v

  record Tells (test : ℕ → Bool) (v : ℕ → ℕ) : Type 0 where
    hit : (t : ℕ) → t < K.header.order → Symbols test t (v t)
    under : (s : ℕ → ℕ) → ((x : ℕ) → x < width K → test x ≡ true → s x < K.header.order) → v (products F K (width K) test s) ≤ greatest (width K) test (λ x. costs x (s x))

  tells_same : (test tset : ℕ → Bool) (v : ℕ → ℕ) → ((x : ℕ) → x < width K → test x ≡ tset x) → Tells test v → Tells tset v
  unfolding products
  tells_same test tset v h T = record {
    hit = λ t l. let S = T.hit t l in record {
      at = S.at;
      codes = λ x k e. S.codes x k (h x k ∙ e);
      sums = sym (over_tests F.sum 0 (width K) test tset (λ x. F.product (coefficient_of K x) (S.at x)) h) ∙ S.sums;
      is = sym (over_tests max 0 (width K) test tset (λ x. costs x (S.at x)) h) ∙ S.is;
    };
    under = λ s c.
        let p = over_tests F.sum 0 (width K) test tset (λ x. F.product (coefficient_of K x) (s x)) h in
        let g = over_tests max 0 (width K) test tset (λ x. costs x (s x)) h in
        subst (λ y. v y ≤ greatest (width K) tset (λ x. costs x (s x))) p (subst (λ y. v (products F K (width K) test s) ≤ y) g (T.under s (λ x k e. c x k (sym (h x k) ∙ e))));
  }

  -- one edge
  tells_one : (e : ℕ) (v : ℕ → ℕ) → e < width K → ((a : ℕ) → a < K.header.order → v (F.product (coefficient_of K e) a) ≡ costs e a) → Tells (λ x. eqb x e) v
  unfolding products
  tells_one e v h placed = record { hit = hit; under = under }
    where
      c : ℕ
      c = coefficient_of K e

      cl : c < K.header.order
      cl = A.coefficient_high e h

      sums : (s : ℕ → ℕ) → s e < K.header.order → over F.sum 0 (width K) (λ x. eqb x e) (λ x. F.product (coefficient_of K x) (s x)) ≡ F.product c (s e)
      sums s l = over_one F.sum 0 (width K) e (λ x. F.product (coefficient_of K x) (s x)) h ∙ sum_zero F K L (F.product c (s e)) (L.product_code c (s e) cl l)

      most : (s : ℕ → ℕ) → greatest (width K) (λ x. eqb x e) (λ x. costs x (s x)) ≡ costs e (s e)
      most s = over_one max 0 (width K) e (λ x. costs x (s x)) h ∙ (let z : max (costs e (s e)) 0 ≡ costs e (s e) = omega arith in z)

      hit : (t : ℕ) → t < K.header.order → Symbols (λ x. eqb x e) t (v t)
      hit t l =
          let w = L.inverse c cl (A.coefficient_low e h) in
          let a : ℕ = F.product w.0 t in
          let al : a < K.header.order = L.product_code w.0 t w.1 l in
          let back : F.product c a ≡ t = sym (L.product_assoc c w.0 t cl w.1 l) ∙ ap (λ y. F.product y t) w.2 ∙ L.one_product t l in
          record { at = λ x. a; codes = λ x k t. al; sums = sums (λ x. a) al ∙ back; is = most (λ x. a) ∙ sym (placed a al) ∙ ap v back }

      under : (s : ℕ → ℕ) → ((x : ℕ) → x < width K → eqb x e ≡ true → s x < K.header.order) → v (over F.sum 0 (width K) (λ x. eqb x e) (λ x. F.product (coefficient_of K x) (s x))) ≤ greatest (width K) (λ x. eqb x e) (λ x. costs x (s x))
      under s cs =
          let l = cs e h (eqb_same e) in
          let p : v (over F.sum 0 (width K) (λ x. eqb x e) (λ x. F.product (coefficient_of K x) (s x))) ≡ costs e (s e) = ap v (sums s l) ∙ placed (s e) l in
          omega (arith, most s)

  -- a join
  tells_join : (one two : ℕ → Bool) (left right third : ℕ → ℕ) → ((x : ℕ) → x < width K → one x ≡ true → two x ≡ true → ⊥) →
      Tells one left → Tells two right → Joined F K.header.order left right third → Tells (λ x. one x || two x) third
  unfolding products
  tells_join one two left right third apart T S J = record { hit = hit; under = under }
    where
      W : ℕ
      W = width K

      both : ℕ → Bool
      both x = one x || two x

      term : (ℕ → ℕ) → ℕ → ℕ
      term s x = F.product (coefficient_of K x) (s x)

      sums : (s : ℕ → ℕ) → ((x : ℕ) → x < W → one x ≡ true → s x < K.header.order) → ((x : ℕ) → x < W → two x ≡ true → s x < K.header.order) →
          over F.sum 0 W both (term s) ≡ F.sum (over F.sum 0 W one (term s)) (over F.sum 0 W two (term s))
      sums s p q = over_union F.sum 0 (λ a. a < K.header.order) (omega (arith, L.two)) (λ a b. L.sum_code a b) (λ a b c. L.sum_assoc a b c) (λ a b. L.sum_comm a b) (λ a. L.zero_sum a)
          W one two (term s)
          (λ x l t. L.product_code (coefficient_of K x) (s x) (A.coefficient_high x l) (p x l t))
          (λ x l t. L.product_code (coefficient_of K x) (s x) (A.coefficient_high x l) (q x l t)) apart

      most : (g : ℕ → ℕ) → greatest W both g ≡ max (greatest W one g) (greatest W two g)
      most g = over_union max 0 (λ a. Unit {0}) tt (λ a b p q. tt) (λ a b c p q r. omega arith) (λ a b p q. omega arith) (λ a p. omega arith) W one two g (λ x l t. tt) (λ x l t. tt) apart

      from_left : (x : ℕ) → one x ≡ true → both x ≡ true
      from_left x t = rw t

      from_right : (x : ℕ) → two x ≡ true → both x ≡ true
      from_right x t = or_true (one x) (two x) t

      hit : (t : ℕ) → t < K.header.order → Symbols both t (third t)
      hit t l = record {
        at = at;
        codes = codes;
        sums = sums at low_one low_two ∙ ap₂ F.sum (same_one ∙ a.sums) (same_two ∙ b.sums) ∙ j.4;
        is = most (λ x. costs x (at x)) ∙ ap₂ max (cost_one ∙ a.is) (cost_two ∙ b.is) ∙ j.5;
      }
        where
          j : (b c : ℕ) × (b < K.header.order) × (c < K.header.order) × (F.sum b c ≡ t) × (max (left b) (right c) ≡ third t)
          j = J.reached t l

          a : Symbols one j.0 (left j.0)
          a = T.hit j.0 j.2

          b : Symbols two j.1 (right j.1)
          b = S.hit j.1 j.3

          at : ℕ → ℕ
          at x = cond (one x) (a.at x) (b.at x)

          at_one : (x : ℕ) → one x ≡ true → at x ≡ a.at x
          at_one x t = rw t

          at_two : (x : ℕ) → x < W → two x ≡ true → at x ≡ b.at x
          at_two x k t = go (one x) refl
            where
              go : (s : Bool) → one x ≡ s → cond s (a.at x) (b.at x) ≡ b.at x
              go true e = absurd (apart x k e t)
              go false e = refl

          low_one : (x : ℕ) → x < W → one x ≡ true → at x < K.header.order
          low_one x k t = subst (λ y. y < K.header.order) (sym (at_one x t)) (a.codes x k t)

          low_two : (x : ℕ) → x < W → two x ≡ true → at x < K.header.order
          low_two x k t = subst (λ y. y < K.header.order) (sym (at_two x k t)) (b.codes x k t)

          codes : (x : ℕ) → x < W → both x ≡ true → at x < K.header.order
          codes x k t = go (one x) refl
            where
              go : (s : Bool) → one x ≡ s → at x < K.header.order
              go true e = low_one x k e
              go false e = low_two x k (sym (ap (λ y. y || two x) e) ∙ t)

          same_one : over F.sum 0 W one (term at) ≡ over F.sum 0 W one (term a.at)
          same_one = over_same F.sum 0 W one (term at) (term a.at) (λ x k t. ap (F.product (coefficient_of K x)) (at_one x t))

          same_two : over F.sum 0 W two (term at) ≡ over F.sum 0 W two (term b.at)
          same_two = over_same F.sum 0 W two (term at) (term b.at) (λ x k t. ap (F.product (coefficient_of K x)) (at_two x k t))

          cost_one : greatest W one (λ x. costs x (at x)) ≡ greatest W one (λ x. costs x (a.at x))
          cost_one = over_same max 0 W one (λ x. costs x (at x)) (λ x. costs x (a.at x)) (λ x k t. ap (costs x) (at_one x t))

          cost_two : greatest W two (λ x. costs x (at x)) ≡ greatest W two (λ x. costs x (b.at x))
          cost_two = over_same max 0 W two (λ x. costs x (at x)) (λ x. costs x (b.at x)) (λ x k t. ap (costs x) (at_two x k t))

      under : (s : ℕ → ℕ) → ((x : ℕ) → x < W → both x ≡ true → s x < K.header.order) → third (over F.sum 0 W both (term s)) ≤ greatest W both (λ x. costs x (s x))
      under s c =
          let p : (x : ℕ) → x < W → one x ≡ true → s x < K.header.order = λ x k t. c x k (from_left x t) in
          let q : (x : ℕ) → x < W → two x ≡ true → s x < K.header.order = λ x k t. c x k (from_right x t) in
          let x1 = T.under s p in
          let x2 = S.under s q in
          let m = most (λ x. costs x (s x)) in
          let u : third (F.sum (over F.sum 0 W one (term s)) (over F.sum 0 W two (term s))) ≤ max (left (over F.sum 0 W one (term s))) (right (over F.sum 0 W two (term s))) =
          J.under (over F.sum 0 W one (term s)) (over F.sum 0 W two (term s)) (products_code F K L A W one s (omega arith) p) (products_code F K L A W two s (omega arith) q) in
          subst (λ y. third y ≤ greatest W both (λ x. costs x (s x))) (sym (sums s p q)) (omega arith)

  -- what tells the row's other edges tells the from-check cost
  tells_from : Within K costs → (e a o : ℕ) (v : ℕ → ℕ) → e < width K → a < K.header.order → o < K.header.order → F.sum (F.product (coefficient_of K e) a) o ≡ 0 →
      Tells (others K e) v → v o ≡ from_check_cost F K costs e a
  unfolding products
  tells_from low e a o v h l k z T =
      let x : ℕ = F.product (coefficient_of K e) a in
      let xl : x < K.header.order = L.product_code (coefficient_of K e) a (A.coefficient_high e h) l in
      let S = T.hit o k in
      let one : from_check_cost F K costs e a ≤ greatest (width K) (others K e) (λ x. costs x (S.at x)) =
      from_under F K L A costs e a h l S.at (λ y w. S.codes y w.within w.passes) (ap (F.sum x) S.sums ∙ z) in
      let H = from_hit F K L A costs low e a h l in
      let p : ℕ = products F K (width K) (others K e) H.at in
      let pl : p < K.header.order = products_code F K L A (width K) (others K e) H.at (omega arith) H.codes in
      let same : p ≡ o =
      sym (sum_zero F K L p pl) ∙ ap (F.sum p) (sym z) ∙ sym (L.sum_assoc p x o pl xl k) ∙ ap (λ y. F.sum y o) (L.sum_comm p x pl xl ∙ H.fits) ∙ L.zero_sum o k in
      let two : v o ≤ greatest (width K) (others K e) (λ x. costs x (H.at x)) =
      subst (λ y. v y ≤ greatest (width K) (others K e) (λ x. costs x (H.at x))) same (T.under H.at H.codes) in
      omega (arith, S.is, H.is)

  -- the joins from either end
  module _ (r first last : ℕ) (P forth back around : ℕ → ℕ → ℕ) (J : RowJoins F K costs r first last P forth back around) where
    tells_P : (x : ℕ) → first ≤ x → x ≤ last → Tells (λ y. eqb y x) (P x)
    tells_P x h k = tells_one x (P x) (omega (arith, J.fits)) (λ a l. J.placed x a h k l)

    tells_forth : (m : ℕ) → first + m < last → Tells (between first (first + m)) (forth (first + m))
    tells_forth zero h =
        let e : first ≡ first + 0 = omega arith in
        subst (λ y. Tells (between first y) (forth y)) e
        (subst (λ v. Tells (between first first) v) (sym J.forth_first) (tells_same (λ y. eqb y first) (between first first) (P first) (λ x l. sym (one_test first x)) (tells_P first (omega arith) (omega (arith, J.two)))))
    tells_forth (suc m) h =
        let e : suc (first + m) ≡ first + suc m = omega arith in
        subst (λ y. Tells (between first y) (forth y)) e
        (tells_same (λ x. between first (first + m) x || eqb x (suc (first + m))) (between first (suc (first + m))) (forth (suc (first + m))) (λ x l. sym (next_test first (first + m) x (omega arith)))
        (tells_join (between first (first + m)) (λ x. eqb x (suc (first + m))) (forth (first + m)) (P (suc (first + m))) (forth (suc (first + m))) (λ x l p q. apart_next first (first + m) x p q)
        (tells_forth m (omega arith)) (tells_P (suc (first + m)) (omega arith) (omega arith)) (J.forth_next (first + m) (omega arith) (omega arith))))

    tells_back : (m x : ℕ) → x + m ≡ last → first < x → Tells (between x last) (back x)
    tells_back zero x e h =
        let s : last ≡ x = omega arith in
        subst (λ y. Tells (between y last) (back y)) s
        (subst (λ v. Tells (between last last) v) (sym J.back_last) (tells_same (λ y. eqb y last) (between last last) (P last) (λ x l. sym (one_test last x)) (tells_P last (omega (arith, J.two)) (omega arith))))
    tells_back (suc m) x e h =
        tells_same (λ y. eqb y x || between (suc x) last y) (between x last) (back x) (λ y l. sym (first_test x last y (omega arith)))
        (tells_join (λ y. eqb y x) (between (suc x) last) (P x) (back (suc x)) (back x) (λ y l p q. apart_first x last y p q)
        (tells_P x (omega arith) (omega arith)) (tells_back m (suc x) (omega arith) (omega arith)) (J.back_next x h (omega arith)))

    forth_at : (x : ℕ) → first ≤ x → x < last → Tells (between first x) (forth x)
    forth_at x h k = subst (λ y. Tells (between first y) (forth y)) (let e : first + (x - first) ≡ x = omega arith in e) (tells_forth (x - first) (omega arith))

    back_at : (x : ℕ) → first < x → x ≤ last → Tells (between x last) (back x)
    back_at x h k = tells_back (last - x) x (omega arith) h

    tells_around : (e : ℕ) → first ≤ e → e ≤ last → Tells (λ x. between first last x && not (eqb x e)) (around e)
    tells_around e h k = go (dec_le e first) (dec_le last e)
      where
        two : first < last
        two = J.two

        go : Dec (e ≤ first) → Dec (last ≤ e) → Tells (λ x. between first last x && not (eqb x e)) (around e)
        go (yes s) t =
            subst (λ y. Tells (λ x. between first last x && not (eqb x y)) (around y)) (let q : first ≡ e = omega arith in q)
            (subst (λ v. Tells (λ x. between first last x && not (eqb x first)) v) (sym J.around_first)
            (tells_same (between (suc first) last) (λ x. between first last x && not (eqb x first)) (back (suc first)) (λ x l. sym (first_out first last x two)) (back_at (suc first) (omega arith) (omega arith))))
        go (no s) (yes t) =
            subst (λ y. Tells (λ x. between first last x && not (eqb x y)) (around y)) (let q : last ≡ e = omega arith in q)
            (subst (λ v. Tells (λ x. between first last x && not (eqb x last)) v) (sym J.around_last)
            (tells_same (between first (pred last)) (λ x. between first last x && not (eqb x last)) (forth (pred last)) (λ x l. sym (last_out first last x two)) (forth_at (pred last) (omega arith) (omega arith))))
        go (no s) (no t) =
            tells_same (λ x. between first (pred e) x || between (suc e) last x) (λ x. between first last x && not (eqb x e)) (around e) (λ x l. sym (around_test first last e x (omega arith) (omega arith)))
            (tells_join (between first (pred e)) (between (suc e) last) (forth (pred e)) (back (suc e)) (around e) (λ x l p q. disjoint first (pred e) (suc e) last x (omega arith) p q)
            (forth_at (pred e) (omega arith) (omega arith)) (back_at (suc e) (omega arith) (omega arith)) (J.around_between e (omega arith) (omega arith)))

    row_others : (e x : ℕ) → first ≤ e → e ≤ last → x < width K → (between first last x && not (eqb x e)) ≡ others K e x
    unfolding others
    row_others e x h k l =
        let s : row_of K e ≡ r = eqb_is (row_of K e) r (J.edges e (omega (arith, J.fits)) ∙ in_between first last e h k) in
        ap (λ b. b && not (eqb x e)) (sym (J.edges x l) ∙ ap (eqb (row_of K x)) (sym s))

pub joins_theorem : JoinsStand
joins_theorem F L K R orders costs low r first last P forth back around J e a o h k l m z =
    let M = laws_of F L K.header.order orders in
    let A = facts K R in
    tells_from F K M A costs low e a o (around e) (omega (arith, J.fits)) l m z
    (tells_same F K M A costs (λ x. between first last x && not (eqb x e)) (others K e) (around e) (λ x w. row_others F K M A costs r first last P forth back around J e x h k w)
    (tells_around F K M A costs r first last P forth back around J e h k))
