-- What `best` is: the least over the symbols that satisfy the check. Assumes nothing.
use Rattle.std.proofs.Common.{◌≡◌, ℕ, zero, suc, pred, ◌<◌, ◌≤◌, max, Bool, true, false, cond, eqb, ◌⊎◌, sym, refl, ap, ◌∙◌, ap₂, inl, inr, ⊎_elim, true≢false, arith}
use Rattle.tree.specs.Over.{over, greatest, least_to}
use Rattle.field.specs.Tables.{Tables}
use Rattle.tree.proofs.Laws.{Laws}
use Rattle.code.specs.Views.{View}
use Rattle.tree.proofs.Facts.{Facts}
use Rattle.tree.specs.Places.{width, coefficient_of, row_of, others, Other}
use Rattle.tree.specs.Tree.{Satisfied}
use Rattle.tree.specs.Decoder.{best, from_check_cost}
use Rattle.tree.specs.Statement.{Within}
use Rattle.tree.proofs.Folds.{over_related, over_same, greatest_within, least_reached, least_under, update, update_same, update_below, counted, count_others, eqb_is, below_suc}

-- the products' sum
unfoldable pub products : Tables → View → ℕ → (ℕ → Bool) → (ℕ → ℕ) → ℕ
products F K n test s = over F.sum 0 n test (λ x. F.product (coefficient_of K x) (s x))

module _ (F : Tables) (K : View) (L : Laws F K.header.order) where
  pub sum_zero : (a : ℕ) → a < K.header.order → F.sum a 0 ≡ a
  sum_zero a h = L.sum_comm a 0 h (omega (arith, L.two)) ∙ L.zero_sum a h

  module _ (A : Facts K) where
    Codes : ℕ → (ℕ → Bool) → (ℕ → ℕ) → Type 0
    Codes n test s = (x : ℕ) → x < n → test x ≡ true → s x < K.header.order

    pub products_code : (n : ℕ) (test : ℕ → Bool) (s : ℕ → ℕ) → n ≤ width K → ((x : ℕ) → x < n → test x ≡ true → s x < K.header.order) → products F K n test s < K.header.order
    unfolding products
    products_code n test s w h =
        over_related (λ a b. a < K.header.order) F.sum F.sum 0 0 (omega (arith, L.two)) (λ a b c d p q. L.sum_code a b p q) n test
        (λ x. F.product (coefficient_of K x) (s x)) (λ x. 0)
        (λ x l t. L.product_code (coefficient_of K x) (s x) (A.coefficient_high x (omega arith)) (h x l t))

    module _ (costs : ℕ → ℕ → ℕ) where
      -- no symbols do better
      pub best_under : (n : ℕ) (test : ℕ → Bool) (sofar : ℕ) (s : ℕ → ℕ) → n ≤ width K → sofar < K.header.order →
          ((x : ℕ) → x < n → test x ≡ true → s x < K.header.order) → F.sum sofar (products F K n test s) ≡ 0 →
          best F K costs n test sofar ≤ greatest n test (λ x. costs x (s x))
      unfolding best products over
      best_under zero test sofar s w l h e =
          let z : sofar ≡ 0 = sym (sum_zero sofar l) ∙ e in
          rw z (omega arith)
      best_under (suc n) test sofar s w l h e =
          go (λ t k g. best_under n test t s (omega arith) k (λ x b. h x (omega arith)) g) (test n) refl e
        where
          S : ℕ
          S = over F.sum 0 n test (λ x. F.product (coefficient_of K x) (s x))

          here : ℕ
          here = F.product (coefficient_of K n) (s n)

          G : ℕ
          G = greatest n test (λ x. costs x (s x))

          go : ((t : ℕ) → t < K.header.order → F.sum t S ≡ 0 → best F K costs n test t ≤ G) →
              (b : Bool) → test n ≡ b → F.sum sofar (cond b (F.sum here S) S) ≡ 0 →
              cond b (least_to (pred K.header.order) (λ b. max (costs n b) (best F K costs n test (F.sum sofar (F.product (coefficient_of K n) b))))) (best F K costs n test sofar)
              ≤ cond b (max (costs n (s n)) G) G
          go ih true t g =
              let sn : s n < K.header.order = h n (omega arith) t in
              let hc : here < K.header.order = L.product_code (coefficient_of K n) (s n) (A.coefficient_high n (omega arith)) sn in
              let Sc : S < K.header.order = products_code n test s (omega arith) (λ x b. h x (omega arith)) in
              let i1 : best F K costs n test (F.sum sofar here) ≤ G = ih (F.sum sofar here) (L.sum_code sofar here l hc) (L.sum_assoc sofar here S l hc Sc ∙ g) in
              let i2 : least_to (pred K.header.order) (λ b. max (costs n b) (best F K costs n test (F.sum sofar (F.product (coefficient_of K n) b)))) ≤ max (costs n (s n)) (best F K costs n test (F.sum sofar here)) =
              least_under (pred K.header.order) (λ b. max (costs n b) (best F K costs n test (F.sum sofar (F.product (coefficient_of K n) b)))) (s n) (omega arith) in
              omega arith
          go ih false t g = ih sofar l g

      -- symbols that it is the cost of
      pub record Hit (n : ℕ) (test : ℕ → Bool) (sofar v : ℕ) : Type 0 where
        pub at : ℕ → ℕ
        pub codes : (x : ℕ) → x < n → test x ≡ true → at x < K.header.order
        pub fits : F.sum sofar (products F K n test at) ≡ 0
        pub is : greatest n test (λ x. costs x (at x)) ≡ v

      module _ (low : Within K costs) where
        pub best_hit : (n : ℕ) (test : ℕ → Bool) (sofar : ℕ) → n ≤ width K → sofar < K.header.order →
            (best F K costs n test sofar ≡ suc K.header.ceiling) ⊎ Hit n test sofar (best F K costs n test sofar)
        unfolding best products over
        best_hit zero test sofar w l = go (eqb sofar 0) refl
          where
            go : (b : Bool) → eqb sofar 0 ≡ b → (cond b 0 (suc K.header.ceiling) ≡ suc K.header.ceiling) ⊎ Hit zero test sofar (cond b 0 (suc K.header.ceiling))
            go true e = inr (record { at = λ x. 0; codes = λ x h t. omega (arith, L.two); fits = sum_zero sofar l ∙ eqb_is sofar 0 e; is = refl })
            go false e = inl refl
        best_hit (suc n) test sofar w l = go (λ t k. best_hit n test t (omega arith) k) (test n) refl
          where
            value : ℕ → ℕ
            value b = max (costs n b) (best F K costs n test (F.sum sofar (F.product (coefficient_of K n) b)))

            go : ((t : ℕ) → t < K.header.order → (best F K costs n test t ≡ suc K.header.ceiling) ⊎ Hit n test t (best F K costs n test t)) →
                (b : Bool) → test n ≡ b →
                (cond b (least_to (pred K.header.order) value) (best F K costs n test sofar) ≡ suc K.header.ceiling) ⊎
                Hit (suc n) test sofar (cond b (least_to (pred K.header.order) value) (best F K costs n test sofar))
            go ih true t = with_least (least_reached (pred K.header.order) value)
              where
                with_least : (b : ℕ) × (b ≤ pred K.header.order) × (value b ≡ least_to (pred K.header.order) value) →
                    (least_to (pred K.header.order) value ≡ suc K.header.ceiling) ⊎ Hit (suc n) test sofar (least_to (pred K.header.order) value)
                with_least r = finish (ih onward onward_code)
                  where
                    b : ℕ
                    b = r.0

                    b_code : b < K.header.order
                    b_code = omega (arith, r.1, L.two)

                    term : ℕ
                    term = F.product (coefficient_of K n) b

                    term_code : term < K.header.order
                    term_code = L.product_code (coefficient_of K n) b (A.coefficient_high n (omega arith)) b_code

                    onward : ℕ
                    onward = F.sum sofar term

                    onward_code : onward < K.header.order
                    onward_code = L.sum_code sofar term l term_code

                    finish : (best F K costs n test onward ≡ suc K.header.ceiling) ⊎ Hit n test onward (best F K costs n test onward) →
                        (least_to (pred K.header.order) value ≡ suc K.header.ceiling) ⊎ Hit (suc n) test sofar (least_to (pred K.header.order) value)
                    finish (inl e) = inl (omega (arith, r.2, low n b (omega arith) b_code))
                    finish (inr i) = inr (record { at = now; codes = now_codes; fits = now_fits; is = now_is })
                      where
                        now : ℕ → ℕ
                        now = update i.at n b

                        now_codes : (x : ℕ) → x < suc n → test x ≡ true → now x < K.header.order
                        now_codes = below_suc (λ x. test x ≡ true → now x < K.header.order) n (λ x h tx. rw (update_below i.at n b x h) (i.codes x h tx)) (λ tx. rw (update_same i.at n b) b_code)

                        now_fits : F.sum sofar (products F K (suc n) test now) ≡ 0
                        now_fits =
                            let same : over F.sum 0 n test (λ x. F.product (coefficient_of K x) (now x)) ≡ over F.sum 0 n test (λ x. F.product (coefficient_of K x) (i.at x)) =
                            over_same F.sum 0 n test (λ x. F.product (coefficient_of K x) (now x)) (λ x. F.product (coefficient_of K x) (i.at x))
                            (λ x h _. ap (F.product (coefficient_of K x)) (update_below i.at n b x h)) in
                            let sc : products F K n test i.at < K.header.order = products_code n test i.at (omega arith) i.codes in
                            rw (t, update_same i.at n b, same) (sym (L.sum_assoc sofar term (products F K n test i.at) l term_code sc) ∙ i.fits)

                        now_is : greatest (suc n) test (λ x. costs x (now x)) ≡ least_to (pred K.header.order) value
                        now_is =
                            let same : over max 0 n test (λ x. costs x (now x)) ≡ over max 0 n test (λ x. costs x (i.at x)) =
                            over_same max 0 n test (λ x. costs x (now x)) (λ x. costs x (i.at x)) (λ x h _. ap (costs x) (update_below i.at n b x h)) in
                            rw (t, update_same i.at n b, same) (ap (max (costs n b)) i.is ∙ r.2)
            go ih false t = ⊎_elim (λ e. inl e) (λ i. inr (record {
              at = i.at;
              codes = below_suc (λ x. test x ≡ true → i.at x < K.header.order) n i.codes (λ tx. let z : ◌≡◌ {A = Bool} true false = sym tx ∙ t in absurd (true≢false z));
              fits = rw t i.fits;
              is = rw t i.is;
            })) (ih sofar l)

      -- symbols that fit, where an edge passes
      pub reach : (n : ℕ) (test : ℕ → Bool) (sofar : ℕ) → n ≤ width K → sofar < K.header.order → (x : ℕ) → x < n → test x ≡ true →
          (s : ℕ → ℕ) × ((x : ℕ) → x < n → test x ≡ true → s x < K.header.order) × (F.sum sofar (products F K n test s) ≡ 0)
      unfolding products over
      reach zero test sofar w l x h t = absurd (let z : ⊥ = omega arith in z)
      reach (suc n) test sofar w l x h t = go (λ y. reach n test sofar (omega arith) l x y t) (test n) refl
        where
          go : (x < n → (s : ℕ → ℕ) × ((x : ℕ) → x < n → test x ≡ true → s x < K.header.order) × (F.sum sofar (over F.sum 0 n test (λ x. F.product (coefficient_of K x) (s x))) ≡ 0)) →
              (b : Bool) → test n ≡ b →
              (s : ℕ → ℕ) × ((x : ℕ) → x < suc n → test x ≡ true → s x < K.header.order) ×
              (F.sum sofar (cond b (F.sum (F.product (coefficient_of K n) (s n)) (over F.sum 0 n test (λ x. F.product (coefficient_of K x) (s x)))) (over F.sum 0 n test (λ x. F.product (coefficient_of K x) (s x)))) ≡ 0)
          go ih true tn =
              let start : ℕ → ℕ = λ x. 0 in
              let zc : 0 < K.header.order = omega (arith, L.two) in
              let S : ℕ = products F K n test start in
              let Sc : S < K.header.order = products_code n test start (omega arith) (λ x h t. zc) in
              let c : ℕ = coefficient_of K n in
              let cc' : c < K.header.order = A.coefficient_high n (omega arith) in
              let o = L.opposite (F.sum sofar S) (L.sum_code sofar S l Sc) in
              let v = L.inverse c cc' (A.coefficient_low n (omega arith)) in
              let b : ℕ = F.product v.0 o.0 in
              let bc : b < K.header.order = L.product_code v.0 o.0 v.1 o.1 in
              let now : ℕ → ℕ = update start n b in
              let same : over F.sum 0 n test (λ x. F.product (coefficient_of K x) (now x)) ≡ S =
              over_same F.sum 0 n test (λ x. F.product (coefficient_of K x) (now x)) (λ x. F.product (coefficient_of K x) (start x))
              (λ x h _. ap (F.product (coefficient_of K x)) (update_below start n b x h)) in
              let term : F.product c (now n) ≡ o.0 =
              ap (F.product c) (update_same start n b) ∙ sym (L.product_assoc c v.0 o.0 cc' v.1 o.1) ∙ ap (λ y. F.product y o.0) v.2 ∙ L.one_product o.0 o.1 in (
                now,
                below_suc (λ x. test x ≡ true → now x < K.header.order) n (λ x h tx. rw (update_below start n b x h) zc) (λ tx. rw (update_same start n b) bc),
                ap₂ (λ y z. F.sum sofar (F.sum y z)) term same ∙ ap (F.sum sofar) (L.sum_comm o.0 S o.1 Sc) ∙ sym (L.sum_assoc sofar S o.0 l Sc o.1) ∙ o.2,
              )
          go ih false tn =
              let y : x < n = below_not tn in
              let r = ih y in
              (r.0, below_suc (λ x. test x ≡ true → r.0 x < K.header.order) n r.1 (λ tx. absurd (true≢false (sym tx ∙ tn))), r.2)
            where
              below_not : test n ≡ false → x < n
              below_not f = below_suc (λ y. test y ≡ true → y ≡ x → x < n) n (λ y k _ e. omega arith) (λ tx e. absurd (true≢false (sym tx ∙ f))) x h t refl

      -- an edge's row has another edge
      pub another : (e : ℕ) → e < width K → (x : ℕ) × (x < width K) × (others K e x ≡ true)
      unfolding others
      another e h =
          counted (width K) (others K e)
          (omega (arith, A.row_low (row_of K e) (A.row_below e h), count_others (width K) (λ x. eqb (row_of K x) (row_of K e)) e))

      -- the from-check cost is the least, over symbols for the row's other edges that satisfy the check with a, of the greatest of their costs
      pub from_hit : Within K costs → (e a : ℕ) → e < width K → a < K.header.order →
          Hit (width K) (others K e) (F.product (coefficient_of K e) a) (from_check_cost F K costs e a)
      unfolding from_check_cost
      from_hit low e a h l = ⊎_elim (λ z. absurd (not_top z)) (λ i. i) (best_hit low (width K) (others K e) sofar (omega arith) sofar_code)
        where
          sofar : ℕ
          sofar = F.product (coefficient_of K e) a

          sofar_code : sofar < K.header.order
          sofar_code = L.product_code (coefficient_of K e) a (A.coefficient_high e h) l

          not_top : best F K costs (width K) (others K e) sofar ≡ suc K.header.ceiling → ⊥
          not_top z =
              let x = another e h in
              let r = reach (width K) (others K e) sofar (omega arith) sofar_code x.0 x.1 x.2 in
              let u = best_under (width K) (others K e) sofar r.0 (omega arith) sofar_code r.1 r.2 in
              let g = greatest_within (width K) (others K e) (λ x. costs x (r.0 x)) K.header.ceiling (λ x h t. low x (r.0 x) h (r.1 x h t)) in
              omega arith

      pub from_under : (e a : ℕ) → e < width K → a < K.header.order → (s : ℕ → ℕ) → ((x : ℕ) → Other K e x → s x < K.header.order) → Satisfied F K e a s →
          from_check_cost F K costs e a ≤ greatest (width K) (others K e) (λ x. costs x (s x))
      unfolding from_check_cost products
      from_under e a h l s c z =
          best_under (width K) (others K e) (F.product (coefficient_of K e) a) s (omega arith) (L.product_code (coefficient_of K e) a (A.coefficient_high e h) l)
          (λ x k t. c x (record { within = k; passes = t })) z
