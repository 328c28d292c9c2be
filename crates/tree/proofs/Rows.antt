-- Vectors and a row's joins on them give the from-check costs. Assumes nothing.
use Rattle.std.proofs.Common.{◌≡◌, ℕ, zero, suc, pred, ◌+◌, ◌-◌, ◌*◌, ◌<◌, ◌≤◌, min, max, Bool, true, false, cond, eqb, ltb, ◌⊎◌, ◌↔◌, List, length, get_or, take, drop, sym, refl, ap, ◌∙◌, subst, inl, inr, arith, length-drop, length-take, get_or-drop, get_or-take}
use Rattle.std.proofs.lemmas.List.FromFn.{length-map-range_with_len, get_or-map-range_with_len}
use Rattle.std.proofs.lemmas.List.{ext_get_or}
use Rattle.std.proofs.lemmas.Bool.{cases_lt, eq-eqb, ne_eqb, eqb-true, lt-ltb, le-ltb, ltb-true, ltb-false, cond_both}
use Rattle.field.specs.Tables.{Tables, Lawful, opposite_of, inverse_of}
use Rattle.field.proofs.Derived.{opposite_at, inverse_at}
use Rattle.field.proofs.Unique.{opposite_is, inverse_is}
use Rattle.field.proofs.Cancel.{zero_code, sum_zero, spread_right, opposite_only, zero_product}
use Rattle.code.specs.Views.{View}
use Rattle.tree.specs.Over.{over, count, least_to}
use Rattle.tree.specs.Places.{Admitted, width, row_of, coefficient_of}
use Rattle.tree.specs.Decoder.{from_check_cost}
use Rattle.tree.specs.Statement.{Within}
use Rattle.tree.specs.Join.{Joined, between, RowJoins}
use Rattle.tree.specs.Rows.{tabled, joined_at, joined, code_in, gathered, spread, read_by, forth, back, around_at, around, first_of, last_of, vectors_of, read_of}
use Rattle.tree.specs.RowLaws.{VectorsAre, RowsStand}
use Rattle.tree.proofs.Facts.{Facts, facts}
use Rattle.tree.proofs.Folds.{over_tests, below_suc, least_reached, least_under}
use Rattle.tree.proofs.Joins.{joins_theorem}

-- ---- a vector as a table
pub length_tabled : (q : ℕ) (f : ℕ → ℕ) → length (tabled q f) ≡ q
unfolding tabled
length_tabled q f = length-map-range_with_len f 0 q

pub at_tabled : (q : ℕ) (f : ℕ → ℕ) (a : ℕ) → a < q → get_or (tabled q f) a 0 ≡ f a
unfolding tabled
at_tabled q f a h = get_or-map-range_with_len f 0 q a a 0 h (omega arith)

-- a list of q numbers is the table of a function that it agrees with
pub tabled_is : (q : ℕ) (f : ℕ → ℕ) (v : List ℕ) → length v ≡ q → ((a : ℕ) → a < q → get_or v a 0 ≡ f a) → v ≡ tabled q f
tabled_is q f v l h = ext_get_or 0 v (tabled q f) (l ∙ sym (length_tabled q f)) (λ a k. let m : a < q = omega arith in h a m ∙ sym (at_tabled q f a m))

pub tabled_same : (q : ℕ) (f g : ℕ → ℕ) → ((a : ℕ) → a < q → f a ≡ g a) → tabled q f ≡ tabled q g
tabled_same q f g h = tabled_is q g (tabled q f) (length_tabled q f) (λ a l. at_tabled q f a l ∙ h a l)

-- a block of an area
pub tabled_block : (q j : ℕ) (area : List ℕ) → j * q + q ≤ length area → take q (drop (j * q) area) ≡ tabled q (λ a. get_or area (j * q + a) 0)
tabled_block q j area h =
    tabled_is q (λ a. get_or area (j * q + a) 0) (take q (drop (j * q) area))
    (simp (length-take, length-drop) (omega arith)) (λ a l. get_or-take q (drop (j * q) area) a 0 l ∙ get_or-drop (j * q) area a 0)

-- ---- joins
at_joined : (F : Tables) (l r : List ℕ) (a : ℕ) → a < F.order → get_or (joined F l r) a 0 ≡ joined_at F l r a
unfolding joined
at_joined F l r a h = at_tabled F.order (joined_at F l r) a h

pub length_joined : (F : Tables) (l r : List ℕ) → length (joined F l r) ≡ F.order
unfolding joined
length_joined F l r = length_tabled F.order (joined_at F l r)

module _ (F : Tables) (L : Lawful F) (l r : List ℕ) where
  value : ℕ → ℕ → ℕ → ℕ
  value a b c = cond (eqb (F.sum b c) a) (max (get_or l b 0) (get_or r c 0)) (max (get_or l a 0) (get_or r 0 0))

  least_pair : (a b c : ℕ) → b < F.order → c < F.order → joined_at F l r a ≤ value a b c
  unfolding joined_at value
  least_pair a b c hb hc =
      let outer = least_under (pred F.order) (λ b. least_to (pred F.order) (value a b)) b (omega arith) in
      let inner = least_under (pred F.order) (value a b) c (omega arith) in
      omega arith

  at_pair : (a b c : ℕ) → F.sum b c ≡ a → value a b c ≡ max (get_or l b 0) (get_or r c 0)
  unfolding value
  at_pair a b c e = rw (eq-eqb (F.sum b c) a e)

  reached : (a : ℕ) → a < F.order → (b c : ℕ) × (b < F.order) × (c < F.order) × (F.sum b c ≡ a) × (max (get_or l b 0) (get_or r c 0) ≡ joined_at F l r a)
  unfolding joined_at value
  reached a h =
      let o = least_reached (pred F.order) (λ b. least_to (pred F.order) (value a b)) in
      let i = least_reached (pred F.order) (value a o.0) in
      go o.0 i.0 (omega (arith, o.1, L.low)) (omega (arith, i.1, L.low)) (i.2 ∙ o.2) (eqb (F.sum o.0 i.0) a) refl
    where
      go : (b c : ℕ) → b < F.order → c < F.order → value a b c ≡ joined_at F l r a → (v : Bool) → eqb (F.sum b c) a ≡ v →
          (b c : ℕ) × (b < F.order) × (c < F.order) × (F.sum b c ≡ a) × (max (get_or l b 0) (get_or r c 0) ≡ joined_at F l r a)
      go b c hb hc e true k = (b, c, hb, hc, eqb-true (F.sum b c) a k, sym (at_pair a b c (eqb-true (F.sum b c) a k)) ∙ e)
      go b c hb hc e false k = (a, 0, h, zero_code F L, sum_zero F L a h, ap (λ v. cond v (max (get_or l b 0) (get_or r c 0)) (max (get_or l a 0) (get_or r 0 0))) (sym k) ∙ e)

  pub joined_is : Joined F F.order (λ b. get_or l b 0) (λ c. get_or r c 0) (λ a. get_or (joined F l r) a 0)
  joined_is = record {
    reached = λ a h. let w = reached a h in (w.0, w.1, w.2, w.3, w.4, w.5 ∙ sym (at_joined F l r a h));
    under = λ b c hb hc. let e = at_joined F l r (F.sum b c) (L.sum_code b c hb hc) in omega (arith, least_pair (F.sum b c) b c hb hc, at_pair (F.sum b c) b c refl);
  }

  pub joined_only : (w : List ℕ) → length w ≡ F.order → Joined F F.order (λ b. get_or l b 0) (λ c. get_or r c 0) (λ a. get_or w a 0) → w ≡ joined F l r
  unfolding joined
  joined_only w long J = tabled_is F.order (joined_at F l r) w long (λ a h.
      let x = J.reached a h in
      let y = reached a h in
      let p : joined_at F l r (F.sum x.0 x.1) ≤ max (get_or l x.0 0) (get_or r x.1 0) = omega (arith, least_pair (F.sum x.0 x.1) x.0 x.1 x.2 x.3, at_pair (F.sum x.0 x.1) x.0 x.1 refl) in
      let p2 : joined_at F l r a ≤ max (get_or l x.0 0) (get_or r x.1 0) = subst (λ z. joined_at F l r z ≤ max (get_or l x.0 0) (get_or r x.1 0)) x.4 p in
      let q2 : get_or w a 0 ≤ max (get_or l y.0 0) (get_or r y.1 0) = subst (λ z. get_or w z 0 ≤ max (get_or l y.0 0) (get_or r y.1 0)) y.4 (J.under y.0 y.1 y.2 y.3) in
      omega (arith, x.5, y.5))

-- ---- products
at_gathered : (F : Tables) (k : ℕ) (v : List ℕ) (a : ℕ) → a < F.order → get_or (gathered F k v) a 0 ≡ get_or v (F.product k a) 0
unfolding gathered
at_gathered F k v a h = at_tabled F.order (λ c. get_or v (F.product k c) 0) a h

pub length_gathered : (F : Tables) (k : ℕ) (v : List ℕ) → length (gathered F k v) ≡ F.order
unfolding gathered
length_gathered F k v = length_tabled F.order (λ c. get_or v (F.product k c) 0)

module _ (F : Tables) (L : Lawful F) where
  -- the opposite and the inverse as codes
  pub opposite_code : (h : ℕ) → h < F.order → (code_in (opposite_of F h) < F.order) × (F.sum h (code_in (opposite_of F h)) ≡ 0)
  opposite_code h hh =
      let w = opposite_at F L h hh in
      let e : code_in (opposite_of F h) ≡ w.0 = ap code_in (opposite_is F L h w.0 hh w.1 w.2) in
      (omega (arith, w.1, e), ap (F.sum h) e ∙ w.2)

  pub inverse_code : (h : ℕ) → 1 ≤ h → h < F.order → (code_in (inverse_of F h) < F.order) × (F.product h (code_in (inverse_of F h)) ≡ 1)
  inverse_code h one hh =
      let w = inverse_at F L h one hh in
      let e : code_in (inverse_of F h) ≡ w.0 = ap code_in (inverse_is F L h w.0 hh w.1 w.2) in
      (omega (arith, w.1, e), ap (F.product h) e ∙ w.2)

  pub spread_at : (h a : ℕ) (v : List ℕ) → 1 ≤ h → h < F.order → a < F.order → get_or (spread F h v) (F.product h a) 0 ≡ get_or v a 0
  spread_at h a v one hh ha =
      let i = inverse_code h one hh in
      let k : ℕ = code_in (inverse_of F h) in
      let back : F.product k (F.product h a) ≡ a = sym (L.product_assoc k h a i.0 hh ha) ∙ ap (λ x. F.product x a) (L.product_comm k h i.0 hh ∙ i.1) ∙ L.one_product a ha in
      at_gathered F k v (F.product h a) (L.product_code h a hh ha) ∙ ap (λ n. get_or v n 0) back

  pub read_at_is : (h a o : ℕ) (v : List ℕ) → h < F.order → a < F.order → o < F.order → F.sum (F.product h a) o ≡ 0 → get_or (read_by F h v) a 0 ≡ get_or v o 0
  read_at_is h a o v hh ha ho e =
      let i = opposite_code h hh in
      let k : ℕ = code_in (opposite_of F h) in
      let is : F.sum (F.product h a) (F.product k a) ≡ 0 = sym (spread_right F L h k a hh i.0 ha) ∙ ap (λ x. F.product x a) i.1 ∙ zero_product F L a ha in
      let same : F.product k a ≡ o = opposite_only F L (F.product h a) (F.product k a) o (L.product_code h a hh ha) (L.product_code k a i.0 ha) ho is e in
      at_gathered F k v a ha ∙ ap (λ n. get_or v n 0) same

  pub vectors_are : VectorsAre F
  vectors_are = record { join = joined_is F L; only = joined_only F L; spreads = spread_at; reads = read_at_is }

-- ---- where rows begin
pub record Cut (K : View) (r e : ℕ) : Type 0 where
  pub within : e ≤ width K
  pub lower : (x : ℕ) → x < e → row_of K x < r
  pub upper : (x : ℕ) → e ≤ x → x < width K → r ≤ row_of K x

pub count_below : (n e : ℕ) → count n (λ x. ltb x e) ≡ min n e
unfolding over
count_below zero e = omega arith
count_below (suc n) e =
    let ih = count_below n e in
    cond_both (ltb n e) (1 + count n (λ x. ltb x e)) (count n (λ x. ltb x e)) (λ z. z ≡ min (suc n) e) (λ k. let l = ltb-true n e k in omega arith) (λ k. let l = ltb-false n e k in omega arith)

pub cut_first : (K : View) (r e : ℕ) → Cut K r e → e ≡ first_of K r
unfolding first_of
cut_first K r e C =
    sym (over_tests ◌+◌ 0 (width K) (λ x. ltb (row_of K x) r) (λ x. ltb x e) (λ x. 1) (λ x h. go x h (cases_lt x e)) ∙ count_below (width K) e ∙ (let z : min (width K) e ≡ e = omega (arith, C.within) in z))
  where
    go : (x : ℕ) → x < width K → (x < e) ⊎ (e ≤ x) → ltb (row_of K x) r ≡ ltb x e
    go x h (inl l) = lt-ltb (row_of K x) r (C.lower x l) ∙ sym (lt-ltb x e l)
    go x h (inr l) = le-ltb (row_of K x) r (C.upper x l h) ∙ sym (le-ltb x e l)

module _ (K : View) (A : Facts K) where
  -- rows do not fall
  pub rows_rise : (x y : ℕ) → x ≤ y → y < width K → row_of K x ≤ row_of K y
  rows_rise x y h l = go (cases_lt x y)
    where
      go : (x < y) ⊎ (y ≤ x) → row_of K x ≤ row_of K y
      go (inl k) = elim (A.rising x y k l) [ inl z ↦ omega arith | inr z ↦ omega (arith, z.0) ]
      go (inr k) = subst (λ z. row_of K x ≤ row_of K z) (let e : x ≡ y = omega arith in e) (omega arith)

  cut_found : (r n : ℕ) → n ≤ width K → (e : ℕ) × (e ≤ n) × ((x : ℕ) → x < e → row_of K x < r) × ((x : ℕ) → e ≤ x → x < n → r ≤ row_of K x)
  cut_found r zero h = (0, omega arith, λ x l. absurd (let z : ⊥ = omega arith in z), λ x k l. absurd (let z : ⊥ = omega arith in z))
  cut_found r (suc n) h = go (cut_found r n (omega arith)) (cases_lt (row_of K n) r)
    where
      go : (e : ℕ) × (e ≤ n) × ((x : ℕ) → x < e → row_of K x < r) × ((x : ℕ) → e ≤ x → x < n → r ≤ row_of K x) → (row_of K n < r) ⊎ (r ≤ row_of K n) →
          (e : ℕ) × (e ≤ suc n) × ((x : ℕ) → x < e → row_of K x < r) × ((x : ℕ) → e ≤ x → x < suc n → r ≤ row_of K x)
      go w (inl k) = (suc n, omega arith, λ x l. omega (arith, rows_rise x n (omega arith) (omega arith)), λ x k l. absurd (let z : ⊥ = omega arith in z))
      go w (inr k) = (w.0, omega (arith, w.1), w.2, λ x j l. below_suc (λ x. w.0 ≤ x → r ≤ row_of K x) n (λ y m i. w.3 y i m) (λ i. k) x l j)

  pub cut_at : (r : ℕ) → Cut K r (first_of K r)
  cut_at r =
      let w = cut_found r (width K) (omega arith) in
      let C : Cut K r w.0 = record { within = w.1; lower = w.2; upper = w.3 } in
      subst (Cut K r) (cut_first K r w.0 C) C

  -- a row's edges are those from its first to its last
  pub in_row : (r x : ℕ) → x < width K → first_of K r ≤ x → x < first_of K (suc r) → row_of K x ≡ r
  in_row r x h k m = let u = (cut_at r).upper x k h in let v = (cut_at (suc r)).lower x m in omega arith

  pub row_in : (x : ℕ) → x < width K → (first_of K (row_of K x) ≤ x) × (x < first_of K (suc (row_of K x)))
  row_in x h = (lo (cases_lt x (first_of K (row_of K x))), hi (cases_lt x (first_of K (suc (row_of K x)))))
    where
      lo : (x < first_of K (row_of K x)) ⊎ (first_of K (row_of K x) ≤ x) → first_of K (row_of K x) ≤ x
      lo (inl l) = absurd (let u = (cut_at (row_of K x)).lower x l in let z : ⊥ = omega arith in z)
      lo (inr l) = l

      hi : (x < first_of K (suc (row_of K x))) ⊎ (first_of K (suc (row_of K x)) ≤ x) → x < first_of K (suc (row_of K x))
      hi (inl l) = l
      hi (inr l) = absurd (let u = (cut_at (suc (row_of K x))).upper x l h in let z : ⊥ = omega arith in z)

  -- how many edges a row has
  count_row : (r : ℕ) → count (width K) (λ x. eqb (row_of K x) r) + first_of K r ≡ first_of K (suc r)
  unfolding first_of over
  count_row r = sums (width K)
    where
      sums : (n : ℕ) → count n (λ x. eqb (row_of K x) r) + count n (λ x. ltb (row_of K x) r) ≡ count n (λ x. ltb (row_of K x) (suc r))
      sums zero = refl
      sums (suc n) = go (sums n) (cases_lt (row_of K n) r)
        where
          a : ℕ
          a = count n (λ x. eqb (row_of K x) r)

          b : ℕ
          b = count n (λ x. ltb (row_of K x) r)

          c : ℕ
          c = count n (λ x. ltb (row_of K x) (suc r))

          go : a + b ≡ c → (row_of K n < r) ⊎ (r ≤ row_of K n) →
              cond (eqb (row_of K n) r) (1 + a) a + cond (ltb (row_of K n) r) (1 + b) b ≡ cond (ltb (row_of K n) (suc r)) (1 + c) c
          go ih (inl k) = rw (ne_eqb (row_of K n) r (λ z. let w : ⊥ = omega arith in w), lt-ltb (row_of K n) r k, lt-ltb (row_of K n) (suc r) (omega arith)) (omega arith)
          go ih (inr k) = next (cases_lt (row_of K n) (suc r))
            where
              next : (row_of K n < suc r) ⊎ (suc r ≤ row_of K n) → cond (eqb (row_of K n) r) (1 + a) a + cond (ltb (row_of K n) r) (1 + b) b ≡ cond (ltb (row_of K n) (suc r)) (1 + c) c
              next (inl m) = rw (eq-eqb (row_of K n) r (let z : row_of K n ≡ r = omega arith in z), le-ltb (row_of K n) r k, lt-ltb (row_of K n) (suc r) m) (omega arith)
              next (inr m) = rw (ne_eqb (row_of K n) r (λ z. let w : ⊥ = omega arith in w), le-ltb (row_of K n) r k, le-ltb (row_of K n) (suc r) m) (omega arith)

  pub row_two : (r : ℕ) → r < K.header.rows → (1 ≤ last_of K r) × (last_of K r ≤ 15) × (first_of K r + last_of K r < width K) × (first_of K (suc r) ≡ first_of K r + last_of K r + 1)
  row_two r h =
      let c = count_row r in
      let lo = A.row_low r h in
      let hi = A.row_high r h in
      let w = (cut_at (suc r)).within in
      (omega arith, omega arith, omega arith, omega arith)

  pub row_test : (r x : ℕ) → r < K.header.rows → x < width K → eqb (row_of K x) r ≡ between (first_of K r) (first_of K r + last_of K r) x
  row_test r x h l = go (cases_lt x (first_of K r)) (cases_lt x (first_of K (suc r)))
    where
      next : first_of K (suc r) ≡ first_of K r + last_of K r + 1
      next = (row_two r h).3

      low : (i j x : ℕ) → x < i → between i j x ≡ false
      low i j x h = grind arith

      high : (i j x : ℕ) → j < x → between i j x ≡ false
      high i j x h = grind arith

      mid : (i j x : ℕ) → i ≤ x → x ≤ j → between i j x ≡ true
      mid i j x h k = grind arith

      go : (x < first_of K r) ⊎ (first_of K r ≤ x) → (x < first_of K (suc r)) ⊎ (first_of K (suc r) ≤ x) → eqb (row_of K x) r ≡ between (first_of K r) (first_of K r + last_of K r) x
      go (inl k) m = ne_eqb (row_of K x) r (λ z. let u = (cut_at r).lower x k in let y : ⊥ = omega arith in y) ∙ sym (low (first_of K r) (first_of K r + last_of K r) x k)
      go (inr k) (inl m) = eq-eqb (row_of K x) r (in_row r x l k m) ∙ sym (mid (first_of K r) (first_of K r + last_of K r) x k (omega (arith, next)))
      go (inr k) (inr m) = ne_eqb (row_of K x) r (λ z. let u = (cut_at (suc r)).upper x m l in let y : ⊥ = omega arith in y) ∙ sym (high (first_of K r) (first_of K r + last_of K r) x (omega (arith, next)))

-- ---- around an edge
pub around_first : (F : Tables) (forths backs : ℕ → List ℕ) (last i : ℕ) → i ≡ 0 → around_at F forths backs last i ≡ backs (last - 1)
unfolding around_at
around_first F forths backs last i e = rw (eq-eqb i 0 e)

pub around_last : (F : Tables) (forths backs : ℕ → List ℕ) (last i : ℕ) → 1 ≤ last → i ≡ last → around_at F forths backs last i ≡ forths (last - 1)
unfolding around_at
around_last F forths backs last i one e = rw (ne_eqb i 0 (λ z. let w : ⊥ = omega arith in w), eq-eqb i last e)

pub around_between : (F : Tables) (forths backs : ℕ → List ℕ) (last i : ℕ) → 1 ≤ i → i < last → around_at F forths backs last i ≡ joined F (forths (i - 1)) (backs (last - 1 - i))
unfolding around_at
around_between F forths backs last i lo hi = rw (ne_eqb i 0 (λ z. let w : ⊥ = omega arith in w), ne_eqb i last (λ z. let w : ⊥ = omega arith in w))

-- ---- a row
module _ (F : Tables) (L : Lawful F) (K : View) (R : Admitted K) (orders : F.order ≡ K.header.order) (costs : ℕ → ℕ → ℕ) (low : Within K costs) (r : ℕ) (hr : r < K.header.rows) where
  abbrev first : ℕ
  first = first_of K r

  abbrev last : ℕ
  last = last_of K r

  abbrev P : ℕ → List ℕ
  P = vectors_of F K costs r

  abbrev at : List ℕ → ℕ → ℕ
  at w a = get_or w a 0

  A : Facts K
  A = facts K R

  two : (1 ≤ last_of K r) × (last_of K r ≤ 15) × (first_of K r + last_of K r < width K) × (first_of K (suc r) ≡ first_of K r + last_of K r + 1)
  two = row_two K (facts K R) r hr

  joined_at_is : (l l' m m' w w' : List ℕ) → l ≡ l' → m ≡ m' → w ≡ w' → joined F l m ≡ w → Joined F K.header.order (at l') (at m') (at w')
  joined_at_is l l' m m' w w' el em ew e =
      subst (λ q. Joined F q (at l') (at m') (at w')) orders (subst (λ z. Joined F F.order (at l') (at m') (at z)) (e ∙ ew) (subst (λ z. Joined F F.order (at l') (at z) (at (joined F l m))) em (subst (λ z. Joined F F.order (at z) (at m) (at (joined F l m))) el (joined_is F L l m))))

  row_joins : RowJoins F K costs r first (first + last) (λ x a. get_or (P (x - first)) a 0) (λ x a. get_or (forth F P (x - first)) a 0) (λ x a. get_or (back F P last (first + last - x)) a 0) (λ x a. get_or (around F P last (x - first)) a 0)
  unfolding forth back
  row_joins = record {
    two = omega (arith, two.0);
    fits = two.2;
    edges = λ x h. row_test K (facts K R) r x hr h;
    placed = placed;
    forth_first = let e : first - first ≡ 0 = omega arith in ap (λ n. at (forth F P n)) e ∙ sym (ap (λ n. at (P n)) e);
    forth_next = λ x a b.
        let e : suc (x - first) ≡ suc x - first = omega arith in
        joined_at_is (forth F P (x - first)) _ (P (suc (x - first))) _ (forth F P (suc (x - first))) _ refl (ap P e) (ap (forth F P) e) refl;
    back_last = let e : first + last - (first + last) ≡ 0 = omega arith in let e2 : last ≡ first + last - first = omega arith in ap (λ n. at (back F P last n)) e ∙ ap (λ n. at (P n)) e2;
    back_next = λ x a b.
        let m : ℕ = first + last - suc x in
        let e : suc m ≡ first + last - x = omega arith in
        let p : last - suc m ≡ x - first = omega arith in
        joined_at_is (P (last - suc m)) _ (back F P last m) _ (back F P last (suc m)) _ (ap P p) refl (ap (back F P last) e) refl;
    around_first = let z : first - first ≡ 0 = omega arith in let e : last - 1 ≡ first + last - suc first = omega arith in ap at (around_first F (forth F P) (back F P last) last (first - first) z ∙ ap (back F P last) e);
    around_last = let z : first + last - first ≡ last = omega arith in let e : last - 1 ≡ pred (first + last) - first = omega (arith, two.0) in ap at (around_last F (forth F P) (back F P last) last (first + last - first) two.0 z ∙ ap (forth F P) e);
    around_between = λ x a b.
        let el : x - first - 1 ≡ pred x - first = omega arith in let er : last - 1 - (x - first) ≡ first + last - suc x = omega arith in
        joined_at_is (forth F P (x - first - 1)) _ (back F P last (last - 1 - (x - first))) _ _ _ (ap (forth F P) el) (ap (back F P last) er) refl
        (sym (around_between F (forth F P) (back F P last) last (x - first) (omega arith) (omega arith)));
  }
    where
      placed : (x a : ℕ) → first ≤ x → x ≤ first + last → a < K.header.order → get_or (P (x - first)) (F.product (coefficient_of K x) a) 0 ≡ costs x a
      placed x a lo hi l =
          let e : first + (x - first) ≡ x = omega arith in
          let w : x < width K = omega (arith, two.2) in
          let la : a < F.order = omega arith in
          let hc : coefficient_of K x < F.order = omega (arith, (facts K R).coefficient_high x w) in
          ap (λ n. get_or (spread F (coefficient_of K n) (tabled K.header.order (costs n))) (F.product (coefficient_of K x) a) 0) e
          ∙ spread_at F L (coefficient_of K x) a (tabled K.header.order (costs x)) ((facts K R).coefficient_low x w) hc la
          ∙ at_tabled K.header.order (costs x) a l

  -- what an edge reads of the joins is its from-check cost
  pub read_from : (i a : ℕ) → i ≤ last → a < K.header.order → get_or (read_of F K costs r i) a 0 ≡ from_check_cost F K costs (first + i) a
  unfolding read_of
  read_from i a l k =
      let w : first + i < width K = omega (arith, two.2) in
      let la : a < F.order = omega arith in
      let hc : coefficient_of K (first + i) < F.order = omega (arith, (facts K R).coefficient_high (first + i) w) in
      let p : ℕ = F.product (coefficient_of K (first + i)) a in
      let pc : p < F.order = L.product_code (coefficient_of K (first + i)) a hc la in
      let o = opposite_at F L p pc in
      let e : i ≡ first + i - first = omega arith in
      read_at_is F L (coefficient_of K (first + i)) a o.0 (around F P last i) hc la o.1 o.2
      ∙ ap (λ n. get_or (around F P last n) o.0 0) e
      ∙ joins_theorem F L K R orders costs low r first (first + last) (λ x a. get_or (P (x - first)) a 0) (λ x a. get_or (forth F P (x - first)) a 0) (λ x a. get_or (back F P last (first + last - x)) a 0) (λ x a. get_or (around F P last (x - first)) a 0) row_joins
      (first + i) a o.0 (omega arith) (omega arith) k (omega (arith, o.1)) o.2

  pub read_is : (i : ℕ) → i ≤ last → read_of F K costs r i ≡ tabled K.header.order (from_check_cost F K costs (first + i))
  unfolding read_of
  read_is i l = tabled_is K.header.order (from_check_cost F K costs (first + i)) (read_of F K costs r i) long (λ a k. read_from i a l k)
    where
      long : length (read_of F K costs r i) ≡ K.header.order
      long = length_gathered F _ _ ∙ orders

pub rows_theorem : RowsStand
rows_theorem F L = (
  vectors_are F L,
  λ K R orders costs low. record {
    range = range K R;
    two = λ r h. let t = row_two K (facts K R) r h in (t.0, t.1, t.2);
    next = λ r h. (row_two K (facts K R) r h).3;
    reads = λ r i h l. read_is F L K R orders costs low r h i l;
  },
)
  where
    range : (K : View) → Admitted K → (r x : ℕ) → r < K.header.rows → x < width K → (row_of K x ≡ r) ↔ ((first_of K r ≤ x) × (x ≤ first_of K r + last_of K r))
    range K R r x h l =
        let t = row_two K (facts K R) r h in (
          λ e. let i = row_in K (facts K R) x l in
              (subst (λ z. first_of K z ≤ x) e i.0, (let u : x < first_of K (suc r) = subst (λ z. x < first_of K (suc z)) e i.1 in omega (arith, t.3))),
          λ w. in_row K (facts K R) r x l w.0 (omega (arith, w.1, t.3)),
        )
