-- What a reduced matrix tells: its check columns, and the word that the symbols give. Assumes nothing.
use Rattle.std.proofs.Common.{◌≡◌, ℕ, zero, suc, ◌<◌, Bool, true, false, ◌⊎◌, List, get_or, Some, None, Option, sym, refl, ap, ◌∙◌, subst, ap₂, inl, inr, arith}
use native.Mathlib.Decide.{ℕ_discrete, dec_lt}
use Rattle.field.specs.Tables.{Tables, Lawful}
use Rattle.linear.specs.Columns.{combined}
use Rattle.linear.specs.Elimination.{Owned, Reduced, Filled}
use Rattle.linear.specs.Words.{Codes, Entries, Codeword, row_sum}
use Rattle.linear.proofs.Tests.{last, is_some, some_same}
use Rattle.linear.proofs.Ring.{add-zero, mul-zero, mul-one, zero-mul, mul_left_comm, less, less_self}
use Rattle.linear.proofs.Sums.{sum_same, sum_zero, sum_one, dot, dot_add, dot_unit, unit, unit_same, unit_other}
use Rattle.linear.proofs.Words.{Leads, Lead}
use Rattle.linear.proofs.Coded.{Below, below_path, plus, times, nought, unity, codes_field}
use Rattle.linear.proofs.Encoding.{As, held, listed, as_held, as_listed, codes_listed, coded, coded_is, row_as, told, codeword_solves, solves_codeword}
use Rattle.linear.proofs.Reduce.{mx}

abbrev pub Owner : ℕ → List (Option ℕ) → ℕ → Type 0
Owner m owner j = ((r : ℕ) × (r < m) × (get_or owner r None ≡ Some j)) ⊎ ((r : ℕ) → r < m → ¬ (get_or owner r None ≡ Some j))

pub find_owner : (m : ℕ) (owner : List (Option ℕ)) (j : ℕ) → Owner m owner j
find_owner zero owner j = inr (λ r h. absurd (let z : ⊥ = omega arith in z))
find_owner (suc m) owner j = go (find_owner m owner j) (is_some (get_or owner m None) j)
  where
    go : Owner m owner j → Dec (get_or owner m None ≡ Some j) → Owner (suc m) owner j
    go (inl w) d = inl (w.0, (let h = w.1 in omega arith), w.2)
    go (inr n) (yes e) = inl (m, omega arith, e)
    go (inr n) (no d) = inr (λ r h. elim (last m r h) [ inl e ↦ subst (λ (x : ℕ). ¬ (get_or owner x None ≡ Some j)) e d | inr k ↦ n r k ])

module _ (t : Tables) (l : Lawful t) (m n : ℕ) (G : ℕ → ℕ → ℕ) (EG : Entries t.order (mx m n G)) (R : ℕ → ℕ → ℕ) (owner : List (Option ℕ)) (red : Reduced t (mx m n G) (mx m n R) 0 owner) where
  c_r : ℕ → ℕ → Below t.order
  c_r = coded t l (mx m n R) red.entries

  is_R : (r j : ℕ) → r < m → j < n → R r j ≡ (c_r r j).0
  unfolding c_r
  is_R r j h k = coded_is t l (mx m n R) red.entries r j h k

  zero_R : (r j : ℕ) → r < m → j < n → R r j ≡ 0 → c_r r j ≡ nought t l
  zero_R r j h k e = below_path (c_r r j) (nought t l) (sym (is_R r j h k) ∙ e)

  row_R : (v : List ℕ) (w : ℕ → Below t.order) → As t l n v w → (r : ℕ) → r < m → row_sum t (mx m n R) v r ≡ (dot (codes_field t l) n (c_r r) w).0
  unfolding c_r
  row_R v w a r h = row_as t l (mx m n R) red.entries v w a r h

  -- the row of an owned column
  one_owner : (r x p : ℕ) → r < m → x < m → get_or owner r None ≡ Some p → get_or owner x None ≡ Some p → r ≡ x
  one_owner r x p h k e f = go (ℕ_discrete r x)
    where
      go : Dec (r ≡ x) → r ≡ x
      go (yes d) = d
      go (no d) = absurd ((red.owned r p h e).pivot ((red.owned x p k f).alone r h d))

  module _ (b w : List ℕ) (kb : Codes t.order n b) (kw : Codes t.order n w) (fil : Filled t (mx m n R) owner b w) where
    wb : ℕ → Below t.order
    wb = held t l b

    ww : ℕ → Below t.order
    ww = held t l w

    as_b : As t l n b wb
    unfolding wb
    as_b = as_held t l n b kb

    as_w : As t l n w ww
    unfolding ww
    as_w = as_held t l n w kw

    idle_row : (r : ℕ) → r < m → get_or owner r None ≡ None → row_sum t (mx m n R) w r ≡ 0
    idle_row r h o = row_R w ww as_w r h ∙ ap (λ (x : Below t.order). x.0)
        (sum_zero (codes_field t l) n (λ j. times t l (c_r r j) (ww j)) (λ j k.
        ap (λ (x : Below t.order). times t l x (ww j)) (zero_R r j h k (red.idle r h o j (omega arith) k)) ∙ zero-mul (codes_field t l) (ww j)))

    owned_row : (r p : ℕ) → r < m → get_or owner r None ≡ Some p → row_sum t (mx m n R) w r ≡ 0
    owned_row r p h o = row_R w ww as_w r h ∙ ap (λ (x : Below t.order). x.0)
        (sum_same (codes_field t l) n (λ j. times t l (c_r r j) (ww j)) (λ j. times t l (c_r r j) (plus t l (wb j) (times t l (ww p) (unit (codes_field t l) p j)))) (λ j k. at j k (ℕ_discrete j p) (find_owner m owner j))
        ∙ dot_add (codes_field t l) n (c_r r) wb (unit (codes_field t l) p) (ww p)
        ∙ ap (λ (y : Below t.order). plus t l (dot (codes_field t l) n (c_r r) wb) (times t l (ww p) y)) (dot_unit (codes_field t l) n p (c_r r) hp))
        ∙ ap₂ t.sum (sym (row_R b wb as_b r h)) (l.product_comm (ww p).0 (c_r r p).0 (ww p).1 (c_r r p).1 ∙ ap₂ t.product (sym (is_R r p h hp)) (sym (as_w p hp)))
        ∙ (fil.asked r p h o).1
      where
        own : Owned (mx m n R) 0 r p
        own = red.owned r p h o

        hp : p < n
        hp = own.high

        value : ℕ → Below t.order
        value j = plus t l (wb j) (times t l (ww p) (unit (codes_field t l) p j))

        off : (j : ℕ) → ¬ (j ≡ p) → value j ≡ wb j
        off j d = ap (λ (y : Below t.order). plus t l (wb j) (times t l (ww p) y)) (unit_other (codes_field t l) p j d)
            ∙ ap (plus t l (wb j)) (mul-zero (codes_field t l) (ww p)) ∙ add-zero (codes_field t l) (wb j)

        here : value p ≡ ww p
        here = ap₂ (λ (x y : Below t.order). plus t l x (times t l (ww p) y)) (below_path (wb p) (nought t l) (sym (as_b p hp) ∙ (fil.asked r p h o).0)) (unit_same (codes_field t l) p)
            ∙ (codes_field t l).zero-add (times t l (ww p) (unity t l)) ∙ mul-one (codes_field t l) (ww p)

        at : (j : ℕ) → j < n → Dec (j ≡ p) → Owner m owner j → times t l (c_r r j) (ww j) ≡ times t l (c_r r j) (value j)
        at j k (yes e) f = subst (λ (x : ℕ). times t l (c_r r x) (ww x) ≡ times t l (c_r r x) (value x)) (sym e) (ap (times t l (c_r r p)) (sym here))
        at j k (no d) (inl f) =
            let ne : ¬ (r ≡ f.0) = λ e. d (some_same (sym f.2 ∙ ap (λ (x : ℕ). get_or owner x None) (sym e) ∙ o)) in
            let z : c_r r j ≡ nought t l = zero_R r j h k ((red.owned f.0 j f.1 f.2).alone r h ne) in
            ap (λ (x : Below t.order). times t l x (ww j)) z ∙ zero-mul (codes_field t l) (ww j) ∙ sym (ap (λ (x : Below t.order). times t l x (value j)) z ∙ zero-mul (codes_field t l) (value j))
        at j k (no d) (inr f) = ap (times t l (c_r r j)) (below_path (ww j) (value j) (sym (as_w j k) ∙ fil.rest j k f ∙ as_b j k ∙ ap (λ (x : Below t.order). x.0) (sym (off j d))))

    pub filled_codeword : Codeword t (mx m n G) w
    filled_codeword = red.given w (record { codes = kw; holds = λ r h. at r h (get_or owner r None) refl })
      where
        at : (r : ℕ) → r < m → (o : Option ℕ) → get_or owner r None ≡ o → row_sum t (mx m n R) w r ≡ 0
        at r h None e = idle_row r h e
        at r h (Some p) e = owned_row r p h e

  -- ---- an owned column is a check column
  pub owned_check : (r c : ℕ) → r < m → get_or owner r None ≡ Some c → combined t (mx m n G) c ≡ false
  owned_check r c h o = go (combined t (mx m n G) c) refl
    where
      own : Owned (mx m n R) 0 r c
      own = red.owned r c h o

      no_lead : Lead (codes_field t l) (coded t l (mx m n G) EG) m n c → ⊥
      no_lead (w, led) = own.pivot (is_R r c h own.high ∙ ap (λ (x : Below t.order). x.0)
          (sym (mul-one (codes_field t l) (c_r r c)) ∙ ap (times t l (c_r r c)) (sym led.one)
          ∙ sym (sum_one (codes_field t l) n c (λ j. times t l (c_r r j) (w j)) own.high (λ j k d. off j k d (dec_lt j c)))
          ∙ below_path (dot (codes_field t l) n (c_r r) w) (nought t l) (sym (row_R (listed t l n w) w (as_listed t l n w) r h)
          ∙ (red.still (listed t l n w) (solves_codeword t l (mx m n G) EG w led.solves)).holds r h)))
        where
          off : (j : ℕ) → j < n → ¬ (j ≡ c) → Dec (j < c) → times t l (c_r r j) (w j) ≡ nought t l
          off j k d (yes q) = ap (times t l (c_r r j)) (led.below j q) ∙ mul-zero (codes_field t l) (c_r r j)
          off j k d (no q) = ap (λ (x : Below t.order). times t l x (w j)) (zero_R r j h k (own.after j (omega arith) k)) ∙ zero-mul (codes_field t l) (w j)

      go : (b : Bool) → combined t (mx m n G) c ≡ b → b ≡ false
      go true e = absurd (no_lead ((told t l (mx m n G) EG).leads c own.high e))
      go false e = refl

  -- ---- another is not
  fill : (ℕ → Below t.order) → (j : ℕ) → Owner m owner j → Below t.order
  fill b j (inl f) = times t l (less (codes_field t l)) (times t l ((codes_field t l).inverse (c_r f.0 j)) (dot (codes_field t l) n (c_r f.0) b))
  fill b j (inr f) = b j

  filled : (ℕ → Below t.order) → ℕ → Below t.order
  filled b j = fill b j (find_owner m owner j)

  fill_solves : (a d : Below t.order) → ¬ (a ≡ nought t l) → plus t l d (times t l a (times t l (less (codes_field t l)) (times t l ((codes_field t l).inverse a) d))) ≡ nought t l
  fill_solves a d nz = ap (plus t l d) (sorted ∙ ap (λ (y : Below t.order). times t l y (times t l (less (codes_field t l)) d)) ((codes_field t l).mul_inverse a nz) ∙ (codes_field t l).one-mul (times t l (less (codes_field t l)) d))
      ∙ less_self (codes_field t l) d
    where
      sorted : times t l a (times t l (less (codes_field t l)) (times t l ((codes_field t l).inverse a) d)) ≡ times t l (times t l a ((codes_field t l).inverse a)) (times t l (less (codes_field t l)) d)
      sorted = ap (times t l a) (mul_left_comm (codes_field t l) (less (codes_field t l)) ((codes_field t l).inverse a) d) ∙ sym ((codes_field t l).mul_assoc a ((codes_field t l).inverse a) (times t l (less (codes_field t l)) d))

  fill_owned : (b : ℕ → Below t.order) (r p : ℕ) → r < m → get_or owner r None ≡ Some p → (f : Owner m owner p) →
      plus t l (dot (codes_field t l) n (c_r r) b) (times t l (c_r r p) (fill b p f)) ≡ nought t l
  unfolding fill
  fill_owned b r p h o (inr f) = absurd (f r h o)
  fill_owned b r p h o (inl f) =
      subst (λ (x : ℕ). plus t l (dot (codes_field t l) n (c_r r) b) (times t l (c_r r p) (times t l (less (codes_field t l)) (times t l ((codes_field t l).inverse (c_r x p)) (dot (codes_field t l) n (c_r x) b)))) ≡ nought t l)
      (one_owner r f.0 p h f.1 o f.2)
      (fill_solves (c_r r p) (dot (codes_field t l) n (c_r r) b) (λ e. (red.owned r p h o).pivot (is_R r p h (red.owned r p h o).high ∙ ap (λ (x : Below t.order). x.0) e)))

  fill_rest : (b : ℕ → Below t.order) (j : ℕ) → ((r : ℕ) → r < m → ¬ (get_or owner r None ≡ Some j)) → (f : Owner m owner j) → fill b j f ≡ b j
  unfolding fill
  fill_rest b j n (inl f) = absurd (n f.0 f.1 f.2)
  fill_rest b j n (inr f) = refl

  filled_listed : (b : ℕ → Below t.order) → ((r p : ℕ) → r < m → get_or owner r None ≡ Some p → b p ≡ nought t l) → Filled t (mx m n R) owner (listed t l n b) (listed t l n (filled b))
  unfolding filled
  filled_listed b z = record {
    rest = λ j k f. as_listed t l n (filled b) j k ∙ ap (λ (x : Below t.order). x.0) (fill_rest b j f (find_owner m owner j)) ∙ sym (as_listed t l n b j k);
    asked = λ r p h o.
        let k = (red.owned r p h o).high in (
          as_listed t l n b p k ∙ ap (λ (x : Below t.order). x.0) (z r p h o),
          ap₂ t.sum (row_R (listed t l n b) b (as_listed t l n b) r h) (ap₂ t.product (is_R r p h k) (as_listed t l n (filled b) p k))
              ∙ ap (λ (x : Below t.order). x.0) (fill_owned b r p h o (find_owner m owner p)),
        );
  }

  pub rest_free : (c : ℕ) → c < n → ((r : ℕ) → r < m → ¬ (get_or owner r None ≡ Some c)) → combined t (mx m n G) c ≡ true
  unfolding filled fill
  rest_free c k free = go (combined t (mx m n G) c) refl
    where
      b : ℕ → Below t.order
      b = unit (codes_field t l) c

      v : List ℕ
      v = listed t l n (filled b)

      word : Codeword t (mx m n G) v
      word = filled_codeword (listed t l n b) v (codes_listed t l n b) (codes_listed t l n (filled b))
          (filled_listed b (λ r p h o. unit_other (codes_field t l) c p (λ e. free r h (o ∙ ap Some e))))

      is : (j : ℕ) → j < n → held t l v j ≡ filled b j
      is j q = below_path (held t l v j) (filled b j) (sym (as_held t l n v (codes_listed t l n (filled b)) j q) ∙ as_listed t l n (filled b) j q)

      low : (j : ℕ) → j < c → (f : Owner m owner j) → fill b j f ≡ nought t l
      low j q (inr f) = unit_other (codes_field t l) c j (λ e. omega arith)
      low j q (inl f) =
          ap (λ (y : Below t.order). times t l (less (codes_field t l)) (times t l ((codes_field t l).inverse (c_r f.0 j)) y))
          (dot_unit (codes_field t l) n c (c_r f.0) k ∙ zero_R f.0 c f.1 k ((red.owned f.0 j f.1 f.2).after c q k))
          ∙ ap (times t l (less (codes_field t l))) (mul-zero (codes_field t l) ((codes_field t l).inverse (c_r f.0 j))) ∙ mul-zero (codes_field t l) (less (codes_field t l))

      led : Leads (codes_field t l) (coded t l (mx m n G) EG) m n c (held t l v)
      led = record {
        solves = codeword_solves t l (mx m n G) EG v word;
        one = is c k ∙ fill_rest b c free (find_owner m owner c) ∙ unit_same (codes_field t l) c;
        below = λ j q. is j (omega arith) ∙ low j q (find_owner m owner j);
      }

      go : (x : Bool) → combined t (mx m n G) c ≡ x → x ≡ true
      go true e = refl
      go false e = absurd ((told t l (mx m n G) EG).none c k e (held t l v, led))
