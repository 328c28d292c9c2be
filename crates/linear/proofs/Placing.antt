-- The steps of placing and filling. Assumes nothing.
use Rattle.std.proofs.Common.{◌≡◌, ℕ, zero, suc, ◌+◌, ◌<◌, Bool, true, false, cond, not, ◌⊎◌, List, length, get_or, set, Some, None, Option, sym, refl, ap, ◌∙◌, subst, ap₂, inl, inr, add-one, arith, length-set, get_or-set_other, get_or-set_same, eq-eqb, eqb-true}
use native.Mathlib.Decide.{ℕ_discrete}
use Rattle.field.specs.Tables.{Tables, Lawful}
use Rattle.field.proofs.Tested.{some_below_at, some_below_true}
use Rattle.linear.specs.Columns.{combined}
use Rattle.linear.specs.Count.{count}
use Rattle.linear.specs.Elimination.{Owned, Reduced}
use Rattle.linear.specs.Filling.{owns, owned_by, free_of, Placed, FilledTo, part_sum, Gathered}
use Rattle.linear.specs.Words.{total, Codes, Matrix, Entries, Codeword, row_sum}
use Rattle.linear.proofs.Tests.{last, no_both, none_some, some_same}
use Rattle.linear.proofs.Counts.{count_below}
use Rattle.linear.proofs.Ring.{zero-mul}
use Rattle.linear.proofs.Coded.{codes_field, Below}
use Rattle.linear.proofs.Reduce.{mx}
use Rattle.linear.proofs.Filled.{owned_check, rest_free, find_owner}
use Rattle.linear.proofs.Clearing.{factor_gone}

pub owns_yes : (o : Option ℕ) (c : ℕ) → o ≡ Some c → owns o c ≡ true
owns_yes None c e = absurd (none_some e)
owns_yes (Some p) c e = eq-eqb p c (some_same e)

pub owns_is : (o : Option ℕ) (c : ℕ) → owns o c ≡ true → o ≡ Some c
owns_is None c e = absurd (no_both e refl)
owns_is (Some p) c e = ap Some (eqb-true p c e)

module _ (owner : List (Option ℕ)) (m c : ℕ) where
  pub owned_yes : (r : ℕ) → r < m → get_or owner r None ≡ Some c → owned_by owner m c ≡ true
  unfolding owned_by
  owned_yes r h e = some_below_true (λ r. owns (get_or owner r None) c) m r h (owns_yes (get_or owner r None) c e)

  pub owned_row : owned_by owner m c ≡ true → (r : ℕ) × (r < m) × (get_or owner r None ≡ Some c)
  unfolding owned_by
  owned_row e = let w = some_below_at (λ r. owns (get_or owner r None) c) m e in (w.0, w.1, owns_is (get_or owner w.0 None) c w.2)

  pub owned_none : owned_by owner m c ≡ false → (r : ℕ) → r < m → ¬ (get_or owner r None ≡ Some c)
  owned_none e r h x = no_both (owned_yes r h x) e

pub count_more : (c : ℕ) (test : ℕ → Bool) → count (c + 1) test ≡ cond (test c) (suc (count c test)) (count c test)
unfolding count
count_more c test = rw add-one

pub count_none : (test : ℕ → Bool) → count 0 test ≡ 0
unfolding count
count_none test = refl

pub total_more : (t : Tables) (j : ℕ) (f : ℕ → ℕ) → total t (j + 1) f ≡ t.sum (f j) (total t j f)
unfolding total
total_more t j f = rw add-one

pub total_none : (t : Tables) (f : ℕ → ℕ) → total t 0 f ≡ 0
unfolding total
total_none t f = refl

pub part_none : (t : Tables) (R : Matrix) (w : List ℕ) (r : ℕ) → part_sum t R w r 0 ≡ 0
unfolding part_sum
part_none t R w r = total_none t (λ c. t.product (R.entry r c) (get_or w c 0))

pub part_more : (t : Tables) (R : Matrix) (w : List ℕ) (r j : ℕ) → part_sum t R w r (j + 1) ≡ t.sum (t.product (R.entry r j) (get_or w j 0)) (part_sum t R w r j)
unfolding part_sum
part_more t R w r j = total_more t j (λ c. t.product (R.entry r c) (get_or w c 0))

pub part_all : (t : Tables) (R : Matrix) (w : List ℕ) (r k : ℕ) → k ≡ R.columns → part_sum t R w r k ≡ row_sum t R w r
unfolding part_sum
part_all t R w r k e = ap (λ (x : ℕ). total t x (λ c. t.product (R.entry r c) (get_or w c 0))) e

pub total_same : (t : Tables) (n : ℕ) (f g : ℕ → ℕ) → ((j : ℕ) → j < n → f j ≡ g j) → total t n f ≡ total t n g
unfolding total
total_same t zero f g h = refl
total_same t (suc n) f g h = ap₂ t.sum (h n (omega arith)) (total_same t n f g (λ j l. h j (omega arith)))

-- the columns that no row owns are the information columns
pub combined_is : (t : Tables) → Lawful t → (m n : ℕ) (G R : ℕ → ℕ → ℕ) → Entries t.order (mx m n G) → (owner : List (Option ℕ)) → Reduced t (mx m n G) (mx m n R) 0 owner →
    (c : ℕ) → c < n → combined t (mx m n G) c ≡ free_of owner m c
combined_is t l m n G R E owner red c h = go (owned_by owner m c) refl
  where
    go : (b : Bool) → owned_by owner m c ≡ b → combined t (mx m n G) c ≡ not b
    go true e = let w = owned_row owner m c e in owned_check t l m n G E R owner red w.0 c w.1 w.2
    go false e = rest_free t l m n G E R owner red c h (owned_none owner m c e)

module _ (owner : List (Option ℕ)) (m c : ℕ) where
  pub count_owned : owned_by owner m c ≡ true → count (c + 1) (free_of owner m) ≡ count c (free_of owner m)
  count_owned e = count_more c (free_of owner m) ∙ ap (λ (b : Bool). cond (not b) (suc (count c (free_of owner m))) (count c (free_of owner m))) e

  pub count_free : owned_by owner m c ≡ false → count (c + 1) (free_of owner m) ≡ suc (count c (free_of owner m))
  count_free e = count_more c (free_of owner m) ∙ ap (λ (b : Bool). cond (not b) (suc (count c (free_of owner m))) (count c (free_of owner m))) e

-- ---- placing
pub placed_none : (m : ℕ) (owner : List (Option ℕ)) (s w : List ℕ) → Placed m owner s w 0
placed_none m owner s w = record { owned = λ c h. absurd (let z : ⊥ = omega arith in z); free = λ c h. absurd (let z : ⊥ = omega arith in z) }

module _ (m : ℕ) (owner : List (Option ℕ)) (s w : List ℕ) (c v c' : ℕ) (ec : c' ≡ suc c) (hc : c < length w) (inv : Placed m owner s w c) where
  pub placed_more : (owned_by owner m c ≡ true → v ≡ 0) → (owned_by owner m c ≡ false → v ≡ get_or s (count c (free_of owner m)) 0) → Placed m owner s (set w c v) c'
  placed_more a b = record {
    owned = λ j h e. elim (last c j (omega arith)) [ inl p ↦ subst (λ (x : ℕ). owned_by owner m x ≡ true → get_or (set w c v) x 0 ≡ 0) p (λ q. here ∙ a q) e | inr k ↦ off j k ∙ inv.owned j k e ];
    free = λ j h e. elim (last c j (omega arith)) [ inl p ↦ subst (λ (x : ℕ). owned_by owner m x ≡ false → get_or (set w c v) x 0 ≡ get_or s (count x (free_of owner m)) 0) p (λ q. here ∙ b q) e | inr k ↦ off j k ∙ inv.free j k e ];
  }
    where
      here : get_or (set w c v) c 0 ≡ v
      here = rw get_or-set_same

      off : (j : ℕ) → j < c → get_or (set w c v) j 0 ≡ get_or w j 0
      off j k = let d : ¬ (j ≡ c) = λ e. omega arith in rw get_or-set_other

pub placed_code : (q m : ℕ) (owner : List (Option ℕ)) (s w : List ℕ) (n : ℕ) → 0 < q → length w ≡ n → Placed m owner s w n → ((i : ℕ) → i < length s → get_or s i 0 < q) → length s ≡ count n (free_of owner m) → Codes q n w
placed_code q m owner s w n z long p k e = record { long = long; below = λ c h. at c h (owned_by owner m c) refl }
  where
    at : (c : ℕ) → c < n → (b : Bool) → owned_by owner m c ≡ b → get_or w c 0 < q
    at c h true o = subst (λ (x : ℕ). x < q) (sym (p.owned c h o)) z
    at c h false o = subst (λ (x : ℕ). x < q) (sym (p.free c h o)) (k (count c (free_of owner m)) (let b = count_below n c (free_of owner m) h (ap not o) in omega arith))

-- ---- filling
pub filled_none : (t : Tables) (R : Matrix) (owner : List (Option ℕ)) (b : List ℕ) → Codes t.order R.columns b → FilledTo t R owner b b 0
filled_none t R owner b k = record { codes = k; rest = λ j h n. refl; asked = λ r p h. absurd (let z : ⊥ = omega arith in z) }

module _ (t : Tables) (l : Lawful t) (m n : ℕ) (R : ℕ → ℕ → ℕ) (E : Entries t.order (mx m n R)) (owner : List (Option ℕ)) (b w : List ℕ) (kb : Codes t.order n b) (k : ℕ) (hk : k < m)
    (own : (r p : ℕ) → r < m → get_or owner r None ≡ Some p → Owned (mx m n R) 0 r p) (inv : FilledTo t (mx m n R) owner b w k) where
  zero_product : (a : ℕ) → a < t.order → t.product 0 a ≡ 0
  zero_product a h = ap (λ (x : Below t.order). x.0) (zero-mul (codes_field t l) (a, h))

  -- what was filled so far adds nothing to this row
  pub same_sum : row_sum t (mx m n R) w k ≡ row_sum t (mx m n R) b k
  same_sum = total_same t n (λ j. t.product (R k j) (get_or w j 0)) (λ j. t.product (R k j) (get_or b j 0)) (λ j h. at j h (find_owner k owner j))
    where
      at : (j : ℕ) → j < n → ((r : ℕ) × (r < k) × (get_or owner r None ≡ Some j)) ⊎ ((r : ℕ) → r < k → ¬ (get_or owner r None ≡ Some j)) → t.product (R k j) (get_or w j 0) ≡ t.product (R k j) (get_or b j 0)
      at j h (inr f) = ap (t.product (R k j)) (inv.rest j h f)
      at j h (inl f) =
          let lt = f.1 in
          let z : R k j ≡ 0 = (own f.0 j (omega arith) f.2).alone k hk (λ e. omega arith) in
          ap (λ (x : ℕ). t.product x (get_or w j 0)) z ∙ zero_product (get_or w j 0) (inv.codes.below j h)
          ∙ sym (ap (λ (x : ℕ). t.product x (get_or b j 0)) z ∙ zero_product (get_or b j 0) (kb.below j h))

  pub filled_skip : (k' : ℕ) → k' ≡ suc k → get_or owner k None ≡ None → FilledTo t (mx m n R) owner b w k'
  filled_skip k' ek e = record {
    codes = inv.codes;
    rest = λ j h f. inv.rest j h (λ r q. f r (omega arith));
    asked = λ r p h o. elim (last k r (omega arith)) [ inl x ↦ absurd (none_some (sym e ∙ ap (λ (z : ℕ). get_or owner z None) x ∙ o)) | inr q ↦ inv.asked r p q o ];
  }

  module _ (k' p v : ℕ) (ek : k' ≡ suc k) (o : get_or owner k None ≡ Some p) (hv : v < t.order) (hp : p < n) (asks : t.sum (row_sum t (mx m n R) b k) (t.product (R k p) v) ≡ 0) where
    pub filled_more : FilledTo t (mx m n R) owner b (set w p v) k'
    filled_more = record {
      codes = record { long = length-set w p v ∙ inv.codes.long; below = λ j h. code j h (ℕ_discrete j p) };
      rest = λ j h f. off j (λ e. f k (omega arith) (o ∙ ap Some (sym e))) ∙ inv.rest j h (λ r q. f r (omega arith));
      asked = λ r x h y. elim (last k r (omega arith)) [ inl e ↦ subst (λ (z : ℕ). get_or owner z None ≡ Some x → t.sum (row_sum t (mx m n R) b z) (t.product (R z x) (get_or (set w p v) x 0)) ≡ 0) e (this x) y | inr q ↦ before r x q y ];
    }
      where
        in_range_is : p < length w
        in_range_is = let e = inv.codes.long in omega arith

        here : get_or (set w p v) p 0 ≡ v
        here = rw (get_or-set_same, in_range_is)

        off : (j : ℕ) → ¬ (j ≡ p) → get_or (set w p v) j 0 ≡ get_or w j 0
        off j d = rw get_or-set_other

        code : (j : ℕ) → j < n → Dec (j ≡ p) → get_or (set w p v) j 0 < t.order
        code j h (yes e) = subst (λ (x : ℕ). get_or (set w p v) x 0 < t.order) (sym e) (subst (λ (x : ℕ). x < t.order) (sym here) hv)
        code j h (no d) = subst (λ (x : ℕ). x < t.order) (sym (off j d)) (inv.codes.below j h)

        this : (x : ℕ) → get_or owner k None ≡ Some x → t.sum (row_sum t (mx m n R) b k) (t.product (R k x) (get_or (set w p v) x 0)) ≡ 0
        this x y =
            let e : p ≡ x = some_same (sym o ∙ y) in
            subst (λ (z : ℕ). t.sum (row_sum t (mx m n R) b k) (t.product (R k z) (get_or (set w p v) z 0)) ≡ 0) e (ap (λ (z : ℕ). t.sum (row_sum t (mx m n R) b k) (t.product (R k p) z)) here ∙ asks)

        before : (r x : ℕ) → r < k → get_or owner r None ≡ Some x → t.sum (row_sum t (mx m n R) b r) (t.product (R r x) (get_or (set w p v) x 0)) ≡ 0
        before r x q y =
            let d : ¬ (x ≡ p) = λ e. (own k p hk o).pivot ((own r p (omega arith) (y ∙ ap Some e)).alone k hk (λ z. omega arith)) in
            ap (λ (z : ℕ). t.sum (row_sum t (mx m n R) b r) (t.product (R r x) z)) (off x d) ∙ inv.asked r x q y

-- what the row asks for
pub asks_for : (t : Tables) → Lawful t → (d v k u x : ℕ) → d < t.order → v < t.order → k < t.order → x < t.order →
    t.product v k ≡ 1 → u ≡ t.product d k → t.sum u x ≡ 0 → t.sum d (t.product v x) ≡ 0
asks_for t l d v k u x hd hv hk hx one q e = ap (t.sum d) (l.product_comm v x hv hx) ∙ factor_gone t l d v k u x hd hv hk hx one q e

-- ---- gathering
pub gathered_none : (m : ℕ) (owner : List (Option ℕ)) (w s : List ℕ) → Gathered m owner w s 0
gathered_none m owner w s = record { symbol = λ c h. absurd (let z : ⊥ = omega arith in z) }

module _ (m : ℕ) (owner : List (Option ℕ)) (w s : List ℕ) (c c' : ℕ) (ec : c' ≡ suc c) (inv : Gathered m owner w s c) where
  pub gathered_skip : owned_by owner m c ≡ true → Gathered m owner w s c'
  gathered_skip o = record { symbol = λ j h e. elim (last c j (omega arith)) [ inl p ↦ absurd (no_both o (ap (owned_by owner m) p ∙ e)) | inr k ↦ inv.symbol j k e ] }

  pub gathered_more : (i : ℕ) → i ≡ count c (free_of owner m) → i < length s → Gathered m owner w (set s i (get_or w c 0)) c'
  gathered_more i ei hi = record {
    symbol = λ j h e. elim (last c j (omega arith)) [
      | inl p ↦ subst (λ (x : ℕ). get_or w x 0 ≡ get_or (set s i (get_or w c 0)) (count x (free_of owner m)) 0) p (sym ((subst (λ (x : ℕ). get_or (set s i (get_or w c 0)) x 0 ≡ get_or w c 0) ei here)))
      | inr k ↦ inv.symbol j k e ∙ sym (off (count j (free_of owner m)) (let b = count_below c j (free_of owner m) k (ap not e) in λ z. omega arith))
    ];
  }
    where
      here : get_or (set s i (get_or w c 0)) i 0 ≡ get_or w c 0
      here = rw get_or-set_same

      off : (x : ℕ) → ¬ (x ≡ i) → get_or (set s i (get_or w c 0)) x 0 ≡ get_or s x 0
      off x d = rw get_or-set_other

-- ---- matrices that agree within their range
pub codeword_same : (t : Tables) (m n : ℕ) (G K : ℕ → ℕ → ℕ) → ((r c : ℕ) → r < m → c < n → G r c ≡ K r c) → (w : List ℕ) → Codeword t (mx m n G) w → Codeword t (mx m n K) w
codeword_same t m n G K e w k = record { codes = k.codes; holds = λ r h. total_same t n (λ c. t.product (K r c) (get_or w c 0)) (λ c. t.product (G r c) (get_or w c 0)) (λ c q. ap (λ (x : ℕ). t.product x (get_or w c 0)) (sym (e r c h q))) ∙ k.holds r h }

pub reduced_same : (t : Tables) (m n : ℕ) (G K : ℕ → ℕ → ℕ) → ((r c : ℕ) → r < m → c < n → G r c ≡ K r c) → (R : Matrix) (from : ℕ) (owner : List (Option ℕ)) → Reduced t (mx m n G) R from owner → Reduced t (mx m n K) R from owner
reduced_same t m n G K e R from owner red = record {
  entries = red.entries;
  given = λ w x. codeword_same t m n G K e w (red.given w x);
  still = λ w x. red.still w (codeword_same t m n K G (λ r c h q. sym (e r c h q)) w x);
  idle = red.idle;
  owned = red.owned;
}
