-- A tower on a lawful base with no root is lawful. Assumes nothing.
use Rattle.std.specs.Prelude.{◌≡◌, ℕ, zero, suc, ◌+◌, ◌*◌, ◌/◌, ◌%◌, ◌<◌, ◌≤◌, false, ◌≢◌, refl}
use Rattle.std.proofs.Common.{sym, ap, ap₂, subst, ◌∙◌, mod-lt, add_comm, mul_comm, mul-le-mul, mul-zero, mul-one, add-zero, zero-add as nat-zero-add, eq-eqb}
use Rattle.std.proofs.Math.Nat.{mod-add-div}
use native.Mathlib.Omega.{arith}
use Rattle.std.proofs.lemmas.Nat.{mul-add-lt, div-mul-add, mod-mul-add, div_below}
use Rattle.field.specs.Tables.{Tables, Lawful}
use Rattle.field.proofs.Tested.{some_below_true}
use Rattle.field.proofs.Derived.{inverse_at}
use Rattle.tower.specs.Towers.{pack, low_of, high_of, tower_tables, is_root, has_root}
use Rattle.tower.specs.Raised.{Raised}
use Rattle.tower.specs.Algebra.{low, high, assoc_low, assoc_high, spread_low, spread_high, comm_low, comm_high}
use Rattle.tower.specs.Norm as norm
use Rattle.tower.specs.Codes.{Code, same, add, mul, ring, nil, one, neg, zero-add, one-mul, add_neg}

pack_mod : (r l h : ℕ) → l < r → pack r l h % r ≡ l
pack_mod r l h k = ap (λ (x : ℕ). x % r) (add_comm l (r * h) ∙ ap (λ (x : ℕ). x + l) (mul_comm r h)) ∙ mod-mul-add h r l k

pack_div : (r l h : ℕ) → l < r → pack r l h / r ≡ h
pack_div r l h k = ap (λ (x : ℕ). x / r) (add_comm l (r * h) ∙ ap (λ (x : ℕ). x + l) (mul_comm r h)) ∙ div-mul-add h r l k

pub pack_lt : (r l h : ℕ) → l < r → h < r → pack r l h < r * r
pack_lt r l h p q = subst (λ (x : ℕ). x < r * r) (sym (add_comm l (r * h) ∙ ap (λ (x : ℕ). x + l) (mul_comm r h))) (mul-add-lt h r l r q p)

module _ (t : Tables) (l : Lawful t) (u v : Code t.order) where
  abbrev lo : (x : ℕ) → Code t.order
  lo x = (x % t.order, mod-lt x (omega (arith, l.low)))

  abbrev hi : (x : ℕ) → x < t.order * t.order → Code t.order
  hi x h = (x / t.order, div_below x t.order t.order (omega (arith, l.low)) h)

  abbrev T : Tables
  T = tower_tables t u.0 v.0

  abbrev packed : Code t.order → Code t.order → ℕ
  packed a b = pack t.order a.0 b.0

  packed_lt : (a b : Code t.order) → packed a b < t.order * t.order
  packed_lt a b = pack_lt t.order a.0 b.0 a.1 b.1

  prod_packed : (a b c d : Code t.order) → T.product (packed a b) (packed c d) ≡ packed (low (ring t l) u v a b c d) (high (ring t l) u v a b c d)
  prod_packed a b c d =
      ap₂ (λ (p q : ℕ). pack t.order (low_of t v.0 p q (packed c d % t.order) (packed c d / t.order)) (high_of t u.0 p q (packed c d % t.order) (packed c d / t.order)))
      (pack_mod t.order a.0 b.0 a.1) (pack_div t.order a.0 b.0 a.1)
      ∙ ap₂ (λ (p q : ℕ). pack t.order (low_of t v.0 a.0 b.0 p q) (high_of t u.0 a.0 b.0 p q))
      (pack_mod t.order c.0 d.0 c.1) (pack_div t.order c.0 d.0 c.1)

  sum_packed : (a b c d : Code t.order) → T.sum (packed a b) (packed c d) ≡ packed (add t l a c) (add t l b d)
  sum_packed a b c d =
      ap₂ (λ (p q : ℕ). pack t.order (t.sum p (packed c d % t.order)) (t.sum q (packed c d / t.order)))
      (pack_mod t.order a.0 b.0 a.1) (pack_div t.order a.0 b.0 a.1)
      ∙ ap₂ (λ (p q : ℕ). pack t.order (t.sum a.0 p) (t.sum b.0 q))
      (pack_mod t.order c.0 d.0 c.1) (pack_div t.order c.0 d.0 c.1)

  -- each code is a packed one
  by_parts : (P : ℕ → Type 0) → ((a b : Code t.order) → P (packed a b)) → (x : ℕ) → x < t.order * t.order → P x
  by_parts P f x h = subst P (mod-add-div x t.order) (f (lo x) (hi x h))

  assoc_at : (a b c d e f : Code t.order) → T.product (T.product (packed a b) (packed c d)) (packed e f) ≡ T.product (packed a b) (T.product (packed c d) (packed e f))
  assoc_at a b c d e f =
      ap (λ (x : ℕ). T.product x (packed e f)) (prod_packed a b c d)
      ∙ prod_packed (low (ring t l) u v a b c d) (high (ring t l) u v a b c d) e f
      ∙ ap₂ packed (assoc_low (ring t l) u v a b c d e f) (assoc_high (ring t l) u v a b c d e f)
      ∙ sym (ap (T.product (packed a b)) (prod_packed c d e f) ∙ prod_packed a b (low (ring t l) u v c d e f) (high (ring t l) u v c d e f))

  sum_assoc_at : (a b c d e f : Code t.order) → T.sum (T.sum (packed a b) (packed c d)) (packed e f) ≡ T.sum (packed a b) (T.sum (packed c d) (packed e f))
  sum_assoc_at a b c d e f =
      ap (λ (x : ℕ). T.sum x (packed e f)) (sum_packed a b c d)
      ∙ sum_packed (add t l a c) (add t l b d) e f
      ∙ ap₂ packed ((ring t l).add_assoc a c e) ((ring t l).add_assoc b d f)
      ∙ sym (ap (T.sum (packed a b)) (sum_packed c d e f) ∙ sum_packed a b (add t l c e) (add t l d f))

  spread_at : (a b c d e f : Code t.order) → T.product (packed a b) (T.sum (packed c d) (packed e f)) ≡ T.sum (T.product (packed a b) (packed c d)) (T.product (packed a b) (packed e f))
  spread_at a b c d e f =
      ap (T.product (packed a b)) (sum_packed c d e f)
      ∙ prod_packed a b (add t l c e) (add t l d f)
      ∙ ap₂ packed (spread_low (ring t l) u v a b c d e f) (spread_high (ring t l) u v a b c d e f)
      ∙ sym (ap₂ T.sum (prod_packed a b c d) (prod_packed a b e f)
      ∙ sum_packed (low (ring t l) u v a b c d) (high (ring t l) u v a b c d) (low (ring t l) u v a b e f) (high (ring t l) u v a b e f))

  abbrev Inverse : ℕ → Type 0
  Inverse x = (y : ℕ) × (y < t.order * t.order) × (T.product x y ≡ 1)

  abbrev N : Code t.order → Code t.order → Code t.order
  N a b = norm.norm (ring t l) (nil t l) (one t l) (neg t l) (zero-add t l) (one-mul t l) (add_neg t l) u v a b

  mul_nil : (a : Code t.order) → mul t l a (nil t l) ≡ nil t l
  mul_nil = norm.mul-zero (ring t l) (nil t l) (one t l) (neg t l) (zero-add t l) (one-mul t l) (add_neg t l)

  add_nil : (a : Code t.order) → add t l a (nil t l) ≡ a
  add_nil = norm.add-zero (ring t l) (nil t l) (one t l) (neg t l) (zero-add t l) (one-mul t l) (add_neg t l)

  one_is : packed (one t l) (nil t l) ≡ 1
  one_is = ap (λ (x : ℕ). 1 + x) (mul-zero t.order)

  nil_is : packed (nil t l) (nil t l) ≡ 0
  nil_is = ap (λ (x : ℕ). 0 + x) (mul-zero t.order)

  -- the inverse of l + h·y, from a code k whose product with the norm is 1
  from_norm : (a b k : Code t.order) → mul t l (N a b) k ≡ one t l → Inverse (packed a b)
  from_norm a b k e =
      let m : Code t.order = add t l a (mul t l u b) in
      let n : Code t.order = neg t l b in
      let is-low : low (ring t l) u v a b (mul t l m k) (mul t l n k) ≡ one t l =
      norm.scale_low (ring t l) (nil t l) (one t l) (neg t l) (zero-add t l) (one-mul t l) (add_neg t l) u v a b m n k ∙ e in
      let is-high : high (ring t l) u v a b (mul t l m k) (mul t l n k) ≡ nil t l =
      norm.scale_high (ring t l) (nil t l) (one t l) (neg t l) (zero-add t l) (one-mul t l) (add_neg t l) u v a b m n k
      ∙ ap (λ (x : Code t.order). mul t l x k) (norm.times_mate_high (ring t l) (nil t l) (one t l) (neg t l) (zero-add t l) (one-mul t l) (add_neg t l) u v a b)
      ∙ (ring t l).mul_comm (nil t l) k ∙ mul_nil k in
      (packed (mul t l m k) (mul t l n k), packed_lt (mul t l m k) (mul t l n k), prod_packed a b (mul t l m k) (mul t l n k) ∙ ap₂ packed is-low is-high ∙ one_is)

  from_low : (a k : Code t.order) → mul t l a k ≡ one t l → Inverse (packed a (nil t l))
  from_low a k e =
      let is-low : low (ring t l) u v a (nil t l) k (nil t l) ≡ one t l =
      ap₂ (add t l) e (ap (mul t l v) (mul_nil (nil t l)) ∙ mul_nil v) ∙ add_nil (one t l) in
      let is-high : high (ring t l) u v a (nil t l) k (nil t l) ≡ nil t l =
      ap₂ (add t l) (ap₂ (add t l) (mul_nil a) ((ring t l).mul_comm (nil t l) k ∙ mul_nil k) ∙ add_nil (nil t l)) (ap (mul t l u) (mul_nil (nil t l)) ∙ mul_nil u) ∙ add_nil (nil t l) in
      (packed k (nil t l), packed_lt k (nil t l), prod_packed a (nil t l) k (nil t l) ∙ ap₂ packed is-low is-high ∙ one_is)

  inverse_of_is : (c : Code t.order) → 0 < c.0 → (k : Code t.order) × (mul t l c k ≡ one t l)
  inverse_of_is c p = let w = inverse_at t l c.0 p c.1 in ((w.0, w.1), same _ _ w.2)

  -- where the norm is 0, there is a root
  no_root : (a b : Code t.order) → has_root t u.0 v.0 ≡ false → 0 < b.0 → (N a b).0 ≢ 0
  unfolding has_root
  no_root a b h p z =
      let w = inverse_of_is b p in
      let x : Code t.order = mul t l (neg t l a) w.0 in
      let root = norm.root_of (ring t l) (nil t l) (one t l) (neg t l) (zero-add t l) (one-mul t l) (add_neg t l) u v a b w.0 w.1 (same _ _ z) in
      let yes-root = some_below_true (is_root t u.0 v.0) t.order x.0 x.1 (eq-eqb _ _ (ap (λ (y : Code t.order). y.0) root)) in
      let c : ◌≡◌ {A = ℕ} 0 1 = cc in omega arith

  inverse_high : (a b : Code t.order) → has_root t u.0 v.0 ≡ false → 0 < b.0 → Inverse (packed a b)
  inverse_high a b h p = go (N a b).0 refl
    where
      go : (n : ℕ) → (N a b).0 ≡ n → Inverse (packed a b)
      go zero e = absurd (no_root a b h p e)
      go (suc n) e = let w = inverse_of_is (N a b) (omega arith) in from_norm a b w.0 w.1

  inverse_at_parts : has_root t u.0 v.0 ≡ false → (a b : Code t.order) → 0 < packed a b → Inverse (packed a b)
  inverse_at_parts h a b p = go b.0 refl
    where
      go : (n : ℕ) → b.0 ≡ n → Inverse (packed a b)
      go zero e =
          let eb : nil t l ≡ b = same _ _ (sym e) in
          let pa : packed a b ≡ a.0 = ap (λ (x : ℕ). a.0 + t.order * x) e ∙ ap (λ (x : ℕ). a.0 + x) (mul-zero t.order) ∙ add-zero a.0 in
          let w = inverse_of_is a (subst (λ (x : ℕ). 0 < x) pa p) in
          subst (λ (x : Code t.order). Inverse (packed a x)) eb (from_low a w.0 w.1)
      go (suc n) e = inverse_high a b h (omega arith)

  opposite_at_parts : (a b : Code t.order) → (y : ℕ) × (y < t.order * t.order) × (T.sum (packed a b) y ≡ 0)
  opposite_at_parts a b = (
    packed (neg t l a) (neg t l b),
    packed_lt (neg t l a) (neg t l b),
    sum_packed a b (neg t l a) (neg t l b) ∙ ap₂ packed (add_neg t l a) (add_neg t l b) ∙ nil_is,
  )

  -- a code of the base, the code of y, and h·y
  low_is : (a : Code t.order) → packed a (nil t l) ≡ a.0
  low_is a = ap (λ (x : ℕ). a.0 + x) (mul-zero t.order) ∙ add-zero a.0

  y_is : packed (nil t l) (one t l) ≡ t.order
  y_is = ap (λ (x : ℕ). 0 + x) (mul-one t.order) ∙ nat-zero-add t.order

  raised : (h : Code t.order) → T.product h.0 t.order ≡ packed (nil t l) h
  raised h =
      ap₂ T.product (sym (low_is h)) (sym y_is) ∙ prod_packed h (nil t l) (nil t l) (one t l)
      ∙ ap₂ packed (norm.raised_low (ring t l) (nil t l) (one t l) (neg t l) (zero-add t l) (one-mul t l) (add_neg t l) u v h)
      (norm.raised_high (ring t l) (nil t l) (one t l) (neg t l) (zero-add t l) (one-mul t l) (add_neg t l) u v h)

  y_squared : T.product t.order t.order ≡ packed v u
  y_squared =
      ap₂ T.product (sym y_is) (sym y_is) ∙ prod_packed (nil t l) (one t l) (nil t l) (one t l)
      ∙ ap₂ packed (norm.square_low (ring t l) (nil t l) (one t l) (neg t l) (zero-add t l) (one-mul t l) (add_neg t l) u v)
      (norm.square_high (ring t l) (nil t l) (one t l) (neg t l) (zero-add t l) (one-mul t l) (add_neg t l) u v)

  pub stands : Raised t u.0 v.0 T
  stands = record {
    order = refl;
    base_sum = λ a b ha hb.
        ap₂ T.sum (sym (low_is (a, ha))) (sym (low_is (b, hb))) ∙ sum_packed (a, ha) (nil t l) (b, hb) (nil t l)
        ∙ ap (packed (add t l (a, ha) (b, hb))) (zero-add t l (nil t l)) ∙ low_is (add t l (a, ha) (b, hb));
    base_product = λ a b ha hb.
        ap₂ T.product (sym (low_is (a, ha))) (sym (low_is (b, hb))) ∙ prod_packed (a, ha) (nil t l) (b, hb) (nil t l)
        ∙ ap₂ packed (norm.base_low (ring t l) (nil t l) (one t l) (neg t l) (zero-add t l) (one-mul t l) (add_neg t l) u v (a, ha) (b, hb))
        (norm.base_high (ring t l) (nil t l) (one t l) (neg t l) (zero-add t l) (one-mul t l) (add_neg t l) u v (a, ha) (b, hb))
        ∙ low_is (mul t l (a, ha) (b, hb));
    square =
        y_squared
        ∙ sym (ap₂ T.sum (raised u) (sym (low_is v)) ∙ sum_packed (nil t l) u v (nil t l) ∙ ap₂ packed (zero-add t l v) (add_nil u));
    parts = λ a h ha hh.
        ap₂ T.sum (sym (low_is (a, ha))) (raised (h, hh)) ∙ sum_packed (a, ha) (nil t l) (nil t l) (h, hh)
        ∙ ap₂ packed (add_nil (a, ha)) (zero-add t l (h, hh));
  }

  two : (P : ℕ → ℕ → Type 0) → ((a b c d : Code t.order) → P (packed a b) (packed c d)) → (x y : ℕ) → x < t.order * t.order → y < t.order * t.order → P x y
  two P f x y hx hy = by_parts (λ z. P z y) (λ a b. by_parts (P (packed a b)) (f a b) y hy) x hx

  three : (P : ℕ → ℕ → ℕ → Type 0) → ((a b c d e f : Code t.order) → P (packed a b) (packed c d) (packed e f)) → (x y z : ℕ) → x < t.order * t.order → y < t.order * t.order → z < t.order * t.order → P x y z
  three P f x y z hx hy hz = by_parts (λ w. P w y z) (λ a b. two (P (packed a b)) (f a b) y z hy hz) x hx

  pub tower_laws : t.order * t.order ≤ 64 → has_root t u.0 v.0 ≡ false → Lawful (tower_tables t u.0 v.0)
  tower_laws fit root = record {
    low = (let k : 2 * 2 ≤ t.order * t.order = mul-le-mul l.low l.low in omega arith);
    high = fit;
    sum_code = two (λ x y. T.sum x y < t.order * t.order)
        (λ a b c d. subst (λ (z : ℕ). z < t.order * t.order) (sym (sum_packed a b c d)) (packed_lt (add t l a c) (add t l b d)));
    product_code = two (λ x y. T.product x y < t.order * t.order)
        (λ a b c d. subst (λ (z : ℕ). z < t.order * t.order) (sym (prod_packed a b c d)) (packed_lt (low (ring t l) u v a b c d) (high (ring t l) u v a b c d)));
    sum_comm = two (λ x y. T.sum x y ≡ T.sum y x)
        (λ a b c d. sum_packed a b c d ∙ ap₂ packed ((ring t l).add_comm a c) ((ring t l).add_comm b d) ∙ sym (sum_packed c d a b));
    product_comm = two (λ x y. T.product x y ≡ T.product y x)
        (λ a b c d. prod_packed a b c d ∙ ap₂ packed (comm_low (ring t l) u v a b c d) (comm_high (ring t l) u v a b c d) ∙ sym (prod_packed c d a b));
    sum_assoc = three (λ x y z. T.sum (T.sum x y) z ≡ T.sum x (T.sum y z)) sum_assoc_at;
    product_assoc = three (λ x y z. T.product (T.product x y) z ≡ T.product x (T.product y z)) assoc_at;
    zero_sum = by_parts (λ x. T.sum 0 x ≡ x)
        (λ a b. ap (λ (x : ℕ). T.sum x (packed a b)) (sym nil_is) ∙ sum_packed (nil t l) (nil t l) a b ∙ ap₂ packed (zero-add t l a) (zero-add t l b));
    one_product = by_parts (λ x. T.product 1 x ≡ x)
        (λ a b. ap (λ (x : ℕ). T.product x (packed a b)) (sym one_is) ∙ prod_packed (one t l) (nil t l) a b ∙ ap₂ packed (one_low a b) (one_high a b));
    opposite = by_parts (λ x. ∥ ((y : ℕ) × (y < t.order * t.order) × (T.sum x y ≡ 0)) ∥₁) (λ a b. ∣ opposite_at_parts a b ∣₁);
    inverse = λ x p h. by_parts (λ x. 0 < x → ∥ Inverse x ∥₁) (λ a b q. ∣ inverse_at_parts root a b q ∣₁) x h p;
    spread = three (λ x y z. T.product x (T.sum y z) ≡ T.sum (T.product x y) (T.product x z)) spread_at;
  }
    where
      nil_mul : (a : Code t.order) → mul t l (nil t l) a ≡ nil t l
      nil_mul a = (ring t l).mul_comm (nil t l) a ∙ mul_nil a

      one_low : (a b : Code t.order) → low (ring t l) u v (one t l) (nil t l) a b ≡ a
      one_low a b = ap₂ (add t l) (one-mul t l a) (ap (mul t l v) (nil_mul b) ∙ mul_nil v) ∙ add_nil a

      one_high : (a b : Code t.order) → high (ring t l) u v (one t l) (nil t l) a b ≡ b
      one_high a b = ap₂ (add t l) (ap₂ (add t l) (one-mul t l b) (nil_mul a) ∙ add_nil b) (ap (mul t l u) (nil_mul b) ∙ mul_nil u) ∙ add_nil b
