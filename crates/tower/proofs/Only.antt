-- Two fields that stand so on one base agree. Assumes nothing.
use Rattle.std.proofs.Common.{◌≡◌, ℕ, ◌*◌, ◌/◌, ◌%◌, ◌<◌, ◌≤◌, sym, ap, ◌∙◌, subst, ap₂, mod-lt, mul-le-mul_left, arith}
use native.Mathlib.Nat.{mod-add-div}
use Rattle.std.proofs.lemmas.Nat.{div_below}
use Rattle.field.specs.Tables.{Tables, Lawful}
use Rattle.tower.specs.Towers.{low_of, high_of, tower_tables}
use Rattle.tower.specs.Raised.{Agree, Raised}
use Rattle.tower.specs.Algebra.{expand_sum, expand_product}
use Rattle.tower.specs.Codes.{Code, same, ring}

module _ (t : Tables) (lt : Lawful t) (u v : ℕ) (hu : u < t.order) (hv : v < t.order) (s : Tables) (ls : Lawful s) (w : Raised t u v s) where
  wide : t.order < s.order
  wide = let k : t.order * 2 ≤ t.order * t.order = mul-le-mul_left t.order lt.low in omega (arith, w.order)

  low_code : (a : ℕ) → a % t.order < t.order
  low_code a = mod-lt a (omega (arith, lt.low))

  high_code : (a : ℕ) → a < s.order → a / t.order < t.order
  high_code a h = div_below a t.order t.order (omega (arith, lt.low)) (subst (λ (n : ℕ). a < n) w.order h)

  -- a code is its low part plus its high part times y
  split : (a : ℕ) (h : a < s.order) → s.sum (a % t.order) (s.product (a / t.order) t.order) ≡ a
  split a h = w.parts (a % t.order) (a / t.order) (low_code a) (high_code a h) ∙ mod-add-div a t.order

  abbrev L : (a : ℕ) → Code s.order
  L a = (a % t.order, (let k = wide in let c = low_code a in omega arith))

  abbrev H : (a : ℕ) → a < s.order → Code s.order
  H a h = (a / t.order, (let k = wide in let c = high_code a h in omega arith))

  abbrev Y : Code s.order
  Y = (t.order, wide)

  abbrev U : Code s.order
  U = (u, (let k = wide in omega arith))

  abbrev V : Code s.order
  V = (v, (let k = wide in omega arith))

  sums : (a b : ℕ) → a < s.order → b < s.order → s.sum a b ≡ (tower_tables t u v).sum a b
  sums a b ha hb =
      ap₂ s.sum (sym (split a ha)) (sym (split b hb))
      ∙ ap (λ (x : Code s.order). x.0) (expand_sum (ring s ls) U V (L a) (H a ha) (L b) (H b hb) Y)
      ∙ ap₂ (λ (p q : ℕ). s.sum p (s.product q t.order)) (w.base_sum (a % t.order) (b % t.order) (low_code a) (low_code b)) (w.base_sum (a / t.order) (b / t.order) (high_code a ha) (high_code b hb))
      ∙ w.parts (t.sum (a % t.order) (b % t.order)) (t.sum (a / t.order) (b / t.order)) (lt.sum_code (a % t.order) (b % t.order) (low_code a) (low_code b)) (lt.sum_code (a / t.order) (b / t.order) (high_code a ha) (high_code b hb))

  -- a product of three codes of the base
  twice : (x a b : ℕ) → x < t.order → a < t.order → b < t.order → s.product x (s.product a b) ≡ t.product x (t.product a b)
  twice x a b hx ha hb = ap (s.product x) (w.base_product a b ha hb) ∙ w.base_product x (t.product a b) hx (lt.product_code a b ha hb)

  low_same : (a b c d : ℕ) → a < t.order → b < t.order → c < t.order → d < t.order → low_of s v a b c d ≡ low_of t v a b c d
  low_same a b c d ha hb hc hd =
      ap₂ s.sum (w.base_product a c ha hc) (twice v b d hv hb hd)
      ∙ w.base_sum (t.product a c) (t.product v (t.product b d)) (lt.product_code a c ha hc) (lt.product_code v (t.product b d) hv (lt.product_code b d hb hd))

  high_same : (a b c d : ℕ) → a < t.order → b < t.order → c < t.order → d < t.order → high_of s u a b c d ≡ high_of t u a b c d
  high_same a b c d ha hb hc hd =
      let p = lt.product_code a d ha hd in
      let q = lt.product_code b c hb hc in
      ap₂ s.sum (ap₂ s.sum (w.base_product a d ha hd) (w.base_product b c hb hc) ∙ w.base_sum (t.product a d) (t.product b c) p q) (twice u b d hu hb hd)
      ∙ w.base_sum (t.sum (t.product a d) (t.product b c)) (t.product u (t.product b d)) (lt.sum_code (t.product a d) (t.product b c) p q) (lt.product_code u (t.product b d) hu (lt.product_code b d hb hd))

  low_below : (a b c d : ℕ) → a < t.order → b < t.order → c < t.order → d < t.order → low_of t v a b c d < t.order
  low_below a b c d ha hb hc hd = lt.sum_code (t.product a c) (t.product v (t.product b d)) (lt.product_code a c ha hc) (lt.product_code v (t.product b d) hv (lt.product_code b d hb hd))

  high_below : (a b c d : ℕ) → a < t.order → b < t.order → c < t.order → d < t.order → high_of t u a b c d < t.order
  high_below a b c d ha hb hc hd =
      lt.sum_code (t.sum (t.product a d) (t.product b c)) (t.product u (t.product b d))
      (lt.sum_code (t.product a d) (t.product b c) (lt.product_code a d ha hd) (lt.product_code b c hb hc)) (lt.product_code u (t.product b d) hu (lt.product_code b d hb hd))

  products : (a b : ℕ) → a < s.order → b < s.order → s.product a b ≡ (tower_tables t u v).product a b
  products a b ha hb =
      let p = low_code a in
      let q = high_code a ha in
      let m = low_code b in
      let n = high_code b hb in
      ap₂ s.product (sym (split a ha)) (sym (split b hb))
      ∙ ap (λ (x : Code s.order). x.0) (expand_product (ring s ls) U V (L a) (H a ha) (L b) (H b hb) Y (same _ _ w.square))
      ∙ ap₂ (λ (x z : ℕ). s.sum x (s.product z t.order))
      (low_same (a % t.order) (a / t.order) (b % t.order) (b / t.order) p q m n)
      (high_same (a % t.order) (a / t.order) (b % t.order) (b / t.order) p q m n)
      ∙ w.parts (low_of t v (a % t.order) (a / t.order) (b % t.order) (b / t.order)) (high_of t u (a % t.order) (a / t.order) (b % t.order) (b / t.order))
      (low_below (a % t.order) (a / t.order) (b % t.order) (b / t.order) p q m n)
      (high_below (a % t.order) (a / t.order) (b % t.order) (b / t.order) p q m n)

  pub one_tower : Agree s (tower_tables t u v)
  one_tower = record { order = w.order; sum = sums; product = products }
