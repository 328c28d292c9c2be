-- A tower on copied tables agrees with the tower on the base itself. Assumes nothing.
use Rattle.std.proofs.Common.{◌≡◌, ℕ, ◌*◌, ◌/◌, ◌%◌, ◌<◌, ◌≤◌, sym, refl, ap, ◌∙◌, subst, ap₂, mod-lt, mul-le-mul_left, arith}
use Rattle.std.proofs.lemmas.Nat.{div_below}
use Rattle.field.specs.Tables.{Tables, Lawful}
use Rattle.tower.specs.Towers.{pack, low_of, high_of, tower_tables}
use Rattle.tower.specs.Raised.{Agree, Raised}
use Rattle.field.proofs.Grids.{lookup}
use Rattle.tower.proofs.Copies.{copy_of}

module _ (t : Tables) (l : Lawful t) (fit : t.order ≤ 8) where
  sums : (a b : ℕ) → a < t.order → b < t.order → (copy_of t).sum a b ≡ t.sum a b
  sums a b ha hb = lookup 8 t.order t.sum a b fit ha hb

  products : (a b : ℕ) → a < t.order → b < t.order → (copy_of t).product a b ≡ t.product a b
  products a b ha hb = lookup 8 t.order t.product a b fit ha hb

  -- a product of three
  twice : (x a b : ℕ) → x < t.order → a < t.order → b < t.order → (copy_of t).product x ((copy_of t).product a b) ≡ t.product x (t.product a b)
  twice x a b hx ha hb = ap ((copy_of t).product x) (products a b ha hb) ∙ products x (t.product a b) hx (l.product_code a b ha hb)

  low_same : (v a b c d : ℕ) → v < t.order → a < t.order → b < t.order → c < t.order → d < t.order → low_of (copy_of t) v a b c d ≡ low_of t v a b c d
  low_same v a b c d hv ha hb hc hd =
      ap₂ (copy_of t).sum (products a c ha hc) (twice v b d hv hb hd)
      ∙ sums (t.product a c) (t.product v (t.product b d)) (l.product_code a c ha hc) (l.product_code v (t.product b d) hv (l.product_code b d hb hd))

  high_same : (u a b c d : ℕ) → u < t.order → a < t.order → b < t.order → c < t.order → d < t.order → high_of (copy_of t) u a b c d ≡ high_of t u a b c d
  high_same u a b c d hu ha hb hc hd =
      let p = l.product_code a d ha hd in
      let q = l.product_code b c hb hc in
      ap₂ (copy_of t).sum (ap₂ (copy_of t).sum (products a d ha hd) (products b c hb hc) ∙ sums (t.product a d) (t.product b c) p q) (twice u b d hu hb hd)
      ∙ sums (t.sum (t.product a d) (t.product b c)) (t.product u (t.product b d)) (l.sum_code (t.product a d) (t.product b c) p q) (l.product_code u (t.product b d) hu (l.product_code b d hb hd))

  low_code : (a : ℕ) → a % t.order < t.order
  low_code a = mod-lt a (omega (arith, l.low))

  high_code : (a : ℕ) → a < t.order * t.order → a / t.order < t.order
  high_code a h = div_below a t.order t.order (omega (arith, l.low)) h

  pub agrees : (u v : ℕ) → u < t.order → v < t.order → Agree (tower_tables (copy_of t) u v) (tower_tables t u v)
  agrees u v hu hv = record {
    order = refl;
    sum = λ a b ha hb. ap₂ (pack t.order) (sums (a % t.order) (b % t.order) (low_code a) (low_code b)) (sums (a / t.order) (b / t.order) (high_code a ha) (high_code b hb));
    product = λ a b ha hb. ap₂ (pack t.order)
        (low_same v (a % t.order) (a / t.order) (b % t.order) (b / t.order) hv (low_code a) (high_code a ha) (low_code b) (high_code b hb))
        (high_same u (a % t.order) (a / t.order) (b % t.order) (b / t.order) hu (low_code a) (high_code a ha) (low_code b) (high_code b hb));
  }

-- what is said of a tower holds of what agrees with it
pub raised_by : (t : Tables) (u v : ℕ) (s : Tables) → 2 ≤ t.order → u < t.order → v < t.order → Lawful (tower_tables t u v) → Agree s (tower_tables t u v) → Raised t u v (tower_tables t u v) → Raised t u v s
raised_by t u v s two hu hv l e w = record {
  order = e.order;
  base_sum = λ a b ha hb. e.sum a b (in_s a (wide a ha)) (in_s b (wide b hb)) ∙ w.base_sum a b ha hb;
  base_product = λ a b ha hb. e.product a b (in_s a (wide a ha)) (in_s b (wide b hb)) ∙ w.base_product a b ha hb;
  square = e.product t.order t.order (in_s t.order y) (in_s t.order y) ∙ w.square ∙ sym (times u hu (λ x. s.sum x v) ∙ e.sum ((tower_tables t u v).product u t.order) v (in_s ((tower_tables t u v).product u t.order) (code u hu)) (in_s v (wide v hv)));
  parts = λ a h ha hh. times h hh (s.sum a) ∙ e.sum a ((tower_tables t u v).product h t.order) (in_s a (wide a ha)) (in_s ((tower_tables t u v).product h t.order) (code h hh)) ∙ w.parts a h ha hh;
}
  where
    y : t.order < t.order * t.order
    y = let k : t.order * 2 ≤ t.order * t.order = mul-le-mul_left t.order two in omega arith

    wide : (a : ℕ) → a < t.order → a < t.order * t.order
    wide a h = let k = y in omega arith

    in_s : (a : ℕ) → a < t.order * t.order → a < s.order
    in_s a h = subst (λ (x : ℕ). a < x) (sym e.order) h

    code : (h : ℕ) → h < t.order → (tower_tables t u v).product h t.order < t.order * t.order
    code h hh = l.product_code h t.order (wide h hh) y

    times : (h : ℕ) → h < t.order → (f : ℕ → ℕ) → f (s.product h t.order) ≡ f ((tower_tables t u v).product h t.order)
    times h hh f = ap f (e.product h t.order (in_s h (wide h hh)) (in_s t.order y))
