-- Copied tables keep the laws and the roots. Assumes nothing.
use Rattle.std.proofs.Common.{◌≡◌, ℕ, ◌<◌, ◌≤◌, eqb, sym, ap, ◌∙◌, subst, ap₂, arith}
use mathlib.Core.Logic.{∥∥₁_map}
use Rattle.field.specs.Tables.{Tables, Lawful}
use Rattle.field.proofs.Tested.{some_below_same}
use Rattle.field.specs.Grids.{grid}
use Rattle.tower.specs.Towers.{copied, is_root, has_root}
use Rattle.field.proofs.Grids.{lookup}

-- tables that agree with lawful ones on the codes are lawful
pub agree : (t : Tables) (s p : ℕ → ℕ → ℕ)
    → ((a b : ℕ) → a < t.order → b < t.order → s a b ≡ t.sum a b)
    → ((a b : ℕ) → a < t.order → b < t.order → p a b ≡ t.product a b)
    → Lawful t → Lawful (record { order = t.order; sum = s; product = p })
agree t s p es ep l = record {
  low = l.low;
  high = l.high;
  sum_code = cs;
  product_code = cp;
  sum_comm = λ a b ha hb. es a b ha hb ∙ l.sum_comm a b ha hb ∙ sym (es b a hb ha);
  product_comm = λ a b ha hb. ep a b ha hb ∙ l.product_comm a b ha hb ∙ sym (ep b a hb ha);
  sum_assoc = λ a b c ha hb hc.
      es (s a b) c (cs a b ha hb) hc ∙ ap (λ (x : ℕ). t.sum x c) (es a b ha hb) ∙ l.sum_assoc a b c ha hb hc
      ∙ sym (es a (s b c) ha (cs b c hb hc) ∙ ap (t.sum a) (es b c hb hc));
  product_assoc = λ a b c ha hb hc.
      ep (p a b) c (cp a b ha hb) hc ∙ ap (λ (x : ℕ). t.product x c) (ep a b ha hb) ∙ l.product_assoc a b c ha hb hc
      ∙ sym (ep a (p b c) ha (cp b c hb hc) ∙ ap (t.product a) (ep b c hb hc));
  zero_sum = λ a ha. es 0 a (zero_code a ha) ha ∙ l.zero_sum a ha;
  one_product = λ a ha. ep 1 a l.low ha ∙ l.one_product a ha;
  opposite = λ a ha. ∥∥₁_map (l.opposite a ha) (λ w. (w.0, w.1, es a w.0 ha w.1 ∙ w.2));
  inverse = λ a pa ha. ∥∥₁_map (l.inverse a pa ha) (λ w. (w.0, w.1, ep a w.0 ha w.1 ∙ w.2));
  spread = λ a b c ha hb hc.
      ep a (s b c) ha (cs b c hb hc) ∙ ap (t.product a) (es b c hb hc) ∙ l.spread a b c ha hb hc
      ∙ sym (es (p a b) (p a c) (cp a b ha hb) (cp a c ha hc) ∙ ap₂ t.sum (ep a b ha hb) (ep a c ha hc));
}
  where
    zero_code : (a : ℕ) → a < t.order → 0 < t.order
    zero_code a h = omega arith

    cs : (a b : ℕ) → a < t.order → b < t.order → s a b < t.order
    cs a b ha hb = subst (λ (x : ℕ). x < t.order) (sym (es a b ha hb)) (l.sum_code a b ha hb)

    cp : (a b : ℕ) → a < t.order → b < t.order → p a b < t.order
    cp a b ha hb = subst (λ (x : ℕ). x < t.order) (sym (ep a b ha hb)) (l.product_code a b ha hb)

abbrev pub copy_of : Tables → Tables
copy_of t = copied t.order (grid 8 t.order t.sum) (grid 8 t.order t.product)

pub copies_lawful : (t : Tables) → t.order ≤ 8 → Lawful t → Lawful (copy_of t)
copies_lawful t fit l =
    agree t (copy_of t).sum (copy_of t).product
    (λ a b ha hb. lookup 8 t.order t.sum a b fit ha hb)
    (λ a b ha hb. lookup 8 t.order t.product a b fit ha hb) l

pub copies_root : (t : Tables) (u v : ℕ) → t.order ≤ 8 → Lawful t → u < t.order → v < t.order → has_root (copy_of t) u v ≡ has_root t u v
unfolding has_root
copies_root t u v fit l hu hv =
    some_below_same (is_root (copy_of t) u v) (is_root t u v) t.order
    (λ x hx. ap₂ eqb (lookup 8 t.order t.product x x fit hx hx)
    (ap (λ (y : ℕ). (copy_of t).sum y v) (lookup 8 t.order t.product u x fit hu hx)
    ∙ lookup 8 t.order t.sum (t.product u x) v fit (l.product_code u x hu hx) hv))
