-- The laws of given tables hold in one way at most. Assumes nothing.
use native.Mathlib.Nat.{ℕ_set}
use native.Mathlib.Bridge.{le_prop}
use Rattle.field.specs.Tables.{Tables, Lawful}

pub lawful_prop : (t : Tables) → IsProp (Lawful t)
lawful_prop t x y = λ i. record {
  low = le_prop x.low y.low i;
  high = le_prop x.high y.high i;
  sum_code = λ a b ha hb. le_prop (x.sum_code a b ha hb) (y.sum_code a b ha hb) i;
  product_code = λ a b ha hb. le_prop (x.product_code a b ha hb) (y.product_code a b ha hb) i;
  sum_comm = λ a b ha hb. ℕ_set _ _ (x.sum_comm a b ha hb) (y.sum_comm a b ha hb) i;
  product_comm = λ a b ha hb. ℕ_set _ _ (x.product_comm a b ha hb) (y.product_comm a b ha hb) i;
  sum_assoc = λ a b c ha hb hc. ℕ_set _ _ (x.sum_assoc a b c ha hb hc) (y.sum_assoc a b c ha hb hc) i;
  product_assoc = λ a b c ha hb hc. ℕ_set _ _ (x.product_assoc a b c ha hb hc) (y.product_assoc a b c ha hb hc) i;
  zero_sum = λ a ha. ℕ_set _ _ (x.zero_sum a ha) (y.zero_sum a ha) i;
  one_product = λ a ha. ℕ_set _ _ (x.one_product a ha) (y.one_product a ha) i;
  opposite = λ a ha. squash₁ (x.opposite a ha) (y.opposite a ha) i;
  inverse = λ a pa ha. squash₁ (x.inverse a pa ha) (y.inverse a pa ha) i;
  spread = λ a b c ha hb hc. ℕ_set _ _ (x.spread a b c ha hb hc) (y.spread a b c ha hb hc) i;
}
