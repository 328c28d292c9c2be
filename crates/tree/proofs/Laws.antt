-- The laws of a field over the codes below a number that its order equals, with opposites and inverses as values. Assumes nothing.
use Rattle.std.proofs.Common.{◌≡◌, ℕ, ◌<◌, ◌≤◌, subst}
use Rattle.field.specs.Tables.{Tables, Lawful}
use Rattle.field.proofs.Derived.{opposite_at, inverse_at}

pub record Laws (F : Tables) (q : ℕ) : Type 0 where
  pub two : 2 ≤ q
  pub most : q ≤ 64
  pub sum_code : (a b : ℕ) → a < q → b < q → F.sum a b < q
  pub product_code : (a b : ℕ) → a < q → b < q → F.product a b < q
  pub sum_comm : (a b : ℕ) → a < q → b < q → F.sum a b ≡ F.sum b a
  pub sum_assoc : (a b c : ℕ) → a < q → b < q → c < q → F.sum (F.sum a b) c ≡ F.sum a (F.sum b c)
  pub product_comm : (a b : ℕ) → a < q → b < q → F.product a b ≡ F.product b a
  pub product_assoc : (a b c : ℕ) → a < q → b < q → c < q → F.product (F.product a b) c ≡ F.product a (F.product b c)
  pub zero_sum : (a : ℕ) → a < q → F.sum 0 a ≡ a
  pub one_product : (a : ℕ) → a < q → F.product 1 a ≡ a
  pub opposite : (a : ℕ) → a < q → (b : ℕ) × (b < q) × (F.sum a b ≡ 0)
  pub inverse : (a : ℕ) → a < q → 1 ≤ a → (b : ℕ) × (b < q) × (F.product a b ≡ 1)
  pub spread : (a b c : ℕ) → a < q → b < q → c < q → F.product a (F.sum b c) ≡ F.sum (F.product a b) (F.product a c)

pub laws_of : (F : Tables) → Lawful F → (q : ℕ) → F.order ≡ q → Laws F q
laws_of F L q e = subst (Laws F) e (record {
  two = L.low;
  most = L.high;
  sum_code = L.sum_code;
  product_code = L.product_code;
  sum_comm = L.sum_comm;
  sum_assoc = L.sum_assoc;
  product_comm = L.product_comm;
  product_assoc = L.product_assoc;
  zero_sum = L.zero_sum;
  one_product = L.one_product;
  opposite = λ a h. opposite_at F L a h;
  inverse = λ a h p. inverse_at F L a p h;
  spread = L.spread;
})
