-- What a field is: its order and its two tables, the laws, and the answers that follow. Assumes nothing.
use Rattle.std.specs.Prelude.{◌≡◌, ℕ, zero, suc, ◌<◌, ◌≤◌, Bool, true, false, cond, Some, None, Option, nat_eq, nat_lt}

-- the meaning of a field: the order q, and the sum and the product of any two codes below q
pub record Tables : Type 0 where
  pub order : ℕ
  pub sum : ℕ → ℕ → ℕ
  pub product : ℕ → ℕ → ℕ

-- the least of the n numbers from i on that passes the test
abbrev pub first : (ℕ → Bool) → ℕ → ℕ → Option ℕ
first p i zero = None
first p i (suc n) = elim (p i) [ true ↦ Some i | false ↦ first p (suc i) n ]

-- what f gives of two codes below q, and nothing of others
abbrev pub at_both : ℕ → (ℕ → ℕ → ℕ) → ℕ → ℕ → Option ℕ
at_both q f a b = cond (nat_lt a q) (cond (nat_lt b q) (Some (f a b)) None) None

-- the least code b below q at which f a b is v
unfoldable pub least : ℕ → (ℕ → ℕ → ℕ) → ℕ → ℕ → Option ℕ
least q f a v = cond (nat_lt a q) (first (λ b. nat_eq (f a b) v) 0 q) None

-- the four answers
abbrev pub sum_of : Tables → ℕ → ℕ → Option ℕ
sum_of t a b = at_both t.order t.sum a b

abbrev pub product_of : Tables → ℕ → ℕ → Option ℕ
product_of t a b = at_both t.order t.product a b

abbrev pub opposite_of : Tables → ℕ → Option ℕ
opposite_of t a = least t.order t.sum a 0

abbrev pub inverse_of : Tables → ℕ → Option ℕ
inverse_of t a = least t.order t.product a 1

-- the laws, each for all codes below the order
pub record Lawful (t : Tables) : Type 0 where
  pub low : 2 ≤ t.order
  pub high : t.order ≤ 64
  pub sum_code : (a b : ℕ) → a < t.order → b < t.order → t.sum a b < t.order
  pub product_code : (a b : ℕ) → a < t.order → b < t.order → t.product a b < t.order
  pub sum_comm : (a b : ℕ) → a < t.order → b < t.order → t.sum a b ≡ t.sum b a
  pub product_comm : (a b : ℕ) → a < t.order → b < t.order → t.product a b ≡ t.product b a
  pub sum_assoc : (a b c : ℕ) → a < t.order → b < t.order → c < t.order → t.sum (t.sum a b) c ≡ t.sum a (t.sum b c)
  pub product_assoc : (a b c : ℕ) → a < t.order → b < t.order → c < t.order → t.product (t.product a b) c ≡ t.product a (t.product b c)
  pub zero_sum : (a : ℕ) → a < t.order → t.sum 0 a ≡ a
  pub one_product : (a : ℕ) → a < t.order → t.product 1 a ≡ a
  pub opposite : (a : ℕ) → a < t.order → ∥ ((b : ℕ) × (b < t.order) × (t.sum a b ≡ 0)) ∥₁
  pub inverse : (a : ℕ) → 0 < a → a < t.order → ∥ ((b : ℕ) × (b < t.order) × (t.product a b ≡ 1)) ∥₁
  pub spread : (a b c : ℕ) → a < t.order → b < t.order → c < t.order → t.product a (t.sum b c) ≡ t.sum (t.product a b) (t.product a c)
