-- The codes of lawful tables are a field. Assumes nothing.
use Rattle.std.proofs.Common.{◌≡◌, ℕ, zero, suc, ◌<◌, refl, ap, ap₂, arith}
use mathlib.Core.HLevel.{Σ_prop_path}
use native.Mathlib.Decide.{ℕ_discrete, dec_lt}
use native.Mathlib.Bridge.{le_prop}
use Rattle.field.specs.Tables.{Tables, Lawful}
use Rattle.field.proofs.Derived.{opposite_at, inverse_at}
use Rattle.linear.specs.Words.{total}
use Rattle.linear.proofs.Ring.{Field}
use Rattle.linear.proofs.Sums.{sum}

abbrev pub Below : ℕ → Type 0
Below q = (a : ℕ) × (a < q)

pub below_path : {q : ℕ} (u v : Below q) → u.0 ≡ v.0 → u ≡ v
below_path {q} u v p = Σ_prop_path (λ (k : ℕ). le_prop {n = suc k} {m = q}) {u = u} {v = v} p

module _ (t : Tables) (l : Lawful t) where
  abbrev pub plus : Below t.order → Below t.order → Below t.order
  plus a b = (t.sum a.0 b.0, l.sum_code a.0 b.0 a.1 b.1)

  abbrev pub times : Below t.order → Below t.order → Below t.order
  times a b = (t.product a.0 b.0, l.product_code a.0 b.0 a.1 b.1)

  abbrev pub nought : Below t.order
  nought = (0, let h = l.low in omega arith)

  abbrev pub unity : Below t.order
  unity = (1, let h = l.low in omega arith)

  opposite_of_is : Below t.order → Below t.order
  opposite_of_is a = let b = opposite_at t l a.0 a.1 in (b.0, b.1)

  over : (a : Below t.order) → Dec (a.0 ≡ 0) → Below t.order
  over a (yes e) = a
  over a (no d) = let b = inverse_at t l a.0 (omega arith) a.1 in (b.0, b.1)

  over_right : (a : Below t.order) (d : Dec (a.0 ≡ 0)) → ¬ (a ≡ nought) → times a (over a d) ≡ unity
  unfolding over
  over_right a (yes e) n = absurd (n (below_path a nought e))
  over_right a (no d) n = below_path (times a (over a (no d))) unity (inverse_at t l a.0 (omega arith) a.1).2

  decide : (a b : Below t.order) → Dec (a.0 ≡ b.0) → Dec (a ≡ b)
  decide a b (yes e) = yes (below_path a b e)
  decide a b (no d) = no (λ e. d (ap (λ (x : Below t.order). x.0) e))

  pub codes_field : Field plus times nought unity
  unfolding opposite_of_is
  codes_field = record {
    add_comm = λ a b. below_path (plus a b) (plus b a) (l.sum_comm a.0 b.0 a.1 b.1);
    add_assoc = λ a b c. below_path (plus (plus a b) c) (plus a (plus b c)) (l.sum_assoc a.0 b.0 c.0 a.1 b.1 c.1);
    zero-add = λ a. below_path (plus nought a) a (l.zero_sum a.0 a.1);
    minus = opposite_of_is;
    add_minus = λ a. below_path (plus a (opposite_of_is a)) nought (opposite_at t l a.0 a.1).2;
    mul_comm = λ a b. below_path (times a b) (times b a) (l.product_comm a.0 b.0 a.1 b.1);
    mul_assoc = λ a b c. below_path (times (times a b) c) (times a (times b c)) (l.product_assoc a.0 b.0 c.0 a.1 b.1 c.1);
    one-mul = λ a. below_path (times unity a) a (l.one_product a.0 a.1);
    inverse = λ a. over a (ℕ_discrete a.0 0);
    mul_inverse = λ a n. over_right a (ℕ_discrete a.0 0) n;
    mul-add = λ a b c. below_path (times a (plus b c)) (plus (times a b) (times a c)) (l.spread a.0 b.0 c.0 a.1 b.1 c.1);
    apart = λ e. let z : ◌≡◌ {A = ℕ} 1 0 = ap (λ (x : Below t.order). x.0) e in omega arith;
    same = λ a b. decide a b (ℕ_discrete a.0 b.0);
  }

  -- the code of a number: itself, or 0 where it is none
  clamp : (a : ℕ) → Dec (a < t.order) → Below t.order
  clamp a (yes h) = (a, h)
  clamp a (no h) = nought

  pub code : ℕ → Below t.order
  code a = clamp a (dec_lt a t.order)

  pub code_is : (a : ℕ) → a < t.order → (code a).0 ≡ a
  unfolding code clamp
  code_is a h = go (dec_lt a t.order)
    where
      go : (d : Dec (a < t.order)) → (clamp a d).0 ≡ a
      go (yes k) = refl
      go (no k) = absurd (k h)

  -- a sum of codes is the sum in the field
  pub total_is : (n : ℕ) (f : ℕ → ℕ) (g : ℕ → Below t.order) → ((x : ℕ) → x < n → f x ≡ (g x).0) → total t n f ≡ (sum codes_field n g).0
  unfolding total sum
  total_is zero f g h = refl
  total_is (suc n) f g h = ap₂ t.sum (h n (omega arith)) (total_is n f g (λ x k. h x (omega arith)))
