-- The codes of a field as a ring of their own, where the laws ask nothing. Assumes nothing.
use Rattle.std.specs.Prelude.{◌≡◌, ℕ, ◌<◌}
use mathlib.Core.HLevel.{Σ_prop_path}
use Rattle.std.proofs.Math.Bridge.{le_prop}
use Rattle.std.proofs.Common.{arith}
use Rattle.field.specs.Tables.{Tables, Lawful}
use Rattle.field.proofs.Derived.{opposite_at}
use Rattle.tower.specs.Algebra.{Ring}

abbrev pub Code : ℕ → Type 0
Code q = (a : ℕ) × (a < q)

pub same : {q : ℕ} (x y : Code q) → x.0 ≡ y.0 → x ≡ y
same x y e = Σ_prop_path (λ a. le_prop) e

abbrev pub add : (t : Tables) → Lawful t → Code t.order → Code t.order → Code t.order
add t l x y = (t.sum x.0 y.0, l.sum_code x.0 y.0 x.1 y.1)

abbrev pub mul : (t : Tables) → Lawful t → Code t.order → Code t.order → Code t.order
mul t l x y = (t.product x.0 y.0, l.product_code x.0 y.0 x.1 y.1)

pub ring : (t : Tables) (l : Lawful t) → Ring (add t l) (mul t l)
ring t l = record {
  add_comm = λ a b. same _ _ (l.sum_comm a.0 b.0 a.1 b.1);
  add_assoc = λ a b c. same _ _ (l.sum_assoc a.0 b.0 c.0 a.1 b.1 c.1);
  mul_comm = λ a b. same _ _ (l.product_comm a.0 b.0 a.1 b.1);
  mul_assoc = λ a b c. same _ _ (l.product_assoc a.0 b.0 c.0 a.1 b.1 c.1);
  mul-add = λ a b c. same _ _ (l.spread a.0 b.0 c.0 a.1 b.1 c.1);
}

abbrev pub nil : (t : Tables) → Lawful t → Code t.order
nil t l = (0, omega (arith, l.low))

abbrev pub one : (t : Tables) → Lawful t → Code t.order
one t l = (1, l.low)

abbrev pub neg : (t : Tables) → Lawful t → Code t.order → Code t.order
neg t l x = ((opposite_at t l x.0 x.1).0, (opposite_at t l x.0 x.1).1)

pub zero-add : (t : Tables) (l : Lawful t) (a : Code t.order) → add t l (nil t l) a ≡ a
zero-add t l a = same _ _ (l.zero_sum a.0 a.1)

pub one-mul : (t : Tables) (l : Lawful t) (a : Code t.order) → mul t l (one t l) a ≡ a
one-mul t l a = same _ _ (l.one_product a.0 a.1)

pub add_neg : (t : Tables) (l : Lawful t) (a : Code t.order) → add t l a (neg t l a) ≡ nil t l
add_neg t l a = same _ _ (opposite_at t l a.0 a.1).2
