-- The cases of a tower's refusal. Assumes nothing.
use Rattle.std.specs.Prelude.{◌≡◌, ℕ, ◌*◌, ◌<◌, ◌≤◌, Bool, false, cond, ◌⊎◌, nat_lt}
use Rattle.std.proofs.Common.{inl, inr, mul-le-mul, arith, lt-ltb, le-ltb}
use Rattle.field.specs.Tables.{Tables}
use Rattle.tower.specs.Towers.{has_root, tower_refusal}

pub square_small : (r : ℕ) → r ≤ 8 → r * r ≤ 64
square_small r h = mul-le-mul h h

square_large : (r : ℕ) → 8 < r → 64 < r * r
square_large r h = let k : 9 * 9 ≤ r * r = mul-le-mul h h in omega arith

pub too_big : (t : Tables) (u v : ℕ) → 8 < t.order → tower_refusal t u v ≡ 1
too_big t u v h = rw (lt-ltb 64 (t.order * t.order) (square_large t.order h))

module _ (t : Tables) (u v : ℕ) (small : t.order ≤ 8) where
  first_test : nat_lt 64 (t.order * t.order) ≡ false
  first_test = le-ltb 64 (t.order * t.order) (square_small t.order small)

  pub no_code : (t.order ≤ u) ⊎ ((u < t.order) × (t.order ≤ v)) → tower_refusal t u v ≡ 5
  no_code (inl h) = rw (first_test, le-ltb u t.order h)
  no_code (inr h) = rw (first_test, lt-ltb u t.order h.0, le-ltb v t.order h.1)

  pub root_is : (b : Bool) → u < t.order → v < t.order → has_root t u v ≡ b → tower_refusal t u v ≡ cond b 6 0
  root_is b hu hv e = rw (first_test, lt-ltb u t.order hu, lt-ltb v t.order hv, e)
