-- Opposites and inverses as values, from the laws. Assumes nothing.
use Rattle.std.proofs.Common.{◌≡◌, ℕ, ◌<◌, true, eqb, eq-eqb, eqb-true}
use mathlib.Core.Bool.{Bool-set}
use mathlib.Core.Logic.{∥∥₁_elim}
use Rattle.field.specs.Tables.{Tables, Lawful}
use Rattle.field.specs.Every.{some_below}
use Rattle.field.proofs.Tested.{some_below_at, some_below_true}

-- what some code does, the search finds
found_code : (q : ℕ) (f : ℕ → ℕ) (c : ℕ) → ∥ ((b : ℕ) × (b < q) × (f b ≡ c)) ∥₁ → (b : ℕ) × (b < q) × (f b ≡ c)
found_code q f c e =
    let t : some_below (λ b. eqb (f b) c) q ≡ true = ∥∥₁_elim e (Bool-set _ _) (λ w. some_below_true (λ b. eqb (f b) c) q w.0 w.1 (eq-eqb (f w.0) c w.2)) in
    let r = some_below_at (λ b. eqb (f b) c) q t in
    (r.0, r.1, eqb-true (f r.0) c r.2)

pub opposite_at : (t : Tables) → Lawful t → (a : ℕ) → a < t.order → (b : ℕ) × (b < t.order) × (t.sum a b ≡ 0)
opposite_at t l a h = found_code t.order (t.sum a) 0 (l.opposite a h)

pub inverse_at : (t : Tables) → Lawful t → (a : ℕ) → 0 < a → a < t.order → (b : ℕ) × (b < t.order) × (t.product a b ≡ 1)
inverse_at t l a p h = found_code t.order (t.product a) 1 (l.inverse a p h)
