-- Opposite and inverse are the one code with their property, in every field. Assumes nothing.
use Rattle.std.specs.Prelude.{◌≡◌, ℕ, ◌<◌, ◌≤◌, Bool, false, ◌⊎◌, Some, None, Option, ◌==◌}
use Rattle.field.specs.Tables.{Tables, Lawful, opposite_of, inverse_of}

-- the answer is Some b exactly if b is a code below q at which f gives v
pub record TheOne (q : ℕ) (f : ℕ → ℕ) (v : ℕ) (answer : Option ℕ) : Type 0 where
  pub told : (b : ℕ) → answer ≡ Some b → (b < q) × (f b ≡ v)
  pub only : (b : ℕ) → b < q → f b ≡ v → answer ≡ Some b

-- the opposite of a code is the one code with sum 0, and only what is no code has none
pub record Opposites (t : Tables) : Type 0 where
  pub one : (a : ℕ) → a < t.order → TheOne t.order (t.sum a) 0 (opposite_of t a)
  pub none : (a : ℕ) → opposite_of t a ≡ None → t.order ≤ a
  pub refused : (a : ℕ) → t.order ≤ a → opposite_of t a ≡ None

-- the inverse of a code but 0 is the one code with product 1, and only 0 and what is no code have none
pub record Inverses (t : Tables) : Type 0 where
  pub one : (a : ℕ) → 0 < a → a < t.order → TheOne t.order (t.product a) 1 (inverse_of t a)
  pub none : (a : ℕ) → inverse_of t a ≡ None → (a ≡ 0) ⊎ (t.order ≤ a)
  pub refused : (a : ℕ) → (a ≡ 0) ⊎ (t.order ≤ a) → inverse_of t a ≡ None

abbrev pub OneOpposite : Type 0
OneOpposite = (t : Tables) → Lawful t → Opposites t

abbrev pub OneInverse : Type 0
OneInverse = (t : Tables) → Lawful t → Inverses t

-- whether an answer is the code b
abbrev pub is_answer : Option ℕ → ℕ → Bool
is_answer (Some c) b = c == b
is_answer None b = false
