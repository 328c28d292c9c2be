-- What a made tower is, over the base that it was made on. Assumes nothing.
use Rattle.std.specs.Prelude.{◌≡◌, ℕ, ◌+◌, ◌*◌, ◌<◌}
use Rattle.field.specs.Tables.{Tables, Lawful}
use Rattle.tower.specs.Towers.{tower_tables}

-- two fields with the same order, sums and products
pub record Agree (s t : Tables) : Type 0 where
  pub order : s.order ≡ t.order
  pub sum : (a b : ℕ) → a < s.order → b < s.order → s.sum a b ≡ t.sum a b
  pub product : (a b : ℕ) → a < s.order → b < s.order → s.product a b ≡ t.product a b

-- the base's codes keep their sums and products, y is the code r, y·y = u·y + v, and code l + r × h is l + h·y
pub record Raised (t : Tables) (u v : ℕ) (s : Tables) : Type 0 where
  pub order : s.order ≡ t.order * t.order
  pub base_sum : (a b : ℕ) → a < t.order → b < t.order → s.sum a b ≡ t.sum a b
  pub base_product : (a b : ℕ) → a < t.order → b < t.order → s.product a b ≡ t.product a b
  pub square : s.product t.order t.order ≡ s.sum (s.product u t.order) v
  pub parts : (l h : ℕ) → l < t.order → h < t.order → s.sum l (s.product h t.order) ≡ l + t.order * h

-- only one field stands so on a base
abbrev pub OneTower : Type 0
OneTower = (t : Tables) → Lawful t → (u v : ℕ) → u < t.order → v < t.order → (s : Tables) → Lawful s → Raised t u v s → Agree s (tower_tables t u v)
