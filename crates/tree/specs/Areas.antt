-- What the words of an area mean: which numbers a slip has, where each part's words stand. Assumes nothing.
use Rattle.std.specs.Prelude.{◌≡◌, ℕ, ◌+◌, ◌-◌, ◌*◌, ◌<◌, ◌≤◌, min, true, ◌↔◌, List, length, take, drop, slice_index}
use Rattle.code.specs.Views.{View}
use Rattle.tree.specs.Places.{width}
use Rattle.tree.specs.Frame.{Numbers, same_numbers, held_words, Parts, parts_of, laid, stores, told, within}

-- the area holds the parts: word for word, as far as there are columns, edges and symbols
pub record Holds (K : View) (area : List ℕ) (P : Parts) : Type 0 where
  pub channel : (c a : ℕ) → c < K.header.columns → a < K.header.order → (parts_of K area).channel c a ≡ P.channel c a
  pub distances : (c a : ℕ) → c < K.header.columns → a < K.header.order → (parts_of K area).distances c a ≡ P.distances c a
  pub to_check : (e a : ℕ) → e < width K → a < K.header.order → (parts_of K area).to_check e a ≡ P.to_check e a
  pub from_check : (e a : ℕ) → e < width K → a < K.header.order → (parts_of K area).from_check e a ≡ P.from_check e a

pub record AreasAre : Type 0 where
  -- slips have the same numbers exactly if each number is the same
  pub numbers : (m n : Numbers) → (same_numbers m n ≡ true) ↔ (m ≡ n)
  -- an area begins with the parts' words exactly if it holds the parts
  pub holds : (K : View) (area : List ℕ) (P : Parts) → 1 ≤ K.header.order → held_words K ≤ length area → (take (held_words K) area ≡ laid K P) ↔ Holds K area P
  -- what is told of a column are the q words of its distances
  pub told_words : (K : View) (area : List ℕ) (c : ℕ) → c < K.header.columns → held_words K ≤ length area →
      told K (parts_of K area) c ≡ take K.header.order (drop ((K.header.columns + c) * K.header.order) area)
  -- a load stores each value less some value m that is the least given, lowered to the ceiling
  pub stored : (K : View) (values : List ℕ) → 1 ≤ K.header.order →
      (m : ℕ) × (((b : ℕ) × (b < K.header.order) × (slice_index values b ≡ m)) × ((b : ℕ) → b < K.header.order → m ≤ slice_index values b) × ((a : ℕ) → stores K values a ≡ min (slice_index values a - m) K.header.ceiling))
  -- the test of costs against the ceiling
  pub costs : (K : View) (n : ℕ) (costs : ℕ → ℕ → ℕ) → (within K n costs ≡ true) ↔ ((c a : ℕ) → c < n → a < K.header.order → costs c a ≤ K.header.ceiling)

abbrev pub AreasStand : Type 0
AreasStand = AreasAre
