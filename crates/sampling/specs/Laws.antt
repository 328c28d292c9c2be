-- What holds of steps, magnitudes, levels, bits and costs, over the numbers that floats stand for. Assumes nothing.
use Rattle.std.specs.Prelude.{◌≡◌, ℕ, zero, suc, ◌+◌, ◌^◌, ◌<◌, Bool, true, false, cond, ◌⊎◌, List, [], ◌∷◌, length, ℤ, pos, negsuc, slice_index, slice_index_or, Float}
use Rattle.std.specs.Float.{inf, fin}
use Rattle.sampling.specs.Exact.{Fraction, AtMost, size}
use Rattle.sampling.specs.Receiver.{settled, StepLaw}
use Rattle.sampling.specs.Levels.{magnitude, LevelLaw}
use Rattle.sampling.specs.Costs.{bit_of, bit_at, cost_of, costs_of}
use Rattle.sampling.specs.declared.receiver.Settings.{Settings}
use Rattle.sampling.specs.declared.samples.Sample.{Sample}
use Rattle.sampling.specs.declared.samples.Sample.TheVariants.{Lost, Measured}

-- The magnitude of a finite sample is the lesser of its size and the full scale m; that of an infinite one is the full scale.
pub record MagnitudeLaw : Type 0 where
  pub infinite : (s : Bool) (m : Fraction) → magnitude (inf s) m ≡ m
  pub scaled : (x : Float) (m : Fraction) → AtMost (magnitude x m) m
  pub own : (s : Bool) (n : ℕ) (e : ℤ) (m : Fraction) → AtMost (magnitude (fin s n e) m) (size (fin s n e))
  pub either : (s : Bool) (n : ℕ) (e : ℤ) (m : Fraction) → (magnitude (fin s n e) m ≡ size (fin s n e)) ⊎ (magnitude (fin s n e) m ≡ m)

-- the sum of 2 ^ i over the bits i below p that are 1
abbrev pub bit_sum : ℕ → ℕ → ℕ
bit_sum zero a = 0
bit_sum (suc p) a = bit_sum p a + cond (bit_at p a) (2 ^ p) 0

-- The bits of a code make it up; each entry is its code's cost; a code that agrees with every sample costs nothing.
pub record CostLaw : Type 0 where
  pub bits : (p a : ℕ) → a < 2 ^ p → bit_sum p a ≡ a
  pub entry : (s : Settings) (c : ℕ) (xs : List Sample) (a : ℕ) → a < 2 ^ length xs → slice_index (costs_of s c xs) a ≡ cost_of s c xs a
  pub agrees : (s : Settings) (c : ℕ) (xs : List Sample) (a : ℕ) → ((i : ℕ) → i < length xs → bit_at i a ≡ bit_of (slice_index_or xs i Lost)) → cost_of s c xs a ≡ 0

-- Step 0.25 and full scale 4; the floats -0.80 and 0.25.
abbrev pub quarters : Settings
quarters = record { step = fin false 1 (negsuc 1); scale = fin false 1 (pos 2) }

abbrev pub pair : List Sample
pair = Measured (fin true 13421773 (negsuc 23)) ∷ Measured (fin false 1 (negsuc 1)) ∷ []

-- They hold, and with the ceiling 31 the samples cost 3, 0, 4 and 1.
pub record Example : Type 0 where
  pub holds : settled quarters ≡ true
  pub costs : costs_of quarters 31 pair ≡ 3 ∷ 0 ∷ 4 ∷ 1 ∷ []

pub record SamplingLaw : Type 0 where
  pub steps : StepLaw
  pub magnitudes : MagnitudeLaw
  pub levels : LevelLaw
  pub sums : CostLaw
  pub worked : Example
