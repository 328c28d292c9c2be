-- The level of a measured sample: the rule from magnitude to level, and the law that pins it. Assumes nothing.
use Rattle.std.specs.Prelude.{◌≡◌, ℕ, zero, suc, ◌+◌, ◌≤◌, Bool, true, false, cond, ◌⊎◌, is_nan, Float}
use Rattle.std.specs.Float.{nan, inf, fin}
use Rattle.sampling.specs.Exact.{Fraction, AtMost, Below, at_most, times, lesser, size}
use Rattle.sampling.specs.Receiver.{settled}
use Rattle.sampling.specs.declared.receiver.Settings.{Settings}

-- The lesser of a sample's magnitude and the full scale. An infinity is above every full scale.
abbrev pub magnitude : Float → Fraction → Fraction
magnitude nan full = full
magnitude (inf s) full = full
magnitude (fin s m e) full = lesser (size (fin s m e)) full

-- The rule: m reaches level k if k × step is at most m.
abbrev pub reaches : Fraction → Fraction → ℕ → Bool
reaches step m k = at_most (times k step) m

-- the largest number up to k that passes, or 0
abbrev pub largest : (ℕ → Bool) → ℕ → ℕ
largest p zero = 0
largest p (suc k) = cond (p (suc k)) (suc k) (largest p k)

-- the largest level up to the ceiling c that m reaches
unfoldable pub level_at : Fraction → Fraction → ℕ → ℕ
level_at step m c = largest (reaches step m) c

-- the level of a measured sample
abbrev pub measured_level : Settings → ℕ → Float → ℕ
measured_level s c x = level_at (size s.step) (magnitude x (size s.scale)) c

-- k × step ≤ m, and k is the ceiling c or m < (k + 1) × step
pub record IsLevel (step m : Fraction) (c k : ℕ) : Type 0 where
  pub within : k ≤ c
  pub reached : AtMost (times k step) m
  pub last : (k ≡ c) ⊎ Below m (times (k + 1) step)

-- The level of a number is the one whole number that IsLevel tells.
pub record LevelLaw : Type 0 where
  pub level : (s : Settings) (c : ℕ) (x : Float) → settled s ≡ true → is_nan x ≡ false
      → IsLevel (size s.step) (magnitude x (size s.scale)) c (measured_level s c x)
  pub only : (s : Settings) (c k : ℕ) (x : Float) → settled s ≡ true → is_nan x ≡ false
      → IsLevel (size s.step) (magnitude x (size s.scale)) c k → k ≡ measured_level s c x
