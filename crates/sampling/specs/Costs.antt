-- What the samples of a symbol make each code cost. Assumes nothing.
use Rattle.std.specs.Prelude.{ℕ, suc, ◌+◌, ◌/◌, ◌%◌, ◌^◌, Bool, false, cond, List, [], ◌∷◌, map, length, ◌==◌}
use Rattle.std.specs.Bool.{beq}
use Rattle.std.specs.List.{range_with_len}
use Rattle.sampling.specs.Exact.{negative}
use Rattle.sampling.specs.Levels.{measured_level}
use Rattle.sampling.specs.declared.receiver.Settings.{Settings}
use Rattle.sampling.specs.declared.samples.Sample.{Sample}
use Rattle.sampling.specs.declared.samples.Sample.TheVariants.{Lost, Known, Measured}

-- the bit that a sample means: of a measured one, positive or zero means bit 0
abbrev pub bit_of : Sample → Bool
bit_of Lost = false
bit_of (Known b) = b
bit_of (Measured x) = negative x

-- how firmly it means it, from 0 to the ceiling c
abbrev pub level_of : Settings → ℕ → Sample → ℕ
level_of s c Lost = 0
level_of s c (Known b) = c
level_of s c (Measured x) = measured_level s c x

-- bit i of a code
abbrev pub bit_at : ℕ → ℕ → Bool
bit_at i a = a / 2 ^ i % 2 == 1

-- what a sample adds to a code that has the bit b at its place
abbrev pub share_of : Settings → ℕ → Bool → Sample → ℕ
share_of s c b x = cond (beq b (bit_of x)) 0 (level_of s c x)

-- what the samples of the bits from i on add to code a
abbrev pub shares_from : Settings → ℕ → ℕ → ℕ → List Sample → ℕ
shares_from s c a i [] = 0
shares_from s c a i (x ∷ xs) = share_of s c (bit_at i a) x + shares_from s c a (suc i) xs

-- the cost of code a: the sum of the levels at the bits where it differs from the samples; sample i is bit i
unfoldable pub cost_of : Settings → ℕ → List Sample → ℕ → ℕ
cost_of s c xs a = shares_from s c a 0 xs

-- the costs of the codes 0 to 2 ^ p - 1
abbrev pub costs_of : Settings → ℕ → List Sample → List ℕ
costs_of s c xs = map (cost_of s c xs) (range_with_len 0 (2 ^ length xs))
