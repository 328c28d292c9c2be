-- Which settings of the receiver hold: the step a power of two from 2 ^ -10 to 2 ^ 0, the full scale at least the step. Assumes nothing.
use Rattle.std.specs.Prelude.{◌≡◌, ℕ, zero, suc, ◌*◌, ◌^◌, ◌≤◌, Bool, true, false, ◌&&◌, ◌||◌, ◌==◌, Float}
use Rattle.sampling.specs.Exact.{sized, size, at_most}
use Rattle.sampling.specs.declared.receiver.Settings.{Settings}

-- x is 2 ^ -j
abbrev pub is_power : ℕ → Float → Bool
is_power j x = sized x && (size x).over * 2 ^ j == (size x).under

-- x is one of n powers, from 2 ^ -j down
abbrev pub among : ℕ → ℕ → Float → Bool
among zero j x = false
among (suc n) j x = is_power j x || among n (suc j) x

-- one of 2 ^ -10 to 2 ^ 0
unfoldable pub is_step : Float → Bool
is_step x = among 11 0 x

-- the full scale is finite and at least the step
abbrev pub settled : Settings → Bool
settled s = is_step s.step && (sized s.scale && at_most (size s.step) (size s.scale))

-- x is 2 ^ -j, as a statement
pub record Power (j : ℕ) (x : Float) : Type 0 where
  pub finite : sized x ≡ true
  pub value : (size x).over * 2 ^ j ≡ (size x).under

-- The steps are the eleven powers and nothing else.
pub record StepLaw : Type 0 where
  pub power : (x : Float) → is_step x ≡ true → (j : ℕ) × (j ≤ 10) × Power j x
  pub step : (x : Float) (j : ℕ) → j ≤ 10 → Power j x → is_step x ≡ true
