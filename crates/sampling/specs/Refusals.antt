-- Why sampling refuses, in the order of testing, and the number of each refusal. Assumes nothing.
use Rattle.std.specs.Prelude.{ℕ, ◌^◌, Bool, false, cond, ◌&&◌, ◌||◌, List, [], ◌∷◌, length, Ok, Err, Result, ◌==◌, is_nan, nat_le}
use Rattle.sampling.specs.Receiver.{settled}
use Rattle.sampling.specs.declared.receiver.Settings.{Settings}
use Rattle.sampling.specs.declared.samples.Sample.{Sample}
use Rattle.sampling.specs.declared.samples.Sample.TheVariants.{Lost, Known, Measured}
use Rattle.sampling.specs.declared.refusal.SampleRefusal.{SampleRefusal}
use Rattle.sampling.specs.declared.refusal.SampleRefusal.TheVariants.{Receiver, Ceiling, Length, NotNumber}

abbrev pub number : SampleRefusal → ℕ
number Receiver = 27
number Ceiling = 9
number Length = 7
number NotNumber = 28

-- a ceiling is 1 to 1,023
abbrev pub is_ceiling : ℕ → Bool
is_ceiling c = nat_le 1 c && nat_le c 1023

-- p samples, 1 to 6, have a target of 2 ^ p costs
abbrev pub is_matched : ℕ → ℕ → Bool
is_matched p n = nat_le 1 p && (nat_le p 6 && n == 2 ^ p)

abbrev pub not_number : Sample → Bool
not_number Lost = false
not_number (Known b) = false
not_number (Measured x) = is_nan x

abbrev pub any_not : List Sample → Bool
any_not [] = false
any_not (x ∷ xs) = not_number x || any_not xs

-- n is the length of the target
abbrev pub outcome : Settings → ℕ → List Sample → ℕ → Result (Unit {0}) SampleRefusal
outcome s c xs n =
    cond (settled s) (cond (is_ceiling c) (cond (is_matched (length xs) n) (cond (any_not xs) (Err NotNumber) (Ok tt)) (Err Length)) (Err Ceiling)) (Err Receiver)
