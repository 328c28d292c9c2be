-- What a join refuses, what it answers, and what it leaves in its target. Assumes nothing.
use Rattle.std.specs.Prelude.{ℕ, Bool, cond, ◌&&◌, List, length, Some, None, Ok, Err, Option, Result, ◌==◌, nat_le}
use Rattle.field.specs.Tables.{Tables}
use Rattle.joiner.specs.Costs.{within}
use Rattle.joiner.specs.Joined.{joined_of}
use Rattle.joiner.specs.declared.refusal.JoinRefusal.{JoinRefusal}
use Rattle.joiner.specs.Refusals.{number_of}

-- a refusal, and an answer, told by the refusal's number
abbrev pub numbered : Option JoinRefusal → Option ℕ
numbered None = None
numbered (Some refusal) = Some (number_of refusal)

abbrev pub told : Result ℕ JoinRefusal → Result ℕ ℕ
told (Ok pairs) = Ok pairs
told (Err refusal) = Err (number_of refusal)

-- a ceiling is from 1 to 1,023
abbrev pub in_range : ℕ → Bool
in_range ceiling = nat_le 1 ceiling && nat_le ceiling 1023

-- three vectors are q long
abbrev pub are_long : ℕ → ℕ → ℕ → ℕ → Bool
are_long q left right target = left == q && (right == q && target == q)

-- the first refusal in the order of testing: 9 for the ceiling, 7 for the lengths, 8 for the costs
abbrev pub first_of : Bool → Bool → Bool → Option ℕ
first_of range long low = cond range (cond long (cond low None (Some 8)) (Some 7)) (Some 9)

-- the number by which a join is refused, if it is; n is how long the target is
unfoldable pub refusal_of : ℕ → ℕ → List ℕ → List ℕ → ℕ → Option ℕ
refusal_of q ceiling left right n =
    first_of (in_range ceiling) (are_long q (length left) (length right) n) (within ceiling left && within ceiling right)

-- a value, or the refusal; a new value, or the old one
abbrev pub or_refusal : Option ℕ → ℕ → Result ℕ ℕ
or_refusal None value = Ok value
or_refusal (Some number) value = Err number

abbrev pub or_old : Option ℕ → List ℕ → List ℕ → List ℕ
or_old None new old = new
or_old (Some number) new old = old

-- what a joiner answers that tells pairs by this rule: the pairs, or the refusal
abbrev pub answer_of : Tables → (ℕ → ℕ → List ℕ → List ℕ → ℕ) → ℕ → List ℕ → List ℕ → ℕ → Result ℕ ℕ
answer_of t pairs ceiling left right n = or_refusal (refusal_of t.order ceiling left right n) (pairs t.order ceiling left right)

-- what the target then holds: the join, or what it held if the join is refused
abbrev pub third_of : Tables → ℕ → List ℕ → List ℕ → List ℕ → List ℕ
third_of t ceiling left right old = or_old (refusal_of t.order ceiling left right (length old)) (joined_of t left right) old
