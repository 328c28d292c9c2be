-- Whether some sample is not a number, walked from the front.
use Rattle.std.proofs.Common.{◌≡◌, ℕ, zero, suc, ◌<◌, false, ◌||◌, List, [], ◌∷◌, length, get_or, refl, ap, arith}
use Rattle.std.specs.List.{list_any}
use Rattle.std.proofs.lemmas.Bool.{or_parts}
use Rattle.sampling.specs.Refusals.{not_number, any_not}
use Rattle.sampling.specs.declared.samples.Sample.{Sample}

pub any_is : (xs : List Sample) → list_any not_number xs ≡ any_not xs
any_is [] = refl
any_is (x ∷ xs) = ap (λ t. not_number x || t) (any_is xs)

pub none_at : (xs : List Sample) (i : ℕ) (d : Sample) → i < length xs → any_not xs ≡ false → not_number (get_or xs i d) ≡ false
none_at [] i d h e = absurd (omega arith)
none_at (x ∷ xs) zero d h e = (or_parts (not_number x) (any_not xs) e).0
none_at (x ∷ xs) (suc i) d h e = none_at xs i d (omega arith) (or_parts (not_number x) (any_not xs) e).1
