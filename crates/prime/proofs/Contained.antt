-- What `contains` tells of a list is whether the number is a member. Assumes nothing.
use Rattle.std.proofs.Common.{◌≡◌, ℕ, ◌||◌, eqb, List, [], ◌∷◌, sym, refl, ap₂}
use Rattle.std.specs.List.{list_any}
use Rattle.std.proofs.lemmas.Bool.Decides.{same_from_decides, Decides-eqb, Decides-like}
use Rattle.prime.specs.Primes.{primes, member, is_prime}

exchanged : (a b : ℕ) → eqb a b ≡ eqb b a
exchanged a b = same_from_decides (eqb a b) (eqb b a) (Decides-eqb a b) (Decides-like (eqb b a) sym sym (Decides-eqb b a))

members : (q : ℕ) (xs : List ℕ) → list_any (λ x. eqb x q) xs ≡ member q xs
members q [] = refl
members q (x ∷ xs) = ap₂ ◌||◌ (exchanged x q) (members q xs)

pub contained : (q : ℕ) → list_any (λ x. eqb x q) primes ≡ is_prime q
unfolding is_prime
contained q = members q primes
