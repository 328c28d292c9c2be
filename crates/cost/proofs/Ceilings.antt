-- The greatest of some costs is within a ceiling exactly if each is. Assumes nothing.
use Rattle.std.proofs.Common.{◌≡◌, ℕ, max, Bool, true, false, ◌&&◌, leb, List, [], ◌∷◌, sym, refl, ap, ◌∙◌, ap₂, inl, inr, arith}
use Rattle.std.specs.List.{fold, list_all}
use Rattle.std.proofs.lemmas.Bool.{cases_lt, le-leb, lt-leb}

and_true : (a : Bool) → (a && true) ≡ a
and_true true = refl
and_true false = refl

and_assoc : (a b c : Bool) → ((a && b) && c) ≡ (a && (b && c))
and_assoc true b c = refl
and_assoc false b c = refl

pub leb_max : (m x c : ℕ) → leb (max m x) c ≡ (leb m c && leb x c)
leb_max m x c =
    elim (cases_lt c m) [
      | inl h ↦ lt-leb (max m x) c (omega arith) ∙ sym (ap₂ ◌&&◌ (lt-leb m c h) refl)
      | inr h ↦ elim (cases_lt c x) [
        | inl k ↦ lt-leb (max m x) c (omega arith) ∙ sym (ap₂ ◌&&◌ (le-leb m c h) (lt-leb x c k))
        | inr k ↦ le-leb (max m x) c (omega arith) ∙ sym (ap₂ ◌&&◌ (le-leb m c h) (le-leb x c k))
      ]
    ]

from_most : (m c : ℕ) (xs : List ℕ) → leb (fold max m xs) c ≡ (leb m c && list_all (λ x. leb x c) xs)
from_most m c [] = sym (and_true (leb m c))
from_most m c (x ∷ xs) = from_most (max m x) c xs ∙ ap (λ b. b && list_all (λ y. leb y c) xs) (leb_max m x c) ∙ and_assoc (leb m c) (leb x c) (list_all (λ y. leb y c) xs)

pub greatest_within : (c : ℕ) (xs : List ℕ) → leb (fold max 0 xs) c ≡ list_all (λ x. leb x c) xs
greatest_within c xs = from_most 0 c xs ∙ ap (λ b. b && list_all (λ x. leb x c) xs) (le-leb 0 c (omega arith))
