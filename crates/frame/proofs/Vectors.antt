-- Vectors that are tabled or gathered: how long they are, and how high; and which joins are not refused. Assumes nothing.
use Rattle.std.proofs.Common.{◌≡◌, ℕ, suc, ◌<◌, ◌≤◌, true, leb, ◌⊎◌, List, [], ◌∷◌, length, get_or, None, refl, inl, inr, arith}
use Rattle.std.proofs.lemmas.List.{get_or_past}
use Rattle.std.proofs.lemmas.Bool.{cases_lt, le-leb, eq-eqb, and_from}
use Rattle.field.specs.Tables.{Tables}
use Rattle.joiner.specs.Costs.{within}
use Rattle.joiner.specs.Answers.{refusal_of}
use Rattle.tree.specs.Rows.{tabled, gathered}
use Rattle.tree.proofs.Rows.{length_tabled, at_tabled}
use Rattle.joiner.specs.Costs.{Low}

pub low_tabled : (q : ℕ) (f : ℕ → ℕ) (top : ℕ) → ((a : ℕ) → f a ≤ top) → Low top (tabled q f)
low_tabled q f top h a = go (cases_lt a q)
  where
    go : (a < q) ⊎ (q ≤ a) → get_or (tabled q f) a 0 ≤ top
    go (inl l) = omega (arith, at_tabled q f a l, h a)
    go (inr l) = let s : length (tabled q f) ≤ a = omega (arith, length_tabled q f) in omega (arith, get_or_past (tabled q f) a 0 s)

pub length_gathered : (t : Tables) (k : ℕ) (v : List ℕ) → length (gathered t k v) ≡ t.order
unfolding gathered
length_gathered t k v = length_tabled t.order (λ c. get_or v (t.product k c) 0)

pub low_gathered : (t : Tables) (k : ℕ) (v : List ℕ) (top : ℕ) → Low top v → Low top (gathered t k v)
unfolding gathered
low_gathered t k v top h = low_tabled t.order (λ c. get_or v (t.product k c) 0) top (λ a. h (t.product k a))

low_within : (top : ℕ) (v : List ℕ) → Low top v → within top v ≡ true
unfolding within
low_within top [] h = refl
low_within top (x ∷ xs) h = and_from (leb x top) (within top xs) (le-leb x top (h 0)) (low_within top xs (λ a. h (suc a)))

pub none_refused : (q top : ℕ) (l r : List ℕ) (n : ℕ) → 1 ≤ top → top ≤ 1023 → length l ≡ q → length r ≡ q → n ≡ q → Low top l → Low top r → refusal_of q top l r n ≡ None
unfolding refusal_of
none_refused q top l r n h k el er en hl hr =
    rw (le-leb 1 top h, le-leb top 1023 k, eq-eqb (length l) q el, eq-eqb (length r) q er, eq-eqb n q en, low_within top l hl, low_within top r hr)
