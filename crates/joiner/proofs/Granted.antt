-- What a join that is not refused was given, and when none is refused. Assumes nothing.
use Rattle.std.proofs.Common.{◌≡◌, ℕ, ap, zero, suc, ◌≤◌, Bool, true, false, ◌&&◌, eqb, leb, List, [], ◌∷◌, length, is_ok, Some, None, Ok, Err, Option, Result, refl, arith}
use Rattle.std.proofs.lemmas.Bool.{and_parts, and_from, leb-true, eqb-true, le-leb, eq-eqb}
use Rattle.std.specs.List.{list_all}
use Rattle.joiner.specs.Costs.{within, Low}
use Rattle.joiner.specs.Answers.{told, first_of, refusal_of, or_refusal}
use Rattle.joiner.specs.declared.refusal.JoinRefusal.{JoinRefusal}

pub within_low : (top : ℕ) (v : List ℕ) → within top v ≡ true → Low top v
unfolding within
within_low top [] e a = omega arith
within_low top (x ∷ xs) e zero = leb-true x top (and_parts (leb x top) (within top xs) e).0
within_low top (x ∷ xs) e (suc a) = within_low top xs (and_parts (leb x top) (within top xs) e).1 a

pub each_within : (top : ℕ) (v : List ℕ) → within top v ≡ list_all (λ cost. leb cost top) v
unfolding within
each_within top [] = refl
each_within top (x ∷ xs) = ap (λ b. leb x top && b) (each_within top xs)

pub low_within : (top : ℕ) (v : List ℕ) → Low top v → within top v ≡ true
unfolding within
low_within top [] h = refl
low_within top (x ∷ xs) h = and_from (leb x top) (within top xs) (le-leb x top (h 0)) (low_within top xs (λ a. h (suc a)))

-- the ceiling in range, three vectors of q entries, no cost above the ceiling
pub record Granted (q top : ℕ) (left right : List ℕ) (n : ℕ) : Type 0 where
  pub low : 1 ≤ top
  pub high : top ≤ 1023
  pub left_long : length left ≡ q
  pub right_long : length right ≡ q
  pub target_long : n ≡ q
  pub left_low : Low top left
  pub right_low : Low top right

pub granted : (q top : ℕ) (l r : List ℕ) (n : ℕ) → refusal_of q top l r n ≡ None → Granted q top l r n
unfolding refusal_of
granted q top l r n e = go (leb 1 top && leb top 1023) refl (eqb (length l) q && (eqb (length r) q && eqb n q)) refl (within top l && within top r) refl e
  where
    go : (a : Bool) → (leb 1 top && leb top 1023) ≡ a → (b : Bool) → (eqb (length l) q && (eqb (length r) q && eqb n q)) ≡ b → (c : Bool) → (within top l && within top r) ≡ c →
        first_of a b c ≡ None → Granted q top l r n
    go true ea true eb true ec k =
        let x = and_parts _ _ ea in let y = and_parts _ _ eb in let z = and_parts _ _ y.1 in let w = and_parts _ _ ec in
        record { low = leb-true 1 top x.0; high = leb-true top 1023 x.1; left_long = eqb-true _ _ y.0; right_long = eqb-true _ _ z.0; target_long = eqb-true _ _ z.1; left_low = within_low top l w.0; right_low = within_low top r w.1 }
    go true ea true eb false ec k = let z : ◌≡◌ {A = ℕ} 0 1 = cc in absurd (omega arith)
    go true ea false eb c ec k = let z : ◌≡◌ {A = ℕ} 0 1 = cc in absurd (omega arith)
    go false ea b eb c ec k = let z : ◌≡◌ {A = ℕ} 0 1 = cc in absurd (omega arith)

pub none_refused : (q top : ℕ) (l r : List ℕ) (n : ℕ) → Granted q top l r n → refusal_of q top l r n ≡ None
unfolding refusal_of
none_refused q top l r n G =
    rw (le-leb 1 top G.low, le-leb top 1023 G.high, eq-eqb (length l) q G.left_long, eq-eqb (length r) q G.right_long, eq-eqb n q G.target_long, low_within top l G.left_low, low_within top r G.right_low)

-- an answer of pairs says that nothing was refused, and which pairs they are
pub answered : (o : Option ℕ) (pairs : ℕ) (r : Result ℕ JoinRefusal) → told r ≡ or_refusal o pairs → is_ok r ≡ true → o ≡ None
answered None pairs r e k = refl
answered (Some x) pairs (Ok n) e k = absurd (let w : ◌≡◌ {A = ℕ} 0 1 = cc in omega arith)
answered (Some x) pairs (Err f) e k = absurd (let w : ◌≡◌ {A = ℕ} 0 1 = cc in omega arith)

pub told_pairs : (pairs : ℕ) (r : Result ℕ JoinRefusal) → told r ≡ Ok pairs → r ≡ Ok pairs
told_pairs pairs (Ok n) e = cc
told_pairs pairs (Err f) e = absurd (let w : ◌≡◌ {A = ℕ} 0 1 = cc in omega arith)
