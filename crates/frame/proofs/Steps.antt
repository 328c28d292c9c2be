-- What a step's copies hold, and that its join is not refused. Assumes nothing.
use Rattle.std.proofs.Common.{◌≡◌, ℕ, ◌-◌, ◌<◌, ◌≤◌, List, length, take, replicate, None, Ok, Err, Result, IsOk, Option, sym, refl, ap, ◌∙◌, subst, arith}
use Rattle.std.proofs.lemmas.List.{length-take-le}
use native.Mathlib.Nat.{sub-zero}
use Rattle.joiner.specs.Costs.{Low}
use Rattle.frame.specs.Blocks.{block, blocks}
use Rattle.joiner.specs.Answers.{refusal_of, told, or_refusal}
use Rattle.joiner.specs.declared.refusal.JoinRefusal.{JoinRefusal}
use Rattle.frame.proofs.Written.{room, length_block}
use Rattle.frame.proofs.Vectors.{none_refused}

pub front_is : (q s i : ℕ) (l area : List ℕ) → q ≡ s → take q l ≡ block q i area → take (q - 0) l ≡ block s i area
front_is q s i l area e h = ap (λ n. take n l) (sub-zero q) ∙ h ∙ ap (λ n. block n i area) e

-- the front of the array that a step writes to
pub front_long : (q : ℕ) → q ≤ 64 → length (take (q - 0) (replicate {A = ℕ} 64 0)) ≡ q
front_long q h = ap (λ n. length (take n (replicate {A = ℕ} 64 0))) (sub-zero q) ∙ length-take-le q (replicate {A = ℕ} 64 0) h

pub clear : (s top i j n : ℕ) (area l r : List ℕ) → l ≡ block s i area → r ≡ block s j area → n ≡ s → i < blocks s area → j < blocks s area →
    (1 ≤ top) × (top ≤ 1023) → Low top (block s i area) → Low top (block s j area) → refusal_of s top l r n ≡ None
clear s top i j n area l r el er en hi hj h low wol =
    none_refused s top l r n h.0 h.1
    (ap length el ∙ length_block s i area (room s i (length area) hi))
    (ap length er ∙ length_block s j area (room s j (length area) hj))
    en (subst (Low top) (sym el) low) (subst (Low top) (sym er) wol)

pub ok_told : (r : Result ℕ JoinRefusal) (o : Option ℕ) (m : ℕ) → o ≡ None → told r ≡ or_refusal o m → IsOk r
ok_told (Ok n) o m e t = refl
ok_told (Err f) o m e t = let s : told (Err f) ≡ Ok m = t ∙ ap (λ x. or_refusal x m) e in let z : ◌≡◌ {A = ℕ} 0 1 = cc in absurd (let w : ⊥ = omega arith in w)

pub told_is : (o : Option ℕ) (n m : ℕ) → o ≡ None → told (Ok n) ≡ or_refusal o m → n ≡ m
told_is o n m e t = let s : told (Ok n) ≡ Ok m = t ∙ ap (λ x. or_refusal x m) e in cc
