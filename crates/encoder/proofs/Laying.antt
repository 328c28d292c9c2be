-- One edge more in the bytes. Assumes nothing.
use Rattle.std.proofs.Common.{◌≡◌, ℕ, suc, ◌+◌, ◌-◌, ◌*◌, ◌<◌, ◌≤◌, Bool, true, false, cond, ◌&&◌, eqb, List, ◌++◌, length, get_or, set, take, sym, refl, ap, ◌∙◌, subst, arith, get_or-set_other, get_or-set_same}
use Rattle.std.proofs.Math.ListN.{replicate}
use Rattle.std.proofs.lemmas.List.{get_or_append_left, get_or-replicate, length-replicate, length-take}
use native.Mathlib.Decide.{ℕ_discrete}
use lib.Arith.{digits_lt}
use Rattle.code.specs.declared.table.Edge.{Edge}
use Rattle.linear.proofs.Tests.{eqb_same, eqb_not}
use Rattle.linear.specs.Words.{Entries}
use Rattle.encoder.specs.Bytes.{laid, LaidTo}
use Rattle.encoder.specs.CheckMatrix.{edge_at, coefficient_in, matrix_of}
use Rattle.encoder.proofs.Places.{room_at, same_place}

and_false : (b : Bool) → b && false ≡ false
and_false true = refl
and_false false = refl

pub laid_none : (es : List Edge) (s : List ℕ) (m n : ℕ) → ((x : ℕ) → x < m * n → get_or s x 0 ≡ 0) → LaidTo es s m n 0
unfolding coefficient_in
laid_none es s m n z = record { entry = λ r c h k. z (r * n + c) (digits_lt h k) }

pub laid_more : (es : List Edge) (s : List ℕ) (m n k k' : ℕ) → k' ≡ suc k → m * n ≤ length s → (edge_at es k).row < m → (edge_at es k).column < n → LaidTo es s m n k → LaidTo es (set s ((edge_at es k).row * n + (edge_at es k).column) (edge_at es k).coefficient) m n k'
unfolding coefficient_in
laid_more es s m n k k' ek room hr hc inv = subst (λ (x : ℕ). LaidTo es (set s place v) m n x) (sym ek) (record { entry = λ r c h q. go r c h q (ℕ_discrete (edge_at es k).row r) (ℕ_discrete (edge_at es k).column c) })
  where
    place : ℕ
    place = (edge_at es k).row * n + (edge_at es k).column

    v : ℕ
    v = (edge_at es k).coefficient

    in_range_is : place < length s
    in_range_is = room_at s m n (edge_at es k).row (edge_at es k).column room hr hc

    off : (x : ℕ) → ¬ (x ≡ place) → get_or (set s place v) x 0 ≡ get_or s x 0
    off x d = rw get_or-set_other

    here : get_or (set s place v) place 0 ≡ v
    here = rw (get_or-set_same, in_range_is)

    go : (r c : ℕ) → r < m → c < n → Dec ((edge_at es k).row ≡ r) → Dec ((edge_at es k).column ≡ c) → get_or (set s place v) (r * n + c) 0 ≡ cond (eqb (edge_at es k).row r && eqb (edge_at es k).column c) v (coefficient_in es k r c)
    go r c h q (no d) x = off (r * n + c) (λ z. d (sym (same_place n r c (edge_at es k).row (edge_at es k).column q hc z).0)) ∙ inv.entry r c h q ∙ (rw (eqb_not (edge_at es k).row r d))
    go r c h q (yes a) (no d) = off (r * n + c) (λ z. d (sym (same_place n r c (edge_at es k).row (edge_at es k).column q hc z).1)) ∙ inv.entry r c h q ∙ (rw (eqb_not (edge_at es k).column c d, and_false (eqb (edge_at es k).row r)))
    go r c h q (yes a) (yes b) =
        subst (λ (y : ℕ). get_or (set s place v) (y * n + c) 0 ≡ cond (eqb (edge_at es k).row y && eqb (edge_at es k).column c) v (coefficient_in es k y c)) a
        (subst (λ (y : ℕ). get_or (set s place v) ((edge_at es k).row * n + y) 0 ≡ cond (eqb (edge_at es k).row (edge_at es k).row && eqb (edge_at es k).column y) v (coefficient_in es k (edge_at es k).row y)) b
        (here ∙ (rw (eqb_same (edge_at es k).row, eqb_same (edge_at es k).column))))

-- the bytes hold the matrix of the edges
pub laid_entries : (q : ℕ) (es : List Edge) (s : List ℕ) (m n : ℕ) → LaidTo es s m n (length es) → Entries q (matrix_of m n es) → Entries q (laid s m n)
laid_entries q es s m n at E = record { below = λ r c h k. subst (λ (x : ℕ). x < q) (sym (at.entry r c h k)) (E.below r c h k) }

-- what was filled with zeros holds zeros
pub zero_front : (s front rest : List ℕ) (k : ℕ) → k ≤ length s → front ≡ replicate (length (take (k - 0) s)) 0 → (x : ℕ) → x < k → get_or (front ++ rest) x 0 ≡ 0
zero_front s front rest k h e x l =
    let many = length-take (k - 0) s in
    let long = ap length e ∙ length-replicate (length (take (k - 0) s)) 0 in
    get_or_append_left front rest 0 x (omega arith) ∙ ap (λ (f : List ℕ). get_or f x 0) e ∙ get_or-replicate (length (take (k - 0) s)) x 0 0 (omega arith)
