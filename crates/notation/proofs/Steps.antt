-- One step over the pieces of a text.
use Rattle.std.proofs.Common.{◌≡◌, ◌==◌, ℕ, ◌+◌, ◌-◌, ◌<◌, ◌≤◌, Bool, true, false, cond, ltb, Some, None, List, [], ◌∷◌, length, take, drop, sym, refl, ap, ◌∙◌, arith}
use Rattle.std.specs.List.{position, position_or_len}
use Rattle.std.proofs.Math.Seq.{take-length}
use Rattle.std.proofs.lemmas.Bool.{ltb-true, ltb-false}
use Rattle.std.proofs.lemmas.List.{take_rest}
use Rattle.sheet.specs.Pieces.{split, first}
use Rattle.sheet.proofs.Splits.{first_is, first_size, first_within, split_some, split_rest, split_last}

placed : (t : Bool) (l n : ℕ) → cond t (Some l) None ≡ Some n → (t ≡ true) × (l ≡ n)
placed true l n e = (refl, cc)
placed false l n e = absurd (let z : ◌≡◌ {A = ℕ} 0 1 = cc in omega arith)

unplaced : (t : Bool) (l : ℕ) → cond t (Some l) None ≡ None → t ≡ false
unplaced true l e = absurd (let z : ◌≡◌ {A = ℕ} 0 1 = cc in omega arith)
unplaced false l e = refl

-- there is a stop: the rest has pieces
pub step_on : (c n : ℕ) (bs : List ℕ) → Some n ≡ position (λ b. b == c) bs → split c bs ≡ take n bs ∷ split c (take (length bs - (n + 1)) (drop (n + 1) bs))
step_on c n bs e =
    let at = placed (ltb (position_or_len (λ b. b == c) bs) (length bs)) (position_or_len (λ b. b == c) bs) n (sym e) in
    let f : length (first c bs) ≡ n = first_size c bs ∙ at.1 in
    let s : length (first c bs) < length bs = omega (arith, f, at.1, ltb-true _ _ at.0) in
    split_some c bs
    ∙ ap (λ p. p ∷ drop 1 (split c bs)) (sym (first_is c bs) ∙ ap (λ m. take m bs) f)
    ∙ ap (λ ps. take n bs ∷ ps) (split_rest c bs s ∙ ap (λ m. split c (drop (m + 1) bs)) f ∙ ap (split c) (sym (take_rest bs (n + 1))))

-- there is none: the whole rest is the last piece
pub step_end : (c : ℕ) (bs : List ℕ) → None ≡ position (λ b. b == c) bs → split c bs ≡ bs ∷ []
step_end c bs e =
    let s : length bs ≤ length (first c bs) = omega (arith, first_size c bs, ltb-false _ _ (unplaced (ltb (position_or_len (λ b. b == c) bs) (length bs)) (position_or_len (λ b. b == c) bs) (sym e))) in
    let all : length (first c bs) ≡ length bs = omega (arith, s, first_within c bs) in
    split_some c bs
    ∙ ap (λ p. p ∷ drop 1 (split c bs)) (sym (first_is c bs) ∙ ap (λ m. take m bs) all ∙ take-length bs)
    ∙ ap (λ ps. bs ∷ ps) (split_last c bs s)
