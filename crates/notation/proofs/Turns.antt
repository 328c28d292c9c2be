-- One turn of the loop over a number's digits.
use Rattle.std.proofs.Common.{◌≡◌, ℕ, ◌+◌, ◌-◌, ◌*◌, ◌<◌, ◌≤◌, true, false, leb, List, [], ◌∷◌, length, Some, None, sym, ap, ◌∙◌, arith}
use Rattle.std.proofs.lemmas.Bool.{cond-true, cond-false, and_from, and_left, and_right, le-leb, lt-leb}
use Rattle.sheet.specs.Words.{digits, value}
use Rattle.notation.specs.Numbers.{is_number, number_of}

-- more digits never write less
pub value_grows : (v : ℕ) (bs : List ℕ) → v ≤ value v bs
value_grows v [] = omega arith
value_grows v (b ∷ bs) = omega (arith, value_grows (v * 10 + (b - 48)) bs)

-- no digits, too large a number, or a byte that is no digit
pub none_empty : (n : ℕ) (bs : List ℕ) → length bs ≡ 0 → None ≡ number_of n bs
unfolding number_of
none_empty n bs e = sym (cond-false (is_number n bs) _ _ (and_left (leb 1 (length bs)) _ (lt-leb 1 (length bs) (omega arith))))

pub none_large : (n : ℕ) (bs : List ℕ) → n < value 0 bs → None ≡ number_of n bs
unfolding number_of
none_large n bs h = sym (cond-false (is_number n bs) _ _ (and_right (leb 1 (length bs)) _ (and_right (digits bs) _ (lt-leb (value 0 bs) n h))))

pub none_other : (n : ℕ) (bs : List ℕ) → digits bs ≡ false → None ≡ number_of n bs
unfolding number_of
none_other n bs e = sym (cond-false (is_number n bs) _ _ (and_right (leb 1 (length bs)) _ (and_left (digits bs) _ e)))

pub some_number : (n v : ℕ) (bs : List ℕ) → 0 < length bs → digits bs ≡ true → value 0 bs ≡ v → v ≤ n → Some v ≡ number_of n bs
unfolding number_of
some_number n v bs l d e h =
    let fits : value 0 bs ≤ n = omega arith in
    ap Some (sym e) ∙ sym (cond-true (is_number n bs) _ _ (and_from _ _ (le-leb 1 (length bs) (omega arith)) (and_from _ _ d (le-leb (value 0 bs) n fits))))
