-- One turn of the loops over a number's digits.
use Rattle.std.proofs.Common.{◌≡◌, ℕ, zero, suc, ◌+◌, ◌-◌, ◌*◌, ◌^◌, ◌<◌, ◌≤◌, true, false, ◌&&◌, List, [], ◌∷◌, length, get_or, drop, sym, refl, ap, ◌∙◌, arith}
use Rattle.std.proofs.lemmas.List.{at_drop_more}
use Rattle.std.proofs.lemmas.Bool.{and_parts, leb-true}
use Rattle.std.specs.Char.{is_ascii_digit}
use Rattle.std.specs.List.{list_all}
use Rattle.sheet.specs.Words.{digit, digits, value}

pub digits_more : (xs : List ℕ) (i : ℕ) → i < length xs → true ≡ digit (get_or xs i 0) → digits (drop i xs) ≡ digits (drop (i + 1) xs)
digits_more xs i h e = at_drop_more digits xs i 0 h ∙ ap (λ b. b && digits (drop (i + 1) xs)) (sym e)

pub digits_not : (xs : List ℕ) (i : ℕ) → i < length xs → false ≡ digit (get_or xs i 0) → digits (drop i xs) ≡ false
digits_not xs i h e = at_drop_more digits xs i 0 h ∙ ap (λ b. b && digits (drop (i + 1) xs)) (sym e)

-- one more digit still fits
pub room : (i v d : ℕ) → i < 4 → v < 10 ^ i → d < 10 → (v * 10 + d < 10 ^ (i + 1)) × (v * 10 + d < 10000)
room zero v d h k l = (omega arith, omega arith)
room (suc zero) v d h k l = (omega arith, omega arith)
room (suc (suc zero)) v d h k l = (omega arith, omega arith)
room (suc (suc (suc zero))) v d h k l = (omega arith, omega arith)
room (suc (suc (suc (suc i)))) v d h k l = absurd (omega arith)

-- the digit at i, and the digits after it
pub digits_at : (xs : List ℕ) (i : ℕ) → i < length xs → digits (drop i xs) ≡ true → (48 ≤ get_or xs i 0) × (get_or xs i 0 ≤ 57) × (digits (drop (i + 1) xs) ≡ true)
digits_at xs i h e =
    let both = and_parts (digit (get_or xs i 0)) (digits (drop (i + 1) xs)) (sym (at_drop_more digits xs i 0 h) ∙ e) in
    let two = and_parts _ _ both.0 in
    (leb-true _ _ two.0, leb-true _ _ two.1, both.1)

pub value_more : (xs : List ℕ) (i v : ℕ) → i < length xs → value v (drop i xs) ≡ value (v * 10 + (get_or xs i 0 - 48)) (drop (i + 1) xs)
value_more xs i v h = at_drop_more (value v) xs i 0 h

pub all_digits_list : (xs : List ℕ) → list_all is_ascii_digit xs ≡ digits xs
all_digits_list [] = refl
all_digits_list (x ∷ xs) = ap (λ b. digit x && b) (all_digits_list xs)
