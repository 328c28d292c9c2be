-- How numbers are spelled: what a field writes, and what is read of it.
use Rattle.std.proofs.Common.{◌≡◌, ℕ, ◌<◌, ◌≤◌, Bool, true, false, cond, not, ◌&&◌, eqb, ltb, leb, List, [], ◌∷◌, length, get_or, Some, None, Ok, decimal, Option, sym, refl, ap, ◌∙◌, inl, inr, ⊎_elim, arith}
use Rattle.std.proofs.lemmas.Bool.{true≢false, cond-true, cases_lt, and_from, and_left, and_right, and_parts, and_cases, not-true, not_from_false, eqb-true, leb-true, leb-false, eq-eqb, ne_eqb, le-leb, lt-leb, lt-ltb, both_ways}
use Rattle.std.proofs.lemmas.Str.Parse.{IsNumeralModel, IsDigitsTest, FoldsDigits, numerals_by_fold, digits_value_short}
use Rattle.std.proofs.lemmas.Fmt.{decimal_digit, decimal_nonempty, length-decimal-le, first_decimal, digits_decimal, digits_value-decimal, decimal-digits_value}
use Rattle.sheet.specs.declared.fault.Place.{Place}
use Rattle.sheet.specs.Words.{letter, number, dash, word_of, Cell, digit, digits, value, written, decimal_of}
use Rattle.sheet.specs.Lines.{place_of, cell, as_number, as_ceiling, or_not_written, numeral, ceiling_of, ranged}
use Rattle.sheet.specs.Grammar.{Spelled}
use Rattle.sheet.proofs.Turns.{digits_at}

tells : IsDigitsTest (λ ds. digits ds ≡ true)
tells =
    record {
      empty = refl;
      parts = λ c cs e. let both = and_parts (digit c) (digits cs) e in let two = and_parts (leb 48 c) (leb c 57) both.0 in ((leb-true _ _ two.0, leb-true _ _ two.1), both.1);
      more = λ c cs i e. and_from (digit c) (digits cs) (and_from (leb 48 c) (leb c 57) (le-leb 48 c i.0) (le-leb c 57 i.1)) e;
    }

folds : FoldsDigits value
folds = record { empty = λ n. refl; more = λ n c cs i. refl }

pub own : IsNumeralModel (λ ds. digits ds ≡ true) (value 0)
own = numerals_by_fold (λ ds. digits ds ≡ true) tells value folds

lone_zero : (bs : List ℕ) → 1 ≤ length bs → not (eqb (get_or bs 0 0) 48 && leb 2 (length bs)) ≡ true → get_or bs 0 0 ≡ 48 → length bs ≡ 1
lone_zero bs h e z =
    ⊎_elim (λ f. absurd (both_ways (eqb (get_or bs 0 0) 48) f (eq-eqb _ _ z))) (λ f. omega (arith, leb-false 2 (length bs) f)) (and_cases (eqb (get_or bs 0 0) 48) (leb 2 (length bs)) (not-true _ e))

decimal_cond : (t : Bool) (bs : List ℕ) (n : ℕ) → written bs ≡ t → cond {A = Option ℕ} t (Some (value 0 bs)) None ≡ Some n → bs ≡ decimal n
decimal_cond false bs n w e = absurd (let z : ◌≡◌ {A = ℕ} 0 1 = cc in omega arith)
decimal_cond true bs n w e =
    let one = and_parts (leb 1 (length bs)) _ w in
    let two = and_parts (leb (length bs) 4) _ one.1 in
    let three = and_parts (digits bs) _ two.1 in
    let some : 1 ≤ length bs = leb-true 1 (length bs) one.0 in
    let few : length bs ≤ 4 = leb-true (length bs) 4 two.0 in
    let small = digits_value_short own bs 4 three.0 few in
    let is : value 0 bs ≡ n = cc in
    sym (decimal-digits_value own bs three.0 (omega arith) (lone_zero bs some three.1) (omega arith)) ∙ ap decimal is

-- what is read as a number is spelled as one
pub decimal_of_is : (bs : List ℕ) (n : ℕ) → decimal_of bs ≡ Some n → bs ≡ decimal n
unfolding decimal_of
decimal_of_is bs n e = decimal_cond (written bs) bs n refl e

number_cond : (s t : Bool) (f : List ℕ) (n : ℕ) → as_number (cond s (dash f) (cond t (letter f) (number f))) ≡ Some n → f ≡ decimal n
number_cond true t f n e = absurd (let z : ◌≡◌ {A = ℕ} 0 1 = cc in omega arith)
number_cond false true f n e = absurd (let z : ◌≡◌ {A = ℕ} 0 1 = cc in omega arith)
number_cond false false f n e = decimal_of_is f n e

pub one_byte : (f : List ℕ) (b : ℕ) → length f ≡ 1 → get_or f 0 0 ≡ b → f ≡ b ∷ []
one_byte [] b h e = absurd (omega arith)
one_byte (x ∷ []) b h e = ap (λ y. y ∷ []) e
one_byte (x ∷ (y ∷ f)) b h e = absurd (omega arith)

ceiling_cond : (s t : Bool) (f : List ℕ) (n : ℕ) → (eqb (length f) 1 && eqb (get_or f 0 0) 45) ≡ s → as_ceiling (cond s (dash f) (cond t (letter f) (number f))) ≡ Some n → Spelled n f
ceiling_cond true t f n g e = let both = and_parts (eqb (length f) 1) (eqb (get_or f 0 0) 45) g in inr (cc, one_byte f 45 (eqb-true _ _ both.0) (eqb-true _ _ both.1))
ceiling_cond false true f n g e = absurd (let z : ◌≡◌ {A = ℕ} 0 1 = cc in omega arith)
ceiling_cond false false f n g e = inl (decimal_of_is f n e)

some_written : (o : Option ℕ) (p : Place) (n : ℕ) → or_not_written o p ≡ Ok n → o ≡ Some n
some_written None p n e = absurd (let z : ◌≡◌ {A = ℕ} 0 1 = cc in omega arith)
some_written (Some m) p n e = cc

pub numeral_spelled : (p : Place) (fs : List (List ℕ)) (i n : ℕ) → numeral (cell p fs i) ≡ Ok n → get_or fs i [] ≡ decimal n
unfolding numeral word_of
numeral_spelled p fs i n e =
    let f = get_or fs i [] in
    number_cond (eqb (length f) 1 && eqb (get_or f 0 0) 45) (eqb (length f) 1 && (leb 65 (get_or f 0 0) && leb (get_or f 0 0) 90)) f n (some_written (as_number (word_of f)) (place_of (cell p fs i)) n e)

pub ceiling_spelled : (p : Place) (fs : List (List ℕ)) (i n : ℕ) → ceiling_of (cell p fs i) ≡ Ok n → Spelled n (get_or fs i [])
unfolding ceiling_of word_of
ceiling_spelled p fs i n e =
    let f = get_or fs i [] in
    ceiling_cond (eqb (length f) 1 && eqb (get_or f 0 0) 45) (eqb (length f) 1 && (leb 65 (get_or f 0 0) && leb (get_or f 0 0) 90)) f n refl (some_written (as_ceiling (word_of f)) (place_of (cell p fs i)) n e)

-- ---- and back

no_lead : (n : ℕ) → n < 10000 → not (eqb (get_or (decimal n) 0 0) 48 && leb 2 (length (decimal n))) ≡ true
no_lead n h =
    not_from_false _
    (⊎_elim (λ l. and_right (eqb (get_or (decimal n) 0 0) 48) (leb 2 (length (decimal n))) (lt-leb 2 (length (decimal n)) (omega (arith, ap length (decimal_digit n l)))))
    (λ l. and_left (eqb (get_or (decimal n) 0 0) 48) (leb 2 (length (decimal n))) (ne_eqb _ _ (λ e. omega (arith, first_decimal n (omega arith) (omega arith), e)))) (cases_lt n 10))

decimal_written : (n : ℕ) → n < 10000 → written (decimal n) ≡ true
decimal_written n h =
    and_from _ _ (le-leb 1 (length (decimal n)) (omega (arith, decimal_nonempty n (omega arith))))
    (and_from _ _ (le-leb (length (decimal n)) 4 (length-decimal-le 4 n (omega arith) (omega arith) (omega arith))) (and_from _ _ (digits_decimal own n (omega arith)) (no_lead n h)))

decimal_read : (n : ℕ) → n < 10000 → decimal_of (decimal n) ≡ Some n
unfolding decimal_of
decimal_read n h = cond-true (written (decimal n)) _ _ (decimal_written n h) ∙ ap Some (digits_value-decimal own n (omega arith))

-- its first byte is a digit
first_digit : (n : ℕ) → n < 10000 → (48 ≤ get_or (decimal n) 0 0) × (get_or (decimal n) 0 0 ≤ 57)
first_digit n h = let d = digits_at (decimal n) 0 (decimal_nonempty n (omega arith)) (digits_decimal own n (omega arith)) in (d.0, d.1)

word_cond : (s t : Bool) (bs : List ℕ) → s ≡ false → t ≡ false → cond s (dash bs) (cond t (letter bs) (number bs)) ≡ number bs
word_cond true t bs e g = absurd (true≢false e)
word_cond false true bs e g = absurd (true≢false g)
word_cond false false bs e g = refl

word_decimal : (n : ℕ) → n < 10000 → word_of (decimal n) ≡ number (decimal n)
unfolding word_of
word_decimal n h =
    let d = first_digit n h in
    let one : eqb (get_or (decimal n) 0 0) 45 ≡ false = ne_eqb _ _ (λ e. omega (arith, d.0, e)) in
    let two : leb 65 (get_or (decimal n) 0 0) ≡ false = lt-leb 65 _ (omega (arith, d.1)) in
    word_cond (eqb (length (decimal n)) 1 && eqb (get_or (decimal n) 0 0) 45) (eqb (length (decimal n)) 1 && (leb 65 (get_or (decimal n) 0 0) && leb (get_or (decimal n) 0 0) 90)) (decimal n) (and_right _ _ one) (and_right _ _ (and_left _ _ two))

pub numeral_read : (p : Place) (fs : List (List ℕ)) (i n : ℕ) → n < 10000 → get_or fs i [] ≡ decimal n → Ok n ≡ numeral (cell p fs i)
unfolding numeral
numeral_read p fs i n h e =
    let w : as_number (word_of (get_or fs i [])) ≡ Some n = ap (λ f. as_number (word_of f)) e ∙ ap as_number (word_decimal n h) ∙ decimal_read n h in
    ap (λ o. or_not_written o (place_of (cell p fs i))) (sym w)

pub ceiling_read : (p : Place) (fs : List (List ℕ)) (i n : ℕ) → n < 10000 → Spelled n (get_or fs i []) → Ok n ≡ ceiling_of (cell p fs i)
unfolding ceiling_of word_of
ceiling_read p fs i n h s =
    let w : as_ceiling (word_of (get_or fs i [])) ≡ Some n = ⊎_elim (λ e. ap (λ f. as_ceiling (word_of f)) e ∙ ap as_ceiling (word_decimal n h) ∙ decimal_read n h) (λ e. ap (λ f. as_ceiling (word_of f)) e.1 ∙ ap Some (sym e.0)) s in
    ap (λ o. or_not_written o (place_of (cell p fs i))) (sym w)

pub ranged_read : (c : Cell) (low limit n : ℕ) → low ≤ n → n < limit → Ok tt ≡ ranged c low limit n
unfolding ranged
ranged_read c low limit n a b = sym (cond-true (leb low n && ltb n limit) _ _ (and_from _ _ (le-leb low n a) (lt-ltb n limit b)))
