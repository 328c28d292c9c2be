-- A text cut into pieces: its first piece, and what is left behind it.
use Rattle.std.proofs.Common.{◌≡◌, ℕ, suc, ◌+◌, ◌-◌, ◌<◌, ◌≤◌, Bool, true, false, cond, eqb, ltb, List, [], ◌∷◌, length, get_or, take, drop, count_by, Some, None, Option, sym, refl, ap, ◌∙◌, arith}
use Rattle.std.proofs.lemmas.List.Recursion.{is_position_or_len, is_count_by}
use Rattle.std.specs.List.{position_or_len}
use Rattle.std.specs.Option.{unwrap_or}
use Rattle.std.proofs.lemmas.Bool.{ltb-false}
use Rattle.sheet.specs.Pieces.{cut, split, first}

-- one byte before the pieces
head_cut : (t : Bool) (b : ℕ) (bs : List ℕ) (ps : List (List ℕ)) → take (length (get_or ps 0 [])) bs ≡ get_or ps 0 [] → take (length (get_or (cut t b ps) 0 [])) (b ∷ bs) ≡ get_or (cut t b ps) 0 []
head_cut true b bs ps e = refl
head_cut false b bs [] e = refl
head_cut false b bs (p ∷ ps) e = ap (λ q. b ∷ q) e

within_cut : (t : Bool) (b : ℕ) (bs : List ℕ) (ps : List (List ℕ)) → length (get_or ps 0 []) ≤ length bs → length (get_or (cut t b ps) 0 []) ≤ length (b ∷ bs)
within_cut true b bs ps h = omega arith
within_cut false b bs [] h = omega arith
within_cut false b bs (p ∷ ps) h = omega arith

some_cut : (t : Bool) (b : ℕ) (ps : List (List ℕ)) → ps ≡ get_or ps 0 [] ∷ drop 1 ps → cut t b ps ≡ get_or (cut t b ps) 0 [] ∷ drop 1 (cut t b ps)
some_cut true b ps e = refl
some_cut false b [] e = refl
some_cut false b (p ∷ ps) e = refl

-- the first piece is the front of the text
pub first_is : (c : ℕ) (bs : List ℕ) → take (length (first c bs)) bs ≡ first c bs
unfolding split
first_is c [] = refl
first_is c (b ∷ bs) = head_cut (eqb b c) b bs (split c bs) (first_is c bs)

-- the same of a slice that is cut off at the first stop
pub front : (c n : ℕ) (xs ys : List ℕ) → ys ≡ xs → n ≡ length (first c ys) → take (n - 0) ys ≡ first c xs
front c n xs ys e h =
    let k : n - 0 ≡ length (first c ys) = omega arith in
    ap (λ m. take m ys) k ∙ first_is c ys ∙ ap (first c) e

pub first_within : (c : ℕ) (bs : List ℕ) → length (first c bs) ≤ length bs
unfolding split
first_within c [] = omega arith
first_within c (b ∷ bs) = within_cut (eqb b c) b bs (split c bs) (first_within c bs)

-- there is a first piece
pub split_some : (c : ℕ) (bs : List ℕ) → split c bs ≡ first c bs ∷ drop 1 (split c bs)
unfolding split
split_some c [] = refl
split_some c (b ∷ bs) = some_cut (eqb b c) b (split c bs) (split_some c bs)

-- behind the first piece: the pieces of what stands after the cut, if there is one
rest_cut : (t : Bool) (c b : ℕ) (bs : List ℕ) (ps : List (List ℕ)) → split c bs ≡ ps → ps ≡ get_or ps 0 [] ∷ drop 1 ps → (length (get_or ps 0 []) < length bs → drop 1 ps ≡ split c (drop (length (get_or ps 0 []) + 1) bs)) → length (get_or (cut t b ps) 0 []) < length (b ∷ bs) → drop 1 (cut t b ps) ≡ split c (drop (length (get_or (cut t b ps) 0 []) + 1) (b ∷ bs))
rest_cut true c b bs ps e s f h = sym e
rest_cut false c b bs [] e s f h = absurd (let z : ◌≡◌ {A = ℕ} 0 1 = cc in omega arith)
rest_cut false c b bs (p ∷ ps) e s f h =
    let n : suc (length p + 1) ≡ suc (length p) + 1 = omega arith in
    f (omega arith) ∙ ap (λ k. split c (drop k (b ∷ bs))) n

pub split_rest : (c : ℕ) (bs : List ℕ) → length (first c bs) < length bs → drop 1 (split c bs) ≡ split c (drop (length (first c bs) + 1) bs)
unfolding split
split_rest c [] h = absurd (omega arith)
split_rest c (b ∷ bs) h = rest_cut (eqb b c) c b bs (split c bs) refl (split_some c bs) (split_rest c bs) h

last_cut : (t : Bool) (b : ℕ) (bs : List ℕ) (ps : List (List ℕ)) → ps ≡ get_or ps 0 [] ∷ drop 1 ps → (length bs ≤ length (get_or ps 0 []) → drop 1 ps ≡ []) → length (b ∷ bs) ≤ length (get_or (cut t b ps) 0 []) → drop 1 (cut t b ps) ≡ []
last_cut true b bs ps s f h = absurd (omega arith)
last_cut false b bs [] s f h = refl
last_cut false b bs (p ∷ ps) s f h = f (omega arith)

pub split_last : (c : ℕ) (bs : List ℕ) → length bs ≤ length (first c bs) → drop 1 (split c bs) ≡ []
unfolding split
split_last c [] h = refl
split_last c (b ∷ bs) h = last_cut (eqb b c) b bs (split c bs) (split_some c bs) (split_last c bs) h

-- the first piece ends at the first cut, and there is one piece more than cuts
size_cut : (t : Bool) (b : ℕ) (ps : List (List ℕ)) → ps ≡ get_or ps 0 [] ∷ drop 1 ps → length (get_or (cut t b ps) 0 []) ≡ cond t 0 (1 + length (get_or ps 0 []))
size_cut true b ps e = refl
size_cut false b [] e = absurd (let z : ◌≡◌ {A = ℕ} 0 1 = cc in omega arith)
size_cut false b (p ∷ ps) e = omega arith

pub first_size : (c : ℕ) (bs : List ℕ) → length (first c bs) ≡ position_or_len (λ b. eqb b c) bs
unfolding split
first_size c = is_position_or_len (λ bs. length (first c bs)) (λ b. eqb b c) refl (λ b bs. size_cut (eqb b c) b (split c bs) (split_some c bs))

-- the first place where a byte passes, or the end
met : (t : Bool) (n m : ℕ) → ltb n m ≡ t → n ≤ m → unwrap_or (cond t (Some n) None) m ≡ n
met true n m e h = refl
met false n m e h = omega (arith, ltb-false n m e)

pub met_first : (c n : ℕ) (bs : List ℕ) (o : Option ℕ) → o ≡ cond (ltb (position_or_len (λ b. eqb b c) bs) (length bs)) (Some (position_or_len (λ b. eqb b c) bs)) None → n ≡ unwrap_or o (length bs) → n ≡ length (first c bs)
met_first c n bs o e f =
    let k = position_or_len (λ b. eqb b c) bs in
    f ∙ ap (λ v. unwrap_or v (length bs)) e ∙ met (ltb k (length bs)) k (length bs) refl (omega (arith, first_size c bs, first_within c bs)) ∙ sym (first_size c bs)

count_cut : (t : Bool) (b : ℕ) (ps : List (List ℕ)) → ps ≡ get_or ps 0 [] ∷ drop 1 ps → length (cut t b ps) - 1 ≡ cond t (1 + (length ps - 1)) (length ps - 1)
count_cut true b [] e = absurd (let z : ◌≡◌ {A = ℕ} 0 1 = cc in omega arith)
count_cut true b (p ∷ ps) e = omega arith
count_cut false b [] e = absurd (let z : ◌≡◌ {A = ℕ} 0 1 = cc in omega arith)
count_cut false b (p ∷ ps) e = refl

cuts : (c : ℕ) (bs : List ℕ) → length (split c bs) - 1 ≡ count_by (λ b. eqb b c) bs
unfolding split
cuts c = is_count_by (λ bs. length (split c bs) - 1) (λ b. eqb b c) refl (λ b bs. count_cut (eqb b c) b (split c bs) (split_some c bs))

pub split_count : (c : ℕ) (bs : List ℕ) → length (split c bs) ≡ count_by (λ b. eqb b c) bs + 1
split_count c bs = omega (arith, cuts c bs, ap length (split_some c bs))
