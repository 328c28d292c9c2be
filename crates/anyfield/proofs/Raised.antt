-- Towers one on the other.
use Rattle.std.proofs.Common.{◌≡◌, ℕ, zero, suc, ◌+◌, ◌-◌, ◌<◌, ◌≤◌, Bool, true, false, eqb, List, [], ◌∷◌, length, Err, codes, Result, sym, refl, ap, ◌∙◌, add-one, arith}
use Rattle.std.specs.Str.{bytes_eq}
use Rattle.std.proofs.lemmas.Bool.{cond-true, cond-false}
use Rattle.sheet.specs.Pieces.{cut, split}
use Rattle.anyfield.specs.Fields.{Made}
use Rattle.anyfield.specs.Written.{Fault, not_written, base_of, field_of, raise, raises, read_field, whole}

-- a fault stays the fault
pub raises_fault : (n : ℕ) (f : Fault) → raises n (Err f) ≡ Err f
unfolding raises
raises_fault zero f = refl
raises_fault (suc n) f = raises_fault n f

pub raises_none : (x : Result (Made × List (List ℕ)) Fault) → raises 0 x ≡ x
unfolding raises
raises_none x = refl

-- one tower fewer is to come
pub raises_less : (n i : ℕ) (x : Result (Made × List (List ℕ)) Fault) → i < n → raises (n - i) x ≡ raises (n - (i + 1)) (raise x)
unfolding raises
raises_less n i x h =
    let e : n - i ≡ suc (n - (i + 1)) = omega arith in
    ap (λ k. raises k x) e

-- one tower more has come
pub raises_more : (n : ℕ) (x : Result (Made × List (List ℕ)) Fault) → raises (n + 1) x ≡ raises n (raise x)
unfolding raises
raises_more n x = ap (λ k. raises k x) (add-one n)

-- no word, the word of a tower, or another word
pub field_none : Err not_written ≡ field_of []
unfolding field_of
field_none = refl

pub field_tower : (w : List ℕ) (ps : List (List ℕ)) → true ≡ bytes_eq w (codes "tower") → raise (field_of ps) ≡ field_of (w ∷ ps)
unfolding field_of
field_tower w ps e = sym (cond-true (bytes_eq w (codes "tower")) (raise (field_of ps)) (base_of w ps) (sym e))

pub field_base : (w : List ℕ) (ps : List (List ℕ)) → false ≡ bytes_eq w (codes "tower") → base_of w ps ≡ field_of (w ∷ ps)
unfolding field_of
field_base w ps e = sym (cond-false (bytes_eq w (codes "tower")) (raise (field_of ps)) (base_of w ps) (sym e))

cut_few : (t : Bool) (b : ℕ) (bs : List ℕ) (ps : List (List ℕ)) → length ps ≤ length bs + 1 → length (cut t b ps) ≤ length (b ∷ bs) + 1
cut_few true b bs ps h = omega arith
cut_few false b bs [] h = omega arith
cut_few false b bs (p ∷ ps) h = omega arith

-- a text has at most one piece more than bytes
pub pieces_few : (c : ℕ) (bs : List ℕ) → length (split c bs) ≤ length bs + 1
unfolding split
pieces_few c [] = omega arith
pieces_few c (b ∷ bs) = cut_few (eqb b c) b bs (split c bs) (pieces_few c bs)

-- what the pieces of a whole text say
pub read_by : (bs : List ℕ) (ps : List (List ℕ)) (n : ℕ) (x : Result (Made × List (List ℕ)) Fault) → ps ≡ split 58 bs → raises n x ≡ field_of ps → whole (raises n x) ≡ read_field bs
read_by bs ps n x e h = ap whole (h ∙ ap field_of e)
