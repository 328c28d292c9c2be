-- Tests one after another, and the kind of record that is due.
use Rattle.std.proofs.Common.{◌≡◌, ℕ, ◌<◌, ◌≤◌, Bool, true, false, cond, ◌&&◌, eqb, ltb, leb, List, [], length, get_or, Some, None, Ok, Err, Option, Result, sym, refl, ap, ◌∙◌, arith}
use Rattle.std.proofs.lemmas.Bool.{false≢true, cond-true, and_from, and_parts, eq-eqb, eqb-true, leb-true, ltb-true}
use Rattle.std.specs.Option.{ok_or}
use Rattle.sheet.specs.declared.fault.Place.{Place}
use Rattle.sheet.specs.declared.fault.SheetFault.{SheetFault}
use Rattle.sheet.specs.declared.fault.SheetFault.TheVariants.{NotDue, NotWritten, OutOfRange}
use Rattle.sheet.specs.declared.token.Kind.{Kind}
use Rattle.sheet.specs.declared.token.Kind.TheVariants as kind
use Rattle.sheet.specs.declared.line.Due.{Due}
use Rattle.sheet.specs.declared.line.Due.TheVariants as due
use Rattle.sheet.specs.Words.{letter, number, dash, word_of, Cell, kind_of, record_kind}
use Rattle.sheet.specs.Lines.{◌>>=◌, place_of, ranged, arity, is_due, or_not_written, or_not_due, kind_due}

-- a test that passes, and one that tells
pub on : {A B E : Type 0} {x : Result A E} (f : A → Result B E) {a : A} {r : Result B E} → Ok a ≡ x → r ≡ f a → r ≡ (x >>= f)
unfolding ◌>>=◌
on f p q = q ∙ (λ i. p i >>= f)

pub out : {A B E : Type 0} {x : Result A E} (f : A → Result B E) {e : E} → Err e ≡ x → Err e ≡ (x >>= f)
unfolding ◌>>=◌
out f p = λ i. p i >>= f

pub ok_same : {A E : Type 0} (a b : A) → ◌≡◌ {A = Result A E} (Ok a) (Ok b) → a ≡ b
ok_same a b e = cc

-- what passed, passed each test
pub passed : {A B E : Type 0} (x : Result A E) (f : A → Result B E) (b : B) → (x >>= f) ≡ Ok b → (a : A) × (x ≡ Ok a) × (f a ≡ Ok b)
unfolding ◌>>=◌
passed (Ok a) f b e = (a, refl, e)
passed (Err g) f b e = absurd (let z : ◌≡◌ {A = ℕ} 0 1 = cc in omega arith)

pub written_or : (o : Option ℕ) (p : Place) → ok_or o (NotWritten p) ≡ or_not_written o p
written_or None p = refl
written_or (Some n) p = refl

pub due_ok : (d : Due) (p : Place) (k : Kind) (n : ℕ) (o : Option Kind) → Some k ≡ o → is_due d k ≡ true → n ≡ arity k → Ok k ≡ or_not_due o d p n
due_ok d p k n o e h g = sym (cond-true (is_due d k && eqb n (arity k)) (Ok k) (Err (NotDue p)) (and_from _ _ h (eq-eqb _ _ g))) ∙ ap (λ v. or_not_due v d p n) e

-- what a kind that is due tells of the fields
pub record Begins (d : Due) (k : Kind) (fs : List (List ℕ)) : Type 0 where
  pub kind : record_kind (word_of (get_or fs 0 [])) ≡ Some k
  pub due : is_due d k ≡ true
  pub count : length fs ≡ arity k

taken_cond : (t : Bool) (p : Place) (j k : Kind) → cond {A = Result Kind SheetFault} t (Ok j) (Err (NotDue p)) ≡ Ok k → (t ≡ true) × (j ≡ k)
taken_cond true p j k e = (refl, cc)
taken_cond false p j k e = absurd (let z : ◌≡◌ {A = ℕ} 0 1 = cc in omega arith)

taken_due : (o : Option Kind) (d : Due) (p : Place) (n : ℕ) (k : Kind) → or_not_due o d p n ≡ Ok k → (o ≡ Some k) × (is_due d k ≡ true) × (n ≡ arity k)
taken_due None d p n k e = absurd (let z : ◌≡◌ {A = ℕ} 0 1 = cc in omega arith)
taken_due (Some j) d p n k e =
    let t = taken_cond (is_due d j && eqb n (arity j)) p j k e in
    let both = and_parts (is_due d j) (eqb n (arity j)) t.0 in
    (ap Some t.1, ap (is_due d) (sym t.1) ∙ both.0, eqb-true n (arity j) both.1 ∙ ap arity t.1)

pub begins : (d : Due) (p : Place) (fs : List (List ℕ)) (k : Kind) → kind_due d p fs ≡ Ok k → Begins d k fs
unfolding kind_due
begins d p fs k e =
    let t = taken_due (record_kind (word_of (get_or fs 0 []))) d p (length fs) k e in
    record { kind = t.0; due = t.1; count = t.2 }

letter_cond : (s t : Bool) (f : List ℕ) (k : Kind) → (eqb (length f) 1 && (leb 65 (get_or f 0 0) && leb (get_or f 0 0) 90)) ≡ t → record_kind (cond s (dash f) (cond t (letter f) (number f))) ≡ Some k → (length f ≡ 1) × (kind_of (get_or f 0 0) ≡ Some k)
letter_cond true t f k g e = absurd (let z : ◌≡◌ {A = ℕ} 0 1 = cc in omega arith)
letter_cond false true f k g e = (eqb-true _ _ (and_parts _ _ g).0, e)
letter_cond false false f k g e = absurd (let z : ◌≡◌ {A = ℕ} 0 1 = cc in omega arith)

-- a record's first field is one letter
pub one_letter : (f : List ℕ) (k : Kind) → record_kind (word_of f) ≡ Some k → (length f ≡ 1) × (kind_of (get_or f 0 0) ≡ Some k)
unfolding word_of
one_letter f k e = letter_cond (eqb (length f) 1 && eqb (get_or f 0 0) 45) (eqb (length f) 1 && (leb 65 (get_or f 0 0) && leb (get_or f 0 0) 90)) f k refl e

range_cond : (t : Bool) (p : Place) → cond {A = Result (Unit {0}) SheetFault} t (Ok tt) (Err (OutOfRange p)) ≡ Ok tt → t ≡ true
range_cond true p e = refl
range_cond false p e = absurd (let z : ◌≡◌ {A = ℕ} 0 1 = cc in omega arith)

-- a number that is in its range
pub in_range_is : (c : Cell) (low limit n : ℕ) → ranged c low limit n ≡ Ok tt → (low ≤ n) × (n < limit)
unfolding ranged
in_range_is c low limit n e =
    let both = and_parts (leb low n) (ltb n limit) (range_cond (leb low n && ltb n limit) (place_of c) e) in
    (leb-true low n both.0, ltb-true n limit both.1)

-- where a header is due, it has six fields
pub only_header : (k : Kind) (fs : List (List ℕ)) → Begins due.Header k fs → length fs ≡ 6
only_header kind.Header fs b = b.count
only_header kind.Edge fs b = absurd (false≢true b.due)
only_header kind.Entry fs b = absurd (false≢true b.due)
only_header kind.End fs b = absurd (false≢true b.due)
