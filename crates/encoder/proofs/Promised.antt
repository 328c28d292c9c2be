-- The laws of a call, from its answer and what it leaves. Assumes nothing.
use Rattle.std.proofs.Common.{◌≡◌, ℕ, ◌-◌, ◌≤◌, Bool, true, false, cond, List, length, Ok, Err, sym, refl, ap, ◌∙◌, subst, arith}
use Rattle.field.specs.Tables.{Tables, Lawful}
use Rattle.linear.specs.Columns.{information_columns, Carries}
use Rattle.linear.specs.Encoded.{Encoded, the_word, symbols_of}
use Rattle.linear.specs.Rows.{dependent, row_fails}
use Rattle.linear.specs.Words.{Codes, Codeword, Entries, Matrix}
use Rattle.linear.proofs.Encoding.{counted_stands}
use Rattle.linear.proofs.Laws.{only_word, carries_symbols, encodes, extracts}
use Rattle.linear.proofs.Search.{rows_told, fails_at, holds_all}
use Rattle.encoder.specs.Answers.{Answer, granted, refuse, uses_scratch}
use Rattle.encoder.specs.Bytes.{Below}
use Rattle.encoder.specs.Promises.{EncodingLaw, ExtractionLaw}
use Rattle.encoder.specs.declared.refusal.CoderRefusal.{CoderRefusal}
use Rattle.encoder.specs.declared.refusal.CoderRefusal.TheVariants.{Order, Scratch, Length, NotSymbol, RowFails, Dependent}
use Rattle.encoder.proofs.Passing.{passed, refused}

pub ok_err : {r : Answer} {x : CoderRefusal} → r ≡ Ok tt → r ≡ Err x → ⊥
ok_err {r} {x} e f = let z : ◌≡◌ {A = ℕ} 0 1 = cc in omega arith

pub fails_depends : {r : Answer} → r ≡ Err RowFails → r ≡ Err Dependent → ⊥
fails_depends {r} e f = let z : ◌≡◌ {A = ℕ} 0 1 = cc in omega arith

-- ---- an opening refusal is none of the last two
abbrev Early : CoderRefusal → Type 0
Early Order = Unit {0}
Early Scratch = Unit {0}
Early Length = Unit {0}
Early NotSymbol = Unit {0}
Early RowFails = ⊥
Early Dependent = ⊥

err_same : {x y : CoderRefusal} → ◌≡◌ {A = Answer} (Err x) (Err y) → x ≡ y
err_same {x} {y} e = cc

pub early : (a b c d e : Bool) (x : CoderRefusal) → refuse a Order (refuse b Scratch (refuse c Length (refuse d Length (refuse e NotSymbol (Ok tt))))) ≡ Err x → Early x
early true b c d e x h = subst Early (err_same h) tt
early false true c d e x h = subst Early (err_same h) tt
early false false true d e x h = subst Early (err_same h) tt
early false false false true e x h = subst Early (err_same h) tt
early false false false false true x h = subst Early (err_same h) tt
early false false false false false x h = absurd (ok_err refl h)

-- ---- a call that is refused by an opening test
module _ (t : Tables) (H : Matrix) (s w : List ℕ) (r : Answer) (x : CoderRefusal) (e : r ≡ Err x) (first : Early x) where
  not_late : (y : CoderRefusal) → (Early y → ⊥) → r ≡ Err y → ⊥
  not_late y n f = n (subst Early (err_same (sym e ∙ f)) first)

  pub encoding_refused : EncodingLaw t H s w r
  encoding_refused = record {
    only = λ o. absurd (ok_err o e);
    back = λ o. absurd (ok_err o e);
    depend = λ f. absurd (not_late Dependent (λ z. z) f);
    apart = λ o. absurd (ok_err o e);
  }

  pub extraction_refused : ExtractionLaw t H w s r
  extraction_refused = record {
    codeword = λ o. absurd (ok_err o e);
    carries = λ o. absurd (ok_err o e);
    back = λ o. absurd (ok_err o e);
    fails = λ f. absurd (not_late RowFails (λ z. z) f);
    depend = λ f. absurd (not_late Dependent (λ z. z) f);
    apart = λ o. absurd (ok_err o e);
  }

-- ---- a call that gets to the last test
module _ (t : Tables) (l : Lawful t) (H : Matrix) (E : Entries t.order H) (r : Answer) (answer : r ≡ refuse (dependent t H) Dependent (Ok tt)) where
  independent_then : r ≡ Ok tt → dependent t H ≡ false
  independent_then o = go (dependent t H) refl
    where
      go : (b : Bool) → dependent t H ≡ b → b ≡ false
      go true e = absurd (ok_err o (answer ∙ refused (dependent t H) Dependent (Ok tt) e))
      go false e = refl

  dependent_then : r ≡ Err Dependent → dependent t H ≡ true
  dependent_then f = go (dependent t H) refl
    where
      go : (b : Bool) → dependent t H ≡ b → b ≡ true
      go true e = refl
      go false e = absurd (ok_err (answer ∙ passed (dependent t H) Dependent (Ok tt) e) f)

  module _ (s w old : List ℕ) (fewer : H.rows ≤ H.columns) (many : length s ≡ H.columns - H.rows) (codes : Below t.order s) (word : w ≡ cond (granted r) (the_word t H s) old) where
    symbols : r ≡ Ok tt → Codes t.order (information_columns t H) s
    symbols o =
        let c = counted_stands t l H E in
        let a = c.all in
        let q = c.equal (independent_then o) in
        let long : length s ≡ information_columns t H = omega arith in
        record { long = long; below = λ i h. codes i (omega arith) }

    word_is : r ≡ Ok tt → w ≡ the_word t H s
    word_is o = word ∙ ap (λ (x : Answer). cond (granted x) (the_word t H s) old) o

    pub encoding_law : EncodingLaw t H s w r
    encoding_law = record {
      only = λ o. subst (λ (v : List ℕ). Encoded t H s v) (sym (word_is o)) (only_word t l H E s (symbols o));
      back = λ o. ap (symbols_of t H) (word_is o) ∙ extracts t l H E s (symbols o);
      depend = λ f. (rows_told t H).some (dependent_then f);
      apart = λ o. (rows_told t H).none (independent_then o);
    }

-- ---- extracting
pub fails_scratch : (b : Bool) → uses_scratch (refuse b Dependent (Ok tt)) ≡ false → ⊥
fails_scratch true e = let z : ◌≡◌ {A = ℕ} 0 1 = cc in omega arith
fails_scratch false e = let z : ◌≡◌ {A = ℕ} 0 1 = cc in omega arith

module _ (t : Tables) (l : Lawful t) (H : Matrix) (E : Entries t.order H) (r : Answer) (w s old : List ℕ) (codes : Codes t.order H.columns w)
    (answer : r ≡ refuse (row_fails t H w) RowFails (refuse (dependent t H) Dependent (Ok tt))) (carried : s ≡ cond (granted r) (symbols_of t H w) old) where
  rest_then : row_fails t H w ≡ false → r ≡ refuse (dependent t H) Dependent (Ok tt)
  rest_then e = answer ∙ passed (row_fails t H w) RowFails (refuse (dependent t H) Dependent (Ok tt)) e

  failed_then : row_fails t H w ≡ true → r ≡ Err RowFails
  failed_then e = answer ∙ refused (row_fails t H w) RowFails (refuse (dependent t H) Dependent (Ok tt)) e

  holds_then : ¬ (r ≡ Err RowFails) → row_fails t H w ≡ false
  holds_then n = go (row_fails t H w) refl
    where
      go : (b : Bool) → row_fails t H w ≡ b → b ≡ false
      go true e = absurd (n (failed_then e))
      go false e = refl

  fails_then : r ≡ Err RowFails → row_fails t H w ≡ true
  fails_then f = go (row_fails t H w) refl
    where
      go : (b : Bool) → row_fails t H w ≡ b → b ≡ true
      go true e = refl
      go false e = absurd (not_row (dependent t H) (sym (rest_then e) ∙ f))
        where
          not_row : (b : Bool) → refuse b Dependent (Ok tt) ≡ Err RowFails → ⊥
          not_row true h = fails_depends h refl
          not_row false h = ok_err refl h

  granted_holds : r ≡ Ok tt → row_fails t H w ≡ false
  granted_holds o = holds_then (λ f. ok_err o f)

  is_codeword : r ≡ Ok tt → Codeword t H w
  is_codeword o = record { codes = codes; holds = holds_all t H w (granted_holds o) }

  symbols_are : r ≡ Ok tt → s ≡ symbols_of t H w
  symbols_are o = carried ∙ ap (λ (x : Answer). cond (granted x) (symbols_of t H w) old) o

  pub extraction_law : ExtractionLaw t H w s r
  extraction_law = record {
    codeword = is_codeword;
    carries = λ o. subst (λ (v : List ℕ). Carries t H w v) (sym (symbols_are o)) (carries_symbols t l H E w);
    back = λ o. ap (the_word t H) (symbols_are o) ∙ encodes t l H E w (is_codeword o);
    fails = λ f. fails_at t H w (fails_then f);
    depend = λ f. (rows_told t H).some (dependent_then t l H E r (rest_then (holds_then (λ e. fails_depends e f))) f);
    apart = λ o. (rows_told t H).none (independent_then t l H E r (rest_then (granted_holds o)) o);
  }
