-- The laws of every matrix over every field, together. Assumes nothing.
use Rattle.std.proofs.Common.{◌≡◌, ℕ, ◌-◌, ◌<◌, ◌≤◌, Bool, true, false, List, length, get_or, sym, refl, ap, ◌∙◌, subst, arith}
use Rattle.field.specs.Tables.{Tables, Lawful}
use Rattle.linear.specs.Columns.{combined, information_columns, Carries}
use Rattle.linear.specs.Encoded.{Encoded, the_word, symbols_of}
use Rattle.linear.specs.Laws.{LawsStand}
use Rattle.linear.specs.Rows.{dependent}
use Rattle.linear.specs.Words.{Codes, Codeword, Entries, Matrix}
use Rattle.linear.proofs.Chosen.{encoded_is}
use Rattle.linear.proofs.Counts.{counted_column}
use Rattle.linear.proofs.Encoding.{encoding_stands, counted_stands}
use Rattle.linear.proofs.Picked.{picked_length, picked_at, picked_only}
use Rattle.linear.proofs.Search.{columns_told, rows_told}

module _ (t : Tables) (l : Lawful t) (H : Matrix) (E : Entries t.order H) where
  pub only_word : (s : List ℕ) → Codes t.order (information_columns t H) s → Encoded t H s (the_word t H s)
  only_word s k =
      let w = encoding_stands t l H E s k in
      subst (λ (v : List ℕ). Encoded t H s v) (encoded_is t H s w.0 w.1) w.1

  -- the symbols that a word carries are the only ones of their number
  pub symbols_are : (s w : List ℕ) → length s ≡ information_columns t H → Carries t H w s → s ≡ symbols_of t H w
  symbols_are s w long c = picked_only (combined t H) w H.columns s long c

  pub carries_symbols : (w : List ℕ) → Carries t H w (symbols_of t H w)
  carries_symbols w c h e = picked_at (combined t H) w H.columns c h e

  pub symbols_codes : (w : List ℕ) → Codes t.order H.columns w → Codes t.order (information_columns t H) (symbols_of t H w)
  symbols_codes w k = record {
    long = picked_length (combined t H) w H.columns;
    below = λ i h.
        let c = counted_column H.columns (combined t H) i h in
        subst (λ (x : ℕ). x < t.order) (picked_at (combined t H) w H.columns c.0 c.1 c.2.0 ∙ ap (λ (x : ℕ). get_or (symbols_of t H w) x 0) c.2.1) (k.below c.0 c.1);
  }

  pub extracts : (s : List ℕ) → Codes t.order (information_columns t H) s → symbols_of t H (the_word t H s) ≡ s
  extracts s k = sym (symbols_are s (the_word t H s) k.long (only_word s k).carries)

  pub encodes : (w : List ℕ) → Codeword t H w → the_word t H (symbols_of t H w) ≡ w
  encodes w k = sym ((only_word (symbols_of t H w) (symbols_codes w k.codes)).alone w k (carries_symbols w))

pub laws_stand : LawsStand
laws_stand t l H E = record {
  columns = columns_told t H;
  rows = rows_told t H;
  counted = counted_stands t l H E;
  only = only_word t l H E;
  extracts_encoded = extracts t l H E;
  encodes_extracted = encodes t l H E;
}

-- the rows are independent exactly if the information columns number the columns less the rows
module _ (t : Tables) (l : Lawful t) (H : Matrix) (E : Entries t.order H) (k : ℕ) (fewer : H.rows ≤ H.columns) (many : k ≡ H.columns - H.rows) where
  pub independent_at : k ≡ information_columns t H → dependent t H ≡ false
  independent_at e = go (dependent t H) refl
    where
      go : (b : Bool) → dependent t H ≡ b → b ≡ false
      go true x = let f = (counted_stands t l H E).fewer x in let a = (counted_stands t l H E).all in absurd (let z : ⊥ = omega arith in z)
      go false x = refl

  pub dependent_at : ¬ (k ≡ information_columns t H) → dependent t H ≡ true
  dependent_at d = go (dependent t H) refl
    where
      go : (b : Bool) → dependent t H ≡ b → b ≡ true
      go true x = refl
      go false x = let f = (counted_stands t l H E).equal x in let a = (counted_stands t l H E).all in absurd (d (omega arith))
