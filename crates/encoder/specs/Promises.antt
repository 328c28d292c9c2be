-- What a granted call leaves, and when the last refusals are given, in the subject's words. Assumes nothing.
use Rattle.std.specs.Prelude.{◌≡◌, ℕ, ◌<◌, List, Ok, Err, ◌≢◌}
use Rattle.field.specs.Tables.{Tables}
use Rattle.linear.specs.Columns.{Carries}
use Rattle.linear.specs.Encoded.{Encoded, the_word, symbols_of}
use Rattle.linear.specs.Rows.{Dependent as RowsDepend}
use Rattle.linear.specs.Words.{Codeword, Matrix, row_sum}
use Rattle.encoder.specs.Answers.{Answer}
use Rattle.encoder.specs.declared.refusal.CoderRefusal.TheVariants.{RowFails, Dependent}

-- encoding the symbols s left the word w and answered r
pub record EncodingLaw (t : Tables) (H : Matrix) (s w : List ℕ) (r : Answer) : Type 0 where
  -- the word is a codeword, carries the symbols, and is the only such word
  pub only : r ≡ Ok tt → Encoded t H s w
  -- extracting gives the symbols back
  pub back : r ≡ Ok tt → symbols_of t H w ≡ s
  -- the rows depend on each other exactly if no word could be given
  pub depend : r ≡ Err Dependent → RowsDepend t H
  pub apart : r ≡ Ok tt → RowsDepend t H → ⊥

-- extracting from the word w left the symbols s and answered r
pub record ExtractionLaw (t : Tables) (H : Matrix) (w s : List ℕ) (r : Answer) : Type 0 where
  pub codeword : r ≡ Ok tt → Codeword t H w
  pub carries : r ≡ Ok tt → Carries t H w s
  -- encoding gives the word back
  pub back : r ≡ Ok tt → the_word t H s ≡ w
  pub fails : r ≡ Err RowFails → (i : ℕ) × (i < H.rows) × (row_sum t H w i ≢ 0)
  pub depend : r ≡ Err Dependent → RowsDepend t H
  pub apart : r ≡ Ok tt → RowsDepend t H → ⊥
