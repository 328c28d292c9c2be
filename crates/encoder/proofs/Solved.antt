-- What a reduced matrix tells of the edges that were laid: whether the rows depend, the word, and the symbols. Assumes nothing.
use Rattle.std.proofs.Common.{◌≡◌, ℕ, ◌+◌, ◌-◌, ◌*◌, ◌<◌, ◌≤◌, true, false, not, eqb, List, length, get_or, take, drop, None, Option, sym, ap, ◌∙◌, subst, subst₂, arith}
use Rattle.std.proofs.Math.ListN.{replicate}
use Rattle.std.proofs.lemmas.List.{get_or-replicate, get_or-take, length-replicate, length-take}
use Rattle.code.specs.declared.code.Code.{Code}
use Rattle.code.specs.declared.table.Edge.{Edge}
use Rattle.field.specs.Tables.{Tables, Lawful}
use Rattle.linear.proofs.Chosen.{encoded_is}
use Rattle.linear.proofs.Laws.{dependent_at, independent_at, symbols_are}
use Rattle.linear.proofs.Placing.{placed_code}
use Rattle.linear.proofs.Tests.{no_both}
use Rattle.linear.proofs.Whole.{how_many, whole, gathered_carries}
use Rattle.linear.specs.Columns.{information_columns}
use Rattle.linear.specs.Count.{count}
use Rattle.linear.specs.Elimination.{Reduced}
use Rattle.linear.specs.Encoded.{the_word, symbols_of}
use Rattle.linear.specs.Filling.{FilledTo, Gathered, Placed, free_of}
use Rattle.linear.specs.Rows.{dependent}
use Rattle.linear.specs.Words.{Codes, Entries, Matrix}
use Rattle.encoder.specs.Bytes.{laid}
use Rattle.encoder.specs.CheckMatrix.{Listed, check_matrix, coefficient_in, matrix_of}
use Rattle.encoder.specs.Opened.{Opened}
use Rattle.encoder.proofs.Admitted.{fewer, listed_is, matrix_is}
use Rattle.encoder.proofs.Passing.{same_no, test_same}
use Rattle.encoder.proofs.Sparse.{listed_entries}

-- ---- the owners of a matrix that nothing is known of
abbrev pub none_of : List (Option ℕ)
none_of = replicate 128 None

pub fresh_long : (k : ℕ) → k ≤ 128 → length (take (k - 0) (drop 0 none_of)) ≡ k
fresh_long k h = let a = length-take (k - 0) none_of in let b = length-replicate {A = Option ℕ} 128 None in omega arith

pub fresh_none : (k : ℕ) → k ≤ 128 → (r : ℕ) → r < k → get_or (take (k - 0) (drop 0 none_of)) r None ≡ None
fresh_none k h r l = get_or-take (k - 0) none_of r None (omega arith) ∙ get_or-replicate 128 r None None (omega arith)

-- ---- once the opening tests are passed, and the matrix of the code's size is reduced
module _ (t : Tables) (code : Code) (k scratch word : ℕ) (given : List ℕ) (past : Opened t code k scratch word given) (m n : ℕ) (es : List Edge)
    (em : m ≡ code.header.rows) (en : n ≡ code.header.columns) (ee : es ≡ code.edges.now) where
  pub listed : Listed t.order m n es
  listed = listed_is code m n es em en ee t.order past.order

  pub room : m * n ≤ scratch
  room = subst (λ (x : ℕ). x * n ≤ scratch) (sym em) (subst (λ (y : ℕ). code.header.rows * y ≤ scratch) (sym en) past.room)

  pub matrix : matrix_of m n es ≡ check_matrix code
  matrix = matrix_is code m n es em en ee

  low : m ≤ n
  low = let f = fewer code in omega arith

  many : k ≡ n - m
  many = let f = past.many in omega arith

  wide : word ≡ n
  wide = let f = past.long in omega arith

  module _ (l : Lawful t) (s : List ℕ) (owner : List (Option ℕ)) (long : length owner ≡ m) (red : Reduced t (matrix_of m n es) (laid s m n) 0 owner) where
    E : Entries t.order (matrix_of m n es)
    E = listed_entries t l m n es listed

    all : information_columns t (matrix_of m n es) ≡ count n (free_of owner (length owner))
    all = how_many t l m n (coefficient_in es (length es)) (λ r j. get_or s (r * n + j) 0) E owner red ∙ ap (λ (x : ℕ). count n (free_of owner x)) (sym long)

    pub depends : not (eqb k (count n (free_of owner (length owner)))) ≡ true → dependent t (check_matrix code) ≡ true
    depends e = ap (dependent t) (sym matrix) ∙ dependent_at t l (matrix_of m n es) E k low many (λ q. no_both e (same_no _ _ (q ∙ all)))

    module _ (e : not (eqb k (count n (free_of owner (length owner)))) ≡ false) where
      enough : k ≡ count n (free_of owner m)
      enough = test_same _ _ e ∙ ap (λ (x : ℕ). count n (free_of owner x)) long

      pub stands : dependent t (check_matrix code) ≡ false
      stands = ap (dependent t) (sym matrix) ∙ independent_at t l (matrix_of m n es) E k low many (test_same _ _ e ∙ sym all)

      -- the symbols are given
      module _ (b : List ℕ) (count_is : length given ≡ k) (same : length b ≡ word) (placed : Placed (length owner) owner given b word) where
        placed_at : Placed m owner given b n
        placed_at = subst₂ (λ (x y : ℕ). Placed x owner given b y) long wide placed

        pub placed_codes : Codes t.order n b
        placed_codes = placed_code t.order m owner given b n (let h = l.low in omega arith) (same ∙ wide) placed_at past.codes (count_is ∙ enough)

        pub word_is : (w : List ℕ) → FilledTo t (laid s m n) owner b w m → w ≡ the_word t (check_matrix code) given
        word_is w done = encoded_is t (matrix_of m n es) given w
            (whole t l m n (coefficient_in es (length es)) (λ r j. get_or s (r * n + j) 0) E owner red given b w past.codes (count_is ∙ enough) (same ∙ wide) placed_at done)
            ∙ ap (λ (H : Matrix). the_word t H given) matrix

      -- the word is given
      pub symbols_given : (x : List ℕ) → length x ≡ k → Gathered (length owner) owner given x word → x ≡ symbols_of t (check_matrix code) given
      symbols_given x count_is gathered = symbols_are t l (matrix_of m n es) E x given (count_is ∙ test_same _ _ e ∙ sym all)
          (gathered_carries t l m n (coefficient_in es (length es)) (λ r j. get_or s (r * n + j) 0) E owner red x given (subst₂ (λ (a b : ℕ). Gathered a owner given x b) long wide gathered))
          ∙ ap (λ (H : Matrix). symbols_of t H given) matrix
