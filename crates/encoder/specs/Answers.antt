-- What encoding and extracting answer: the first refusal whose test is met, in the order of testing. Assumes nothing.
use Rattle.std.specs.Prelude.{ℕ, ◌-◌, ◌*◌, Bool, true, false, cond, not, ltb, List, length, Ok, Err, Result, ◌==◌, nat_lt, slice_index}
use Rattle.code.specs.declared.code.Code.{Code}
use Rattle.field.specs.Every.{every_below}
use Rattle.field.specs.Tables.{Tables}
use Rattle.linear.specs.Rows.{dependent, row_fails}
use Rattle.encoder.specs.CheckMatrix.{check_matrix}
use Rattle.encoder.specs.declared.refusal.CoderRefusal.{CoderRefusal}
use Rattle.encoder.specs.declared.refusal.CoderRefusal.TheVariants.{Order, Scratch, Length, NotSymbol, RowFails, Dependent}

abbrev pub Answer : Type 0
Answer = Result (Unit {0}) CoderRefusal

abbrev pub granted : Answer → Bool
granted (Ok u) = true
granted (Err r) = false

-- the refusal if its test is met, else the rest
abbrev pub refuse : Bool → CoderRefusal → Answer → Answer
refuse met r rest = cond met (Err r) rest

-- how many symbols a word of the code carries
abbrev pub information_length : Code → ℕ
information_length c = c.header.columns - c.header.rows

abbrev pub are_codes : ℕ → List ℕ → Bool
are_codes q w = every_below (λ i. ltb (slice_index w i) q) (length w)

-- the tests that both calls begin with, over the lengths of symbols, scratch and word, and what is given to read
abbrev pub opening : Tables → Code → ℕ → ℕ → ℕ → List ℕ → Answer → Answer
opening t c symbols scratch word given rest =
    refuse (not (t.order == c.header.order)) Order
    (refuse (nat_lt scratch (c.header.rows * c.header.columns)) Scratch
    (refuse (not (symbols == information_length c)) Length
    (refuse (not (word == c.header.columns)) Length
    (refuse (not (are_codes t.order given)) NotSymbol
    rest))))

-- encoding the symbols s
abbrev pub encoding : Tables → Code → List ℕ → ℕ → ℕ → Answer
encoding t c s scratch word = opening t c (length s) scratch word s (refuse (dependent t (check_matrix c)) Dependent (Ok tt))

-- extracting from the word w
abbrev pub extraction : Tables → Code → List ℕ → ℕ → ℕ → Answer
extraction t c w scratch symbols =
    opening t c symbols scratch (length w) w (refuse (row_fails t (check_matrix c) w) RowFails (refuse (dependent t (check_matrix c)) Dependent (Ok tt)))

-- only a call that gets as far as the last test uses the scratch
abbrev pub uses_scratch : Answer → Bool
uses_scratch (Ok u) = true
uses_scratch (Err Order) = false
uses_scratch (Err Scratch) = false
uses_scratch (Err Length) = false
uses_scratch (Err NotSymbol) = false
uses_scratch (Err RowFails) = false
uses_scratch (Err Dependent) = true
