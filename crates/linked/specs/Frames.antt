-- How many frames a batch decodes. Assumes nothing.
use Rattle.std.specs.Prelude.{ℕ, ◌*◌, ◌/◌, ◌^◌, min, cond, List, is_ok, ◌==◌}
use Rattle.code.specs.declared.table.Edge.{Edge}
use Rattle.code.specs.declared.table.Entry.{Entry}
use Rattle.code.specs.declared.table.Header.{Header}
use Rattle.code.specs.Admission.{admission, granted}
use Rattle.binary.specs.Answers.{binary_answer}
use Rattle.linked.specs.declared.export.Shape.{Shape}

-- whole parts of a size; of size 0 there are none
abbrev pub parts : ℕ → ℕ → ℕ
parts len size = cond (size == 0) 0 (len / size)

-- as many frames as there are costs (N × q a frame), words (N symbols) and outcomes for
abbrev pub fit : ℕ → ℕ → ℕ → ℕ → ℕ → ℕ
fit n q costs symbols outcomes = min (min (parts costs (n * q)) (parts symbols n)) outcomes

-- the numbers of the code that is asked for: the field's order is 2 ^ p
abbrev pub header_in : Shape → Header
header_in s = record {
  order = 2 ^ s.degree;
  columns = s.columns;
  rows = s.rows;
  ceiling = s.ceiling;
  limit = s.limit;
}

-- none where the field or the code is refused
abbrev pub decodes : Shape → List Edge → List Entry → ℕ → ℕ → ℕ → ℕ
decodes s edges entries costs symbols outcomes =
    cond (is_ok (binary_answer s.degree s.polynomial))
    (cond (granted (admission (header_in s) edges entries)) (fit s.columns (2 ^ s.degree) costs symbols outcomes) 0)
    0
