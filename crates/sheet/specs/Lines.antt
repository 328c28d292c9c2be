-- What a line of a sheet says, given its fields: a record, or the fault that is told of it. Assumes nothing.
use Rattle.std.specs.Prelude.{ℕ, ◌+◌, Bool, true, false, cond, ◌&&◌, List, [], length, drop, Some, None, Ok, Err, Option, Result, ◌==◌, nat_le, nat_lt, slice_index_or}
use Rattle.code.specs.declared.table.Edge.{Edge}
use Rattle.code.specs.declared.table.Entry.{Entry}
use Rattle.code.specs.declared.table.Header.{Header}
use Rattle.sheet.specs.declared.fault.Place.{Place}
use Rattle.sheet.specs.declared.fault.SheetFault.{SheetFault}
use Rattle.sheet.specs.declared.fault.SheetFault.TheVariants.{NotDue, NotWritten, OutOfRange}
use Rattle.sheet.specs.declared.token.Kind.{Kind}
use Rattle.sheet.specs.declared.token.Kind.TheVariants as kind
use Rattle.sheet.specs.declared.line.Due.{Due}
use Rattle.sheet.specs.declared.line.Due.TheVariants as due
use Rattle.sheet.specs.declared.line.Record.{Record}
use Rattle.sheet.specs.declared.line.Record.TheVariants as rec
use Rattle.sheet.specs.Pieces.{start, first}
use Rattle.sheet.specs.Words.{Word, letter, number, dash, word_of, Cell, decimal_of, record_kind}

infixl 20 ◌>>=◌
-- one test after another: the first fault is told
unfoldable pub ◌>>=◌ : {A B E : Type 0} → Result A E → (A → Result B E) → Result B E
◌>>=◌ (Ok a) f = f a
◌>>=◌ (Err e) f = Err e

abbrev pub place_of : Cell → Place
place_of c = record { line = c.line; byte = c.byte }

-- field i of a line that starts at a place
abbrev pub cell : Place → List (List ℕ) → ℕ → Cell
cell p fs i = record { word = word_of (slice_index_or fs i []); line = p.line; byte = p.byte + start i fs }

-- the field that starts at a byte of the line
abbrev pub cell_at : Place → List ℕ → ℕ → Cell
cell_at p l i = record { word = word_of (first 9 (drop i l)); line = p.line; byte = p.byte + i }

abbrev pub as_number : Word → Option ℕ
as_number (letter bs) = None
as_number (number bs) = decimal_of bs
as_number (dash bs) = None

-- a ceiling may be a dash, which means 31
abbrev pub as_ceiling : Word → Option ℕ
as_ceiling (letter bs) = None
as_ceiling (number bs) = decimal_of bs
as_ceiling (dash bs) = Some 31

abbrev pub or_not_written : Option ℕ → Place → Result ℕ SheetFault
or_not_written None p = Err (NotWritten p)
or_not_written (Some n) p = Ok n

unfoldable pub numeral : Cell → Result ℕ SheetFault
numeral c = or_not_written (as_number c.word) (place_of c)

unfoldable pub ceiling_of : Cell → Result ℕ SheetFault
ceiling_of c = or_not_written (as_ceiling c.word) (place_of c)

-- from low up to but not including limit
abbrev pub in_range : ℕ → ℕ → ℕ → Bool
in_range low limit n = nat_le low n && nat_lt n limit

unfoldable pub ranged : Cell → ℕ → ℕ → ℕ → Result (Unit {0}) SheetFault
ranged c low limit n = cond (in_range low limit n) (Ok tt) (Err (OutOfRange (place_of c)))

-- each record: every field is a number, then every number is in its range
unfoldable pub header_of : Cell → Cell → Cell → Cell → Cell → Result Header SheetFault
header_of q n m c l = do
  order ← numeral q
  columns ← numeral n
  rows ← numeral m
  ceiling ← ceiling_of c
  limit ← numeral l
  _ ← ranged q 2 65 order
  _ ← ranged n 2 257 columns
  _ ← ranged m 1 129 rows
  _ ← ranged m 1 columns rows
  _ ← ranged c 1 1024 ceiling
  _ ← ranged l 1 201 limit
  Ok (record { order = order; columns = columns; rows = rows; ceiling = ceiling; limit = limit })

unfoldable pub edge_of : Header → Cell → Cell → Cell → Result Edge SheetFault
edge_of h r c k = do
  row ← numeral r
  column ← numeral c
  coefficient ← numeral k
  _ ← ranged r 0 h.rows row
  _ ← ranged c 0 h.columns column
  _ ← ranged k 1 h.order coefficient
  Ok (record { row = row; column = column; coefficient = coefficient })

unfoldable pub entry_of : Header → Cell → Cell → Result Entry SheetFault
entry_of h c r = do
  column ← numeral c
  row ← numeral r
  _ ← ranged c 0 h.columns column
  _ ← ranged r 0 h.rows row
  Ok (record { column = column; row = row })

-- the number of fields of a record, its letter among them
abbrev pub arity : Kind → ℕ
arity kind.Header = 6
arity kind.Edge = 4
arity kind.Entry = 3
arity kind.End = 1

-- which records may come: the header first, then an edge, then edges until an entry, then entries until the end
abbrev pub is_due : Due → Kind → Bool
is_due due.Header kind.Header = true
is_due due.Header kind.Edge = false
is_due due.Header kind.Entry = false
is_due due.Header kind.End = false
is_due due.Edge kind.Header = false
is_due due.Edge kind.Edge = true
is_due due.Edge kind.Entry = false
is_due due.Edge kind.End = false
is_due due.EdgeOrEntry kind.Header = false
is_due due.EdgeOrEntry kind.Edge = true
is_due due.EdgeOrEntry kind.Entry = true
is_due due.EdgeOrEntry kind.End = false
is_due due.EntryOrEnd kind.Header = false
is_due due.EntryOrEnd kind.Edge = false
is_due due.EntryOrEnd kind.Entry = true
is_due due.EntryOrEnd kind.End = true

abbrev pub or_not_due : Option Kind → Due → Place → ℕ → Result Kind SheetFault
or_not_due None d p n = Err (NotDue p)
or_not_due (Some k) d p n = cond (is_due d k && n == arity k) (Ok k) (Err (NotDue p))

-- the kind of a line's record, where it is due and has its number of fields
unfoldable pub kind_due : Due → Place → List (List ℕ) → Result Kind SheetFault
kind_due d p fs = or_not_due (record_kind (word_of (slice_index_or fs 0 []))) d p (length fs)

abbrev pub header_from : Place → List (List ℕ) → Result Header SheetFault
header_from p fs = header_of (cell p fs 1) (cell p fs 2) (cell p fs 3) (cell p fs 4) (cell p fs 5)

abbrev pub edge_from : Header → Place → List (List ℕ) → Result Edge SheetFault
edge_from h p fs = edge_of h (cell p fs 1) (cell p fs 2) (cell p fs 3)

abbrev pub entry_from : Header → Place → List (List ℕ) → Result Entry SheetFault
entry_from h p fs = entry_of h (cell p fs 1) (cell p fs 2)

-- the header that a sheet begins with
unfoldable pub header_line : Place → List (List ℕ) → Result Header SheetFault
header_line p fs = kind_due due.Header p fs >>= λ _. header_from p fs

abbrev pub by_kind : Kind → Header → Place → List (List ℕ) → Result Record SheetFault
by_kind kind.Header h p fs = Err (NotDue p)
by_kind kind.Edge h p fs = edge_from h p fs >>= λ e. Ok (rec.Edge e)
by_kind kind.Entry h p fs = entry_from h p fs >>= λ k. Ok (rec.Entry k)
by_kind kind.End h p fs = Ok rec.End

-- any later line
unfoldable pub record_line : Due → Header → Place → List (List ℕ) → Result Record SheetFault
record_line d h p fs = kind_due d p fs >>= λ k. by_kind k h p fs
