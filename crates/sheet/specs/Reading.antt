-- Reading a sheet: the records of its lines up to the first fault, and then the tables' admission. Assumes nothing.
use Rattle.std.specs.Prelude.{ℕ, zero, suc, ◌+◌, List, [], ◌∷◌, ◌++◌, length, drop, Some, None, Ok, Err, Option, Result}
use Rattle.code.specs.declared.table.Edge.{Edge}
use Rattle.code.specs.declared.table.Entry.{Entry}
use Rattle.code.specs.declared.table.Header.{Header}
use Rattle.code.specs.declared.fault.CodeFault.{CodeFault}
use Rattle.code.specs.Admission.{admission}
use Rattle.sheet.specs.declared.fault.Place.{Place}
use Rattle.sheet.specs.declared.fault.SheetFault.{SheetFault}
use Rattle.sheet.specs.declared.fault.SheetFault.TheVariants.{Ends, Full, Refused}
use Rattle.sheet.specs.declared.line.Due.{Due}
use Rattle.sheet.specs.declared.line.Due.TheVariants as due
use Rattle.sheet.specs.declared.line.Record.{Record}
use Rattle.sheet.specs.declared.line.Record.TheVariants as rec
use Rattle.sheet.specs.declared.read.Filled.{Filled}
use Rattle.code.specs.declared.numbers.Numbers.{Numbers}
use Rattle.sheet.specs.Pieces.{lines, fields}
use Rattle.sheet.specs.Lines.{header_line, record_line}

-- what the lines told: the header of a whole sheet or the first fault, and the records before it
pub record Reading : Type 0 where
  pub told : Result Header SheetFault
  pub edges : List Edge
  pub entries : List Entry

abbrev pub ended : Result Header SheetFault → Reading
ended r = record { told = r; edges = []; entries = [] }

abbrev pub with_edge : Edge → Reading → Reading
with_edge e r = record { told = r.told; edges = e ∷ r.edges; entries = r.entries }

abbrev pub with_entry : Entry → Reading → Reading
with_entry k r = record { told = r.told; edges = r.edges; entries = k ∷ r.entries }

-- the place of the line below
abbrev pub below : List ℕ → Place → Place
below l p = record { line = p.line + 1; byte = p.byte + length l + 1 }

-- after the last line the text ends: one empty piece is left
abbrev pub closing : List (List ℕ) → Header → Place → Reading
closing [] h p = ended (Err (Ends p))
closing ([] ∷ []) h p = ended (Ok h)
closing ([] ∷ (l ∷ ls)) h p = ended (Err (Ends p))
closing ((b ∷ bs) ∷ ls) h p = ended (Err (Ends p))

-- one line's record, with room for so many edges and entries, and what comes of the lines below
abbrev pub step : Result Record SheetFault → Place → ℕ → ℕ → Reading → (Due → ℕ → ℕ → Reading) → Reading
step (Err f) p e k close on = ended (Err f)
step (Ok (rec.Edge x)) p zero k close on = ended (Err (Full p))
step (Ok (rec.Edge x)) p (suc e) k close on = with_edge x (on due.EdgeOrEntry e k)
step (Ok (rec.Entry x)) p e zero close on = ended (Err (Full p))
step (Ok (rec.Entry x)) p e (suc k) close on = with_entry x (on due.EntryOrEnd e k)
step (Ok rec.End) p e k close on = close

-- the lines below the header; the last piece of a text is no line, since it has no line feed
unfoldable pub walk : List (List ℕ) → Header → Due → Place → ℕ → ℕ → Reading
walk [] h d p e k = ended (Err (Ends p))
walk (l ∷ []) h d p e k = ended (Err (Ends p))
walk (l ∷ (m ∷ ms)) h d p e k =
    step (record_line d h p (fields l)) p e k (closing (m ∷ ms) h (below l p)) (λ d' e' k'. walk (m ∷ ms) h d' (below l p) e' k')

-- what the lines from a place on say, where the first edge is due
abbrev pub tables : List ℕ → Header → Place → ℕ → ℕ → Reading
tables text h p e k = walk (lines (drop p.byte text)) h due.Edge p e k

abbrev pub onward : Result Header SheetFault → List (List ℕ) → Place → ℕ → ℕ → Reading
onward (Err f) ls p e k = ended (Err f)
onward (Ok h) ls p e k = walk ls h due.Edge p e k

abbrev pub top : Place
top = record { line = 1; byte = 0 }

abbrev pub from : List (List ℕ) → ℕ → ℕ → Reading
from [] e k = ended (Err (Ends top))
from (l ∷ []) e k = ended (Err (Ends top))
from (l ∷ (m ∷ ms)) e k = onward (header_line top (fields l)) (m ∷ ms) (below l top) e k

-- a text read with room for e edges and k entries
unfoldable pub reading : ℕ → ℕ → List ℕ → Reading
reading e k text = from (lines text) e k

abbrev pub counted : Result Header SheetFault → ℕ → ℕ → Result Filled SheetFault
counted (Err f) w k = Err f
counted (Ok h) w k = Ok (record { header = h; edges = w; entries = k })

-- what filling the tables answers
abbrev pub filled_of : Reading → Result Filled SheetFault
filled_of r = counted r.told (length r.edges) (length r.entries)

abbrev pub numbers : Header → List Edge → Numbers
numbers h es =
    record { order = h.order; columns = h.columns; rows = h.rows; edges = length es; ceiling = h.ceiling; limit = h.limit }

abbrev pub admitted : Option CodeFault → Header → List Edge → Result Numbers SheetFault
admitted None h es = Ok (numbers h es)
admitted (Some f) h es = Err (Refused f)

abbrev pub judged : Result Header SheetFault → List Edge → List Entry → Result Numbers SheetFault
judged (Err f) es ks = Err f
judged (Ok h) es ks = admitted (admission h es ks) h es

-- the answer of reading
abbrev pub answer : Reading → Result Numbers SheetFault
answer r = judged r.told r.edges r.entries

-- a table with records in its first places, and past them as it was
abbrev pub filled : {A : Type 0} → List A → List A → List A
filled xs table = xs ++ drop (length xs) table
