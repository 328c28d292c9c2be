-- What a code holds, as numbers and lists; the built-in code; the answer of admitting and the code that it leaves. Assumes nothing.
use Rattle.std.specs.Prelude.{List, [], ◌∷◌, Some, None, Ok, Err, Option, Result}
use Rattle.code.specs.declared.table.Edge.{Edge}
use Rattle.code.specs.declared.table.Entry.{Entry}
use Rattle.code.specs.declared.table.Header.{Header}
use Rattle.code.specs.declared.fault.CodeFault.{CodeFault}
use Rattle.code.specs.declared.code.Code.{Code}

pub record View : Type 0 where
  pub header : Header
  pub edges : List Edge
  pub entries : List Entry

abbrev pub laid : Header → List Edge → List Entry → View
laid h es ks = record { header = h; edges = es; entries = ks }

abbrev pub view : Code → View
view c = laid c.header c.edges.now c.entries.now

-- one row over two columns, of order 2
abbrev pub small : View
small =
    laid (record { order = 2; columns = 2; rows = 1; ceiling = 1; limit = 1 })
    (record { row = 0; column = 0; coefficient = 1 } ∷ record { row = 0; column = 1; coefficient = 1 } ∷ [])
    (record { column = 0; row = 0 } ∷ record { column = 1; row = 0 } ∷ [])

abbrev pub verdict : Option CodeFault → Result (Unit {0}) CodeFault
verdict None = Ok tt
verdict (Some f) = Err f

-- the new code where it is granted, the old one where it is refused
abbrev pub left : Result (Unit {0}) CodeFault → View → View → View
left (Ok x) new old = new
left (Err f) new old = old
