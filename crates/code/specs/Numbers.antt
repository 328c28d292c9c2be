-- The numbers of a code: those of its header, and how many edges it has. Assumes nothing.
use Rattle.std.specs.Prelude.{ℕ}
use Rattle.code.specs.declared.numbers.Numbers.{Numbers}
use Rattle.code.specs.declared.table.Header.{Header}

abbrev pub numbers_of : Header → ℕ → Numbers
numbers_of h w = record { order = h.order; columns = h.columns; rows = h.rows; edges = w; ceiling = h.ceiling; limit = h.limit }

abbrev pub header_in : Numbers → Header
header_in n = record { order = n.order; columns = n.columns; rows = n.rows; ceiling = n.ceiling; limit = n.limit }
