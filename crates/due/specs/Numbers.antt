-- The numbers of a code, as the law over runs speaks of them. Assumes nothing.
use Rattle.tree.specs.Frame as tree
use Rattle.code.specs.declared.numbers.Numbers.{Numbers}

abbrev pub numbers_in : Numbers → tree.Numbers
numbers_in n = record { order = n.order; columns = n.columns; rows = n.rows; width = n.edges; ceiling = n.ceiling; limit = n.limit }
