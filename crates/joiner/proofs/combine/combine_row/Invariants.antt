use Rattle.std.proofs.Common.{◌≡◌, take}
use Rattle.joiner.specs.Loops.{row_of}
use Rattle.joiner.proofs.combine.combine_row.Given as goal

abbrev pub invariant-loop-k : goal.invariant-loop-k
invariant-loop-k g l =
    (l.joined ≡ row_of (g.F.Field.meaning l.field) l.left (take l.k (g.R.Entries.entries l.rights)) l.initial.joined)
    × (l.pairs ≡ l.k)
