use Rattle.std.proofs.Common.{◌≡◌, ◌*◌, ◌≤◌, length, take}
use Rattle.joiner.specs.Loops.{pairs_of}
use Rattle.joiner.proofs.combine.combine.Given as goal

abbrev pub invariant-loop-k : goal.invariant-loop-k
invariant-loop-k g l =
    (l.joined ≡ pairs_of (g.F.Field.meaning l.operands.field.now) (take l.k (g.L.Entries.entries l.lefts)) (g.R.Entries.entries l.rights) l.initial.joined)
    × (l.pairs ≡ l.k * length (g.R.Entries.entries l.rights))
    × (l.pairs ≤ 64 * l.k)
