use Rattle.std.proofs.Common.{◌≡◌, length}
use Rattle.linear.specs.Count.{count}
use Rattle.linear.specs.Filling.{free_of, Gathered}
use Rattle.encoder.proofs.owners.gather.Given as goal

abbrev pub invariant-loop-c : goal.invariant-loop-c
invariant-loop-c l = (l.k ≡ count l.c (free_of l.owners (length l.owners))) × Gathered (length l.owners) l.owners l.word l.symbols l.c
