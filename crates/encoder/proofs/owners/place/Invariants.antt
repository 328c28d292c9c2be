use Rattle.std.proofs.Common.{◌≡◌, length, drop}
use Rattle.linear.specs.Count.{count}
use Rattle.linear.specs.Filling.{free_of, Placed}
use Rattle.encoder.proofs.owners.place.Given as goal

abbrev pub invariant-loop-c : goal.invariant-loop-c
invariant-loop-c l = (l.rest.rest.now ≡ drop (count l.c (free_of l.owners (length l.owners))) l.symbols) × Placed (length l.owners) l.owners l.symbols l.word l.c
