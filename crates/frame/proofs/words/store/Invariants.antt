use Rattle.std.proofs.Common.{◌+◌}
use Rattle.frame.specs.Words.{Written, store_at}
use Rattle.frame.proofs.words.store.Given as goal

abbrev pub invariant-loop-a : goal.invariant-loop-a
invariant-loop-a l = Written l.at (l.at + l.a) (store_at l.values l.ceiling) l.initial.area l.area
