use Rattle.std.proofs.Common.{take}
use Rattle.joiner.specs.Counts.{Choosing}
use Rattle.joiner.specs.Loops.{Picked}
use Rattle.joiner.proofs.chosen.Chosen.choose.Given as goal

abbrev pub invariant-loop-a : goal.invariant-loop-a
invariant-loop-a l = record {
  chosen : Choosing l.costs l.level l.self.codes l.a l.count l.self.codes l.count l.a;
  picked : Picked l.costs (take l.count l.self.codes) l.self.costs;
}
