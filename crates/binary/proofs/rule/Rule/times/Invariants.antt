use Rattle.binary.proofs.Turns.{Added}
use Rattle.binary.proofs.rule.Rule.times.Given as goal

abbrev pub invariant-loop-i : goal.invariant-loop-i
invariant-loop-i l = Added l.self.p l.self.polynomial l.a l.b l.i l.product l.shifted
