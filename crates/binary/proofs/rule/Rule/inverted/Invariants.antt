use Rattle.binary.specs.Inverses.{Inverting}
use Rattle.binary.proofs.rule.Rule.inverted.Given as goal

abbrev pub invariant-loop-rest : goal.invariant-loop-rest
invariant-loop-rest l = Inverting l.self.p l.self.polynomial l.a l.inverse l.rest

abbrev pub decreases-loop-rest : goal.decreases-loop-rest
decreases-loop-rest l = l.rest
