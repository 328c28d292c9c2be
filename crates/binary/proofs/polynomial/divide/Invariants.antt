use Rattle.binary.proofs.Turns.{Dividing}
use Rattle.binary.proofs.polynomial.divide.Given as goal

abbrev pub invariant-loop-i : goal.invariant-loop-i
invariant-loop-i l = Dividing l.x l.d l.degree l.i l.quotient l.rest
