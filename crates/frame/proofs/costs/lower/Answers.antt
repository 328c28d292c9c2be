use Rattle.std.proofs.Common.{length, ◌∙◌, arith}
use Rattle.frame.proofs.Summed.{lowered_from}
use Rattle.frame.proofs.costs.lower.Goals as goal

pub returns : goal.returns
returns c = c.reduce.ensures ∙ lowered_from (length c.args.out.now) c.args.ceiling c.args.v.now c.args.w.now c.loop-a.out (omega arith) c.loop-a.auto.out (λ x h. c.loop-a.invariant x (omega arith))
