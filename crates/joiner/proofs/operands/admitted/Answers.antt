use Rattle.joiner.specs.Answers.{refusal_of}
use Rattle.joiner.proofs.operands.admitted.Goals as goal

pub returns : goal.returns
unfolding refusal_of
returns c = let a = c.in_range.ensures in let b = c.are_long.ensures in let d = c.are_low.ensures in let e = c.first.ensures in cc
