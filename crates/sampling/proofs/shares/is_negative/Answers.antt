use Rattle.sampling.proofs.Signs.{below_zero}
use Rattle.sampling.proofs.shares.is_negative.Goals as goal

pub returns : goal.returns
returns c = below_zero c.args.x
