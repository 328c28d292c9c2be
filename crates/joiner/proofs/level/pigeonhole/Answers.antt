use Rattle.joiner.proofs.Pigeon.{pigeon}
use Rattle.joiner.proofs.level.pigeonhole.Goals as goal

pub returns : goal.returns
returns c = pigeon c.args.q
