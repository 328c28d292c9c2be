use Rattle.linked.proofs.Parts.{counted}
use Rattle.linked.proofs.batch.whole.Goals as goal

pub returns : goal.returns
returns c = counted c.args.len c.args.size c.requires
