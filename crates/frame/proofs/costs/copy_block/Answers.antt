use Rattle.std.proofs.Common.{◌∙◌}
use Rattle.frame.proofs.Written.{block_copied}
use Rattle.frame.proofs.costs.copy_block.Goals as goal

pub returns : goal.returns
returns c = c.copy_within.ensures.after ∙ block_copied c.args.sizes.q c.args.i c.args.j c.args.area.now
