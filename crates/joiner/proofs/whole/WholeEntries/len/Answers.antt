use Rattle.std.proofs.Common.{length, sym}
use Rattle.joiner.proofs.Rows.{all_long}
use Rattle.joiner.proofs.whole.WholeEntries.len.Goals as goal

pub returns : goal.returns
returns c = sym (all_long c.args.self.now.costs.now (length c.args.self.now.costs.now))
