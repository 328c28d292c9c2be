use Rattle.std.proofs.Common.{sym}
use Rattle.joiner.proofs.Rows.{made_long}
use Rattle.joiner.proofs.chosen.ChosenEntries.len.Goals as goal

pub returns : goal.returns
returns c = sym (made_long _ c.args.self.now.count)
