use Rattle.std.proofs.Common.{◌∙◌}
use Rattle.code.proofs.Searches.{after_here}
use Rattle.code.proofs.order.follows.Goals as goal

pub returns : goal.returns
returns g c = c.is_before.ensures ∙ after_here g.T.Record.before c.args.items.now c.args.k _ _ c.requires.1 c.index-items-k.is c.index-items-k-2.is
