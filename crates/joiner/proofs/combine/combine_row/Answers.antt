use Rattle.std.proofs.Common.{arith}
use Rattle.joiner.specs.Loops.{lowered_by}
use Rattle.joiner.proofs.Rows.{turn}
use Rattle.joiner.proofs.combine.combine_row.Goals as goal

pub loop-k-preserved : goal.loop-k-preserved
loop-k-preserved g c = (
  turn (lowered_by (g.F.Field.meaning c.args.field.now) c.args.left) c.args.joined.now c.loop-k.joined c.combine_pair-pairs.new.joined (g.R.Entries.entries c.args.rights.now) c.loop-k.k c.at.result
      c.at.ensures c.loop-k.invariant.0 c.combine_pair-pairs.ensures.joined,
  omega (arith, c.loop-k.invariant.1, c.combine_pair-pairs.ensures.count),
)
