use Rattle.std.proofs.Common.{length, arith}
use Rattle.joiner.specs.Loops.{row_of}
use Rattle.joiner.proofs.Rows.{turn, pairs_more}
use Rattle.joiner.proofs.combine.combine.Goals as goal

pub loop-k-preserved : goal.loop-k-preserved
loop-k-preserved g c =
    let t = g.F.Field.meaning c.args.operands.now.field.now in
    let rights = g.R.Entries.entries c.args.rights.now in (
      turn (λ third left. row_of t left rights third) c.fill.new.self c.loop-k.joined c.combine_row-pairs.new.joined (g.L.Entries.entries c.args.lefts.now) c.loop-k.k c.at.result c.at.ensures
          c.loop-k.invariant.0 c.combine_row-pairs.ensures.joined,
      pairs_more c.loop-k.k (length rights) c.loop-k.pairs c.combine_row-pairs.result c.loop-k.invariant.1 c.combine_row-pairs.ensures.count,
      omega (arith, c.loop-k.invariant.2, c.combine_row-pairs.ensures.count, c.requires.rights.0),
    )
