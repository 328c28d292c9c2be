use Rattle.std.proofs.Common.{◌+◌, length, get_or, arith}
use Rattle.tree.proofs.Rows.{tabled_is}
use Rattle.frame.specs.Columns.{added}
use Rattle.frame.proofs.sums.add.Goals as goal

pub returns : goal.returns
unfolding added
returns c =
    let old = c.args.sums.now in
    tabled_is (length old) (λ x. get_or old x 0 + get_or c.args.v.now x 0) c.loop-a.sums c.loop-a.auto.sums (λ x h. c.loop-a.invariant.0 x (omega arith))
