use Rattle.std.proofs.Common.{eqb, get_or, arith}
use Rattle.joiner.specs.Counts.{count_none, count_le, tally_more}
use Rattle.joiner.proofs.level.tally.Goals as goal

pub loop-x-init : goal.loop-x-init
loop-x-init c = λ k h. omega (arith, count_none (λ a. eqb (get_or c.args.costs.now a 0) k))

pub overflow_add-counts : goal.overflow_add-counts
overflow_add-counts c =
    let k = get_or c.args.costs.now c.loop-x.x-index 0 in
    let l = c.requires.room c.loop-x.x-index in
    omega (arith, c.loop-x.invariant k l, c.requires.small k l, count_le c.loop-x.x-index (λ a. eqb (get_or c.args.costs.now a 0) k))

pub loop-x-preserved : goal.loop-x-preserved
loop-x-preserved c =
    λ k h. tally_more c.args.costs.now c.args.counts.now c.loop-x.counts c.loop-x.x-index k (omega (arith, c.requires.room c.loop-x.x-index)) c.loop-x.invariant h
