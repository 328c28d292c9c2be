use Rattle.std.proofs.Common.{◌+◌, ◌<◌, ◌≤◌, length, arith}
use Rattle.frame.specs.Blocks.{blocks}
use Rattle.frame.proofs.Places.{position_within}
use Rattle.frame.proofs.Turns.{same_blocks}
use Rattle.frame.proofs.Summed.{summed_none, summed_fits, summed_more}
use Rattle.frame.proofs.sums.sums.Goals as goal

pub loop-entry-init : goal.loop-entry-init
loop-entry-init c = summed_none _ _ _ _ _ _ _

pub add_block-requires : goal.add_block-requires
add_block-requires c =
    let q = c.args.sizes.q in let k = c.loop-entry.entry-index in let e = c.edge_at-e.result in
    let E = c.args.edges.now in let S = c.args.entries.now in let W = length E in
    let n : (c.args.sizes.n + c.args.sizes.n + length c.args.edges.now) + W ≤ blocks q c.loop-entry.area = same_blocks q c.args.area.now c.loop-entry.area c.loop-entry.auto.area ((c.args.sizes.n + c.args.sizes.n + length c.args.edges.now) + W) c.requires.room.0 in
    let h = (c.requires.entries k (omega arith)).0 in
    let w : e < W = c.edge_at-e.ensures.within in
    record {
      i = omega arith;
      j = omega arith;
      fits = summed_fits q c.args.sizes.n c.args.sizes.n (c.args.sizes.n + c.args.sizes.n + length c.args.edges.now) E S c.args.area.now k e c.edge_at-e.ensures.answer c.loop-entry.area c.loop-entry.invariant (omega arith) 1023 (omega arith) (length S) W (omega arith) w
          (λ x l. position_within E _ _ (c.requires.entries x l).1) h c.requires.few c.requires.low.0 c.requires.low.1;
    }

pub loop-entry-preserved : goal.loop-entry-preserved
loop-entry-preserved c =
    let q = c.args.sizes.q in let k = c.loop-entry.entry-index in let e = c.edge_at-e.result in
    let E = c.args.edges.now in let S = c.args.entries.now in let W = length E in
    let n : (c.args.sizes.n + c.args.sizes.n + length c.args.edges.now) + W ≤ blocks q c.loop-entry.area = same_blocks q c.args.area.now c.loop-entry.area c.loop-entry.auto.area ((c.args.sizes.n + c.args.sizes.n + length c.args.edges.now) + W) c.requires.room.0 in
    let h = (c.requires.entries k (omega arith)).0 in
    summed_more q c.args.sizes.n c.args.sizes.n (c.args.sizes.n + c.args.sizes.n + length c.args.edges.now) E S c.args.area.now k e c.edge_at-e.ensures.answer c.loop-entry.area c.loop-entry.invariant (omega arith) c.add_block.new.area h (omega arith) c.add_block.ensures
