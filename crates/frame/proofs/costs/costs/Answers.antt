use Rattle.std.proofs.Common.{◌+◌, ◌≤◌, length, refl, ap₂, inl, inr, arith}
use Rattle.frame.specs.Blocks.{blocks}
use Rattle.frame.specs.Columns.{column_at, lowered}
use Rattle.frame.proofs.Turns.{same_blocks, wrote, filled_more}
use Rattle.frame.proofs.Summed.{length_lowered}
use Rattle.frame.proofs.costs.costs.Goals as goal

pub loop-e-preserved : goal.loop-e-preserved
loop-e-preserved c =
    let q = c.args.sizes.q in let e = c.loop-e.e in let W = length c.args.edges.now in
    let n : (c.args.sizes.n + c.args.sizes.n + length c.args.edges.now) + W ≤ blocks q c.loop-e.area = same_blocks q c.args.area.now c.loop-e.area c.loop-e.auto.area ((c.args.sizes.n + c.args.sizes.n + length c.args.edges.now) + W) c.requires.room.0 in
    let h = c.requires.edges e (omega arith) in
    let k = c.args.sizes.n + column_at c.args.edges.now e in
    let v = c.loop-e.invariant.kept k (inl (omega arith)) in
    let w = c.loop-e.invariant.kept ((c.args.sizes.n + c.args.sizes.n + length c.args.edges.now) + e) (inr (omega arith)) in
    filled_more q (c.args.sizes.n + c.args.sizes.n) _ c.args.area.now e ((c.args.sizes.n + c.args.sizes.n) + e) _ c.loop-e.area c.lower_block.new.area c.loop-e.invariant
    (wrote q ((c.args.sizes.n + c.args.sizes.n) + e) _ c.loop-e.area c.lower_block.new.area (length_lowered q c.args.ceiling _ _) (omega arith) c.lower_block.ensures) refl (ap₂ (lowered q c.args.ceiling) v w)
