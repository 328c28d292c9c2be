use Rattle.std.proofs.Common.{◌+◌, ◌≤◌, replicate, refl, ap, inr, arith}
use Rattle.frame.specs.Blocks.{blocks}
use Rattle.frame.specs.Columns.{lowered}
use Rattle.frame.proofs.Turns.{same_blocks, wrote, filled_more}
use Rattle.frame.proofs.Summed.{length_lowered}
use Rattle.frame.proofs.costs.settle.Goals as goal

pub loop-c-preserved : goal.loop-c-preserved
loop-c-preserved c =
    let q = c.args.sizes.q in let n = c.args.sizes.n in let i = c.loop-c.c in let area = c.loop-c.area in
    let h : n + n ≤ blocks q area = same_blocks q c.args.area.now area c.loop-c.auto.area (n + n) c.requires in
    filled_more q n _ c.args.area.now i (n + i) _ area c.reduce_block.new.area c.loop-c.invariant
    (wrote q (n + i) _ area c.reduce_block.new.area (length_lowered q 65535 _ _) (omega arith) c.reduce_block.ensures) refl (ap (λ v. lowered q 65535 v (replicate q 0)) (c.loop-c.invariant.kept (n + i) (inr (omega arith))))
