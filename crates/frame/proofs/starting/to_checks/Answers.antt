use Rattle.std.proofs.Common.{◌+◌, ◌≤◌, length, refl, inl, arith}
use Rattle.frame.specs.Blocks.{blocks}
use Rattle.frame.specs.Columns.{column_at}
use Rattle.frame.proofs.Turns.{same_blocks, wrote, filled_more}
use Rattle.frame.proofs.Written.{room, length_block}
use Rattle.frame.proofs.starting.to_checks.Goals as goal

pub loop-e-preserved : goal.loop-e-preserved
loop-e-preserved c =
    let q = c.args.sizes.q in let n = c.args.sizes.n in let W = length c.args.edges.now in let x = c.loop-e.e in
    let area = c.loop-e.area in let E = c.args.edges.now in
    let h : n + n + W ≤ blocks q area = same_blocks q c.args.area.now area c.loop-e.auto.area (n + n + W) c.requires.room.0 in
    let k = c.requires.edges x (omega arith) in
    filled_more q (n + n) _ c.args.area.now x (n + n + x) _ area c.copy_block.new.area c.loop-e.invariant
    (wrote q (n + n + x) _ area c.copy_block.new.area (length_block q (column_at E x) area (room q (column_at E x) (length area) (omega arith))) (omega arith) c.copy_block.ensures) refl
    (c.loop-e.invariant.kept (column_at E x) (inl (omega arith)))
