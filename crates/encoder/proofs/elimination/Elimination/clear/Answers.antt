use Rattle.std.proofs.Common.{◌+◌, ◌*◌, get_or, sym, subst, arith}
use Rattle.linear.specs.Elimination.{ClearedTo}
use Rattle.linear.proofs.Clearing.{cleared_skip, cleared_one}
use Rattle.encoder.specs.Bytes.{laid}
use Rattle.encoder.proofs.elimination.Elimination.clear.Goals as goal
use Rattle.encoder.proofs.elimination.Elimination.clear.Goals.{then-r-i, else-r-i}

pub loop-r-preserved : goal.loop-r-preserved
loop-r-preserved g c =
    elim c.if-r-i.branch [
      | then-r-i w ↦ subst (λ s. ClearedTo (g.F.Field.meaning c.args.self.now.field.now) (laid c.args.matrix.now c.args.self.now.rows c.args.self.now.columns) (laid s c.args.self.now.rows c.args.self.now.columns) c.args.i c.args.c (c.loop-r.r + 1)) (sym w.matrix-is)
          (cleared_one (g.F.Field.meaning c.args.self.now.field.now) (g.met.F.Field.lawful c.args.self.now.field.now) c.args.self.now.rows c.args.self.now.columns
          (λ x j. get_or c.args.matrix.now (x * c.args.self.now.columns + j) 0) (λ x j. get_or c.loop-r.matrix (x * c.args.self.now.columns + j) 0) (λ x j. get_or w.clear_row.new.matrix (x * c.args.self.now.columns + j) 0)
          c.args.i c.args.c c.loop-r.r (c.loop-r.r + 1) c.loop-r.invariant w.clear_row.ensures (omega arith) c.requires.row c.loop-r-test.true c.requires.column w.if-r-i.true)
      | else-r-i w ↦ subst (λ s. ClearedTo (g.F.Field.meaning c.args.self.now.field.now) (laid c.args.matrix.now c.args.self.now.rows c.args.self.now.columns) (laid s c.args.self.now.rows c.args.self.now.columns) c.args.i c.args.c (c.loop-r.r + 1)) (sym w.matrix-is)
          (cleared_skip (g.F.Field.meaning c.args.self.now.field.now) c.args.self.now.rows c.args.self.now.columns (λ x j. get_or c.args.matrix.now (x * c.args.self.now.columns + j) 0) (λ x j. get_or c.loop-r.matrix (x * c.args.self.now.columns + j) 0)
          c.args.i c.args.c c.loop-r.r c.loop-r.invariant (c.loop-r.r + 1) (omega arith) w.if-r-i.false)
    ]
