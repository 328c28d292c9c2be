use Rattle.std.proofs.Common.{ℕ, ◌+◌, ◌*◌, set, sym, subst, arith}
use Rattle.encoder.specs.Bytes.{LaidTo}
use Rattle.encoder.specs.CheckMatrix.{edge_at}
use Rattle.encoder.proofs.Laying.{laid_none, laid_more, zero_front}
use Rattle.encoder.proofs.elimination.Elimination.lay.Goals as goal

pub loop-edge-init : goal.loop-edge-init
loop-edge-init g c = laid_none c.args.edges.now _ c.args.self.now.rows c.args.self.now.columns (zero_front c.args.matrix.now c.fill.new.self _ (c.args.self.now.rows * c.args.self.now.columns) c.requires.room (c.fill.ensures.after (λ y e. e)))

pub loop-edge-preserved : goal.loop-edge-preserved
loop-edge-preserved g c =
    subst (λ (p : ℕ). LaidTo c.args.edges.now (set c.loop-edge.matrix p (edge_at c.args.edges.now c.loop-edge.edge-index).coefficient) c.args.self.now.rows c.args.self.now.columns (c.loop-edge.edge-index + 1)) (sym c.place.ensures.is)
    (laid_more c.args.edges.now c.loop-edge.matrix c.args.self.now.rows c.args.self.now.columns c.loop-edge.edge-index (c.loop-edge.edge-index + 1) (omega arith) (omega arith)
    (c.requires.listed.row_below c.loop-edge.edge-index c.loop-edge-test.true) (c.requires.listed.column_below c.loop-edge.edge-index c.loop-edge-test.true) c.loop-edge.invariant)
