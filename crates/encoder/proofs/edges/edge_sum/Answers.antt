use Rattle.std.proofs.Common.{ℕ, ◌<◌, sym, ◌∙◌, subst, ap₂, arith}
use Rattle.encoder.proofs.Sparse.{edges_none, edges_here, edges_other}
use Rattle.encoder.proofs.edges.edge_sum.Goals as goal
use Rattle.encoder.proofs.edges.edge_sum.Goals.{then-edge-row, else-edge-row}

pub loop-edge-init : goal.loop-edge-init
loop-edge-init g c = (sym (edges_none _ _ _ _), (let l = (g.met.F.Field.lawful c.args.field.now).low in omega arith))

pub loop-edge-preserved : goal.loop-edge-preserved
loop-edge-preserved g c =
    elim c.if-edge-row.branch [
      | then-edge-row w ↦ (
        w.sum-is ∙ w.plus-sum.ensures.is ∙ ap₂ (g.F.Field.meaning c.args.field.now).sum w.times-part.ensures.is c.loop-edge.invariant.0
            ∙ sym (edges_here (g.F.Field.meaning c.args.field.now) c.args.edges.now c.args.word.now c.args.row c.loop-edge.edge-index w.if-edge-row.true),
        subst (λ (x : ℕ). x < (g.F.Field.meaning c.args.field.now).order) (sym w.sum-is) w.plus-sum.ensures.code,
      )
      | else-edge-row w ↦ (
        w.sum-is ∙ c.loop-edge.invariant.0
            ∙ sym (edges_other (g.F.Field.meaning c.args.field.now) c.args.edges.now c.args.word.now c.args.row c.loop-edge.edge-index w.if-edge-row.false),
        subst (λ (x : ℕ). x < (g.F.Field.meaning c.args.field.now).order) (sym w.sum-is) c.loop-edge.invariant.1,
      )
    ]
