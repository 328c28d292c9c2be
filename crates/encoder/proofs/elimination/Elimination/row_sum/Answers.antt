use Rattle.std.proofs.Common.{ℕ, get_or, sym, ap, ◌∙◌, ap₂, arith}
use Rattle.encoder.specs.Bytes.{laid}
use Rattle.linear.proofs.Placing.{part_more, part_none, part_all}
use Rattle.encoder.proofs.elimination.Elimination.row_sum.Goals as goal

pub loop-j-init : goal.loop-j-init
loop-j-init g c = (sym (part_none (g.F.Field.meaning c.args.self.now.field.now) (laid c.args.matrix.now c.args.self.now.rows c.args.self.now.columns) c.args.word.now c.args.r), (let h = (g.met.F.Field.lawful c.args.self.now.field.now).low in omega arith))

pub loop-j-preserved : goal.loop-j-preserved
loop-j-preserved g c = (
  c.plus-sum.ensures.is ∙ ap₂ (g.F.Field.meaning c.args.self.now.field.now).sum (c.product-part.ensures.is ∙ ap (λ (p : ℕ). (g.F.Field.meaning c.args.self.now.field.now).product (get_or c.args.matrix.now p 0) (get_or c.args.word.now c.loop-j.j 0)) c.place.ensures.is) c.loop-j.invariant.0 ∙ sym (part_more (g.F.Field.meaning c.args.self.now.field.now) (laid c.args.matrix.now c.args.self.now.rows c.args.self.now.columns) c.args.word.now c.args.r c.loop-j.j),
  c.plus-sum.ensures.code,
)

pub returns : goal.returns
returns g c = record {
  is = c.loop-j.invariant.0 ∙ part_all (g.F.Field.meaning c.args.self.now.field.now) (laid c.args.matrix.now c.args.self.now.rows c.args.self.now.columns) c.args.word.now c.args.r c.loop-j.j (omega arith);
  code = c.loop-j.invariant.1;
}
