use Rattle.std.proofs.Common.{ℕ, ◌+◌, ◌*◌, get_or, sym, ap, ◌∙◌}
use Rattle.linear.proofs.Clearing.{factor_gone, one_none}
use Rattle.encoder.proofs.elimination.Elimination.clear_row.Goals as goal

pub returns-else-entry-ne0 : goal.returns-else-entry-ne0
returns-else-entry-ne0 g c =
    one_none (g.F.Field.meaning c.args.self.now.field.now) (g.met.F.Field.lawful c.args.self.now.field.now) c.args.self.now.rows c.args.self.now.columns (λ x j. get_or c.args.matrix.now (x * c.args.self.now.columns + j) 0) c.requires.codes.entries
    c.args.i c.args.c c.args.r c.requires.source c.requires.column c.requires.row (ap (λ (p : ℕ). get_or c.args.matrix.now p 0) (sym c.place.ensures.is) ∙ c.if-entry-ne0.false)

pub returns-then-entry-ne0 : goal.returns-then-entry-ne0
returns-then-entry-ne0 g c = record {
  factor = c.cancelling.result;
  factor_code = c.cancelling.ensures.code;
  gone = factor_gone (g.F.Field.meaning c.args.self.now.field.now) (g.met.F.Field.lawful c.args.self.now.field.now)
      (get_or c.args.matrix.now (c.args.r * c.args.self.now.columns + c.args.c) 0) (get_or c.args.matrix.now (c.args.i * c.args.self.now.columns + c.args.c) 0)
      c.args.inverse ((g.F.Field.meaning c.args.self.now.field.now).product (get_or c.args.matrix.now c.place.result 0) c.args.inverse) c.cancelling.result
      (c.requires.codes.entries.below c.args.r c.args.c c.requires.row c.requires.column) (c.requires.codes.entries.below c.args.i c.args.c c.requires.source c.requires.column)
      c.requires.code c.cancelling.ensures.code c.requires.inverse (ap (λ (p : ℕ). (g.F.Field.meaning c.args.self.now.field.now).product (get_or c.args.matrix.now p 0) c.args.inverse) c.place.ensures.is) c.cancelling.ensures.is;
  added = c.add_row.ensures;
}
