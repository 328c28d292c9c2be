use Rattle.std.proofs.Common.{ℕ, ◌+◌, ◌<◌, get_or, set, sym, ap, ap₂, ◌∙◌, subst, arith}
use Rattle.linear.specs.Elimination.{Added}
use Rattle.encoder.specs.Bytes.{laid}
use Rattle.encoder.proofs.Places.{source_kept, target_kept, added_more}
use Rattle.encoder.proofs.elimination.Elimination.add_row.Goals as goal

pub bounds-multiples-matrix : goal.bounds-multiples-matrix
bounds-multiples-matrix g c = (c.multiples-multiples.ensures (get_or c.loop-j.matrix (c.start-from.result + c.loop-j.j) 0)
    (subst (λ (p : ℕ). get_or c.loop-j.matrix (p + c.loop-j.j) 0 < (g.F.Field.meaning c.args.self.now.field.now).order) (sym c.start-from.ensures.is)
    (subst (λ (x : ℕ). x < (g.F.Field.meaning c.args.self.now.field.now).order) (sym (source_kept (g.F.Field.meaning c.args.self.now.field.now) c.args.matrix.now c.loop-j.matrix c.args.self.now.rows c.args.self.now.columns c.args.target c.args.source c.args.factor c.loop-j.j (let r = c.requires.codes.room in omega arith) c.requires.target c.requires.source c.requires.apart c.loop-j-test.true c.loop-j.invariant)) (c.requires.codes.entries.below c.args.source c.loop-j.j c.requires.source c.loop-j-test.true)))).0

pub plus-requires : goal.plus-requires
plus-requires g c = record {
  left = subst (λ (p : ℕ). get_or c.loop-j.matrix (p + c.loop-j.j) 0 < (g.F.Field.meaning c.args.self.now.field.now).order) (sym c.start-to.ensures.is)
      (subst (λ (x : ℕ). x < (g.F.Field.meaning c.args.self.now.field.now).order) (sym (target_kept (g.F.Field.meaning c.args.self.now.field.now) c.args.matrix.now c.loop-j.matrix c.args.self.now.rows c.args.self.now.columns c.args.target c.args.source c.args.factor c.loop-j.j (let r = c.requires.codes.room in omega arith) c.requires.target c.requires.source c.requires.apart c.loop-j-test.true c.loop-j.invariant)) (c.requires.codes.entries.below c.args.target c.loop-j.j c.requires.target c.loop-j-test.true));
  right = subst (λ (x : ℕ). x < (g.F.Field.meaning c.args.self.now.field.now).order) (sym (c.multiples-multiples.ensures (get_or c.loop-j.matrix (c.start-from.result + c.loop-j.j) 0) code).1)
      ((g.met.F.Field.lawful c.args.self.now.field.now).product_code c.args.factor (get_or c.loop-j.matrix (c.start-from.result + c.loop-j.j) 0) c.requires.factor code);
}
  where
    code : get_or c.loop-j.matrix (c.start-from.result + c.loop-j.j) 0 < (g.F.Field.meaning c.args.self.now.field.now).order
    code = (subst (λ (p : ℕ). get_or c.loop-j.matrix (p + c.loop-j.j) 0 < (g.F.Field.meaning c.args.self.now.field.now).order) (sym c.start-from.ensures.is)
        (subst (λ (x : ℕ). x < (g.F.Field.meaning c.args.self.now.field.now).order) (sym (source_kept (g.F.Field.meaning c.args.self.now.field.now) c.args.matrix.now c.loop-j.matrix c.args.self.now.rows c.args.self.now.columns c.args.target c.args.source c.args.factor c.loop-j.j (let r = c.requires.codes.room in omega arith) c.requires.target c.requires.source c.requires.apart c.loop-j-test.true c.loop-j.invariant)) (c.requires.codes.entries.below c.args.source c.loop-j.j c.requires.source c.loop-j-test.true)))

pub loop-j-preserved : goal.loop-j-preserved
loop-j-preserved g c =
    subst (λ (p : ℕ). Added (g.F.Field.meaning c.args.self.now.field.now) (laid c.args.matrix.now c.args.self.now.rows c.args.self.now.columns) (laid (set c.loop-j.matrix (p + c.loop-j.j) c.plus.result) c.args.self.now.rows c.args.self.now.columns) c.args.target c.args.source c.args.factor (c.loop-j.j + 1)) (sym c.start-to.ensures.is)
    (added_more (g.F.Field.meaning c.args.self.now.field.now) c.args.matrix.now c.loop-j.matrix c.args.self.now.rows c.args.self.now.columns c.args.target c.args.source c.args.factor c.loop-j.j (let r = c.requires.codes.room in omega arith) c.requires.target c.requires.source c.requires.apart c.loop-j-test.true c.loop-j.invariant c.plus.result (c.loop-j.j + 1) (omega arith)
    (c.plus.ensures.is ∙ ap₂ (g.F.Field.meaning c.args.self.now.field.now).sum (ap (λ (p : ℕ). get_or c.loop-j.matrix (p + c.loop-j.j) 0) c.start-to.ensures.is)
    ((c.multiples-multiples.ensures (get_or c.loop-j.matrix (c.start-from.result + c.loop-j.j) 0) code).1 ∙ ap (λ (p : ℕ). (g.F.Field.meaning c.args.self.now.field.now).product c.args.factor (get_or c.loop-j.matrix (p + c.loop-j.j) 0)) c.start-from.ensures.is)))
  where
    code : get_or c.loop-j.matrix (c.start-from.result + c.loop-j.j) 0 < (g.F.Field.meaning c.args.self.now.field.now).order
    code = (subst (λ (p : ℕ). get_or c.loop-j.matrix (p + c.loop-j.j) 0 < (g.F.Field.meaning c.args.self.now.field.now).order) (sym c.start-from.ensures.is)
        (subst (λ (x : ℕ). x < (g.F.Field.meaning c.args.self.now.field.now).order) (sym (source_kept (g.F.Field.meaning c.args.self.now.field.now) c.args.matrix.now c.loop-j.matrix c.args.self.now.rows c.args.self.now.columns c.args.target c.args.source c.args.factor c.loop-j.j (let r = c.requires.codes.room in omega arith) c.requires.target c.requires.source c.requires.apart c.loop-j-test.true c.loop-j.invariant)) (c.requires.codes.entries.below c.args.source c.loop-j.j c.requires.source c.loop-j-test.true)))
