use Rattle.std.proofs.Common.{◌≡◌, ℕ, ◌+◌, ◌*◌, ◌<◌, List, get_or, sym, ap, ◌∙◌, subst, arith}
use Rattle.linear.specs.Filling.{FilledTo}
use Rattle.linear.specs.Words.{row_sum}
use Rattle.linear.proofs.Placing.{same_sum, filled_skip, filled_more, asks_for}
use Rattle.encoder.specs.Bytes.{laid}
use Rattle.encoder.proofs.elimination.Elimination.finish.Goals as goal
use Rattle.encoder.proofs.elimination.Elimination.finish.Goals.{in-Some, in_default}
use Rattle.encoder.proofs.elimination.Elimination.finish.Given.{Over}

pub place-requires-clause-column : goal.place-requires-clause-column
place-requires-clause-column g c = (c.requires.owned c.loop-r.r c.in-Some.c (omega arith) c.in-Some.is).high

pub loop-r-preserved : goal.loop-r-preserved
loop-r-preserved g c =
    elim c.match-owner.branch [
      | in-Some w ↦
          subst (λ (x : List ℕ). FilledTo (g.F.Field.meaning c.args.self.now.field.now) (laid c.args.matrix.now c.args.self.now.rows c.args.self.now.columns) c.args.owners.now c.args.word.now x (c.loop-r.r + 1)) (sym w.word-is)
          (filled_more (g.F.Field.meaning c.args.self.now.field.now) (g.met.F.Field.lawful c.args.self.now.field.now) c.args.self.now.rows c.args.self.now.columns (λ r j. get_or c.args.matrix.now (r * c.args.self.now.columns + j) 0) c.requires.matrix.entries
          c.args.owners.now c.args.word.now c.loop-r.word c.requires.word c.loop-r.r (omega arith) c.requires.owned c.loop-r.invariant
          (c.loop-r.r + 1) w.in-Some.c w.cancelling.result (omega arith) w.in-Some.is w.cancelling.ensures.code (c.requires.owned c.loop-r.r w.in-Some.c (omega arith) w.in-Some.is).high
          (asks_for (g.F.Field.meaning c.args.self.now.field.now) (g.met.F.Field.lawful c.args.self.now.field.now)
          (row_sum (g.F.Field.meaning c.args.self.now.field.now) (laid c.args.matrix.now c.args.self.now.rows c.args.self.now.columns) c.args.word.now c.loop-r.r)
          (get_or c.args.matrix.now (c.loop-r.r * c.args.self.now.columns + w.in-Some.c) 0) w.inverse_of-inverse.result ((g.F.Field.meaning c.args.self.now.field.now).product w.row_sum-sum.result w.inverse_of-inverse.result) w.cancelling.result
          (subst (λ (x : ℕ). x < (g.F.Field.meaning c.args.self.now.field.now).order) (w.row_sum-sum.ensures.is ∙ same g c) w.row_sum-sum.ensures.code)
          (c.requires.matrix.entries.below c.loop-r.r w.in-Some.c (omega arith) (c.requires.owned c.loop-r.r w.in-Some.c (omega arith) w.in-Some.is).high)
          w.inverse_of-inverse.ensures.code w.cancelling.ensures.code (ap (λ (p : ℕ). (g.F.Field.meaning c.args.self.now.field.now).product (get_or c.args.matrix.now p 0) w.inverse_of-inverse.result) (sym w.place.ensures.is) ∙ w.inverse_of-inverse.ensures.is)
          (ap (λ (x : ℕ). (g.F.Field.meaning c.args.self.now.field.now).product x w.inverse_of-inverse.result) (w.row_sum-sum.ensures.is ∙ same g c))
          w.cancelling.ensures.is))
      | in_default w ↦
          subst (λ (x : List ℕ). FilledTo (g.F.Field.meaning c.args.self.now.field.now) (laid c.args.matrix.now c.args.self.now.rows c.args.self.now.columns) c.args.owners.now c.args.word.now x (c.loop-r.r + 1)) (sym w.word-is)
          (filled_skip (g.F.Field.meaning c.args.self.now.field.now) (g.met.F.Field.lawful c.args.self.now.field.now) c.args.self.now.rows c.args.self.now.columns (λ r j. get_or c.args.matrix.now (r * c.args.self.now.columns + j) 0) c.requires.matrix.entries
          c.args.owners.now c.args.word.now c.loop-r.word c.requires.word c.loop-r.r (omega arith) c.requires.owned c.loop-r.invariant (c.loop-r.r + 1) (omega arith) w.in_default.is)
    ]
  where
    same : (g : Over) (c : goal.Joined-owner g) →
        row_sum (g.F.Field.meaning c.args.self.now.field.now) (laid c.args.matrix.now c.args.self.now.rows c.args.self.now.columns) c.loop-r.word c.loop-r.r
        ≡ row_sum (g.F.Field.meaning c.args.self.now.field.now) (laid c.args.matrix.now c.args.self.now.rows c.args.self.now.columns) c.args.word.now c.loop-r.r
    same g c = same_sum (g.F.Field.meaning c.args.self.now.field.now) (g.met.F.Field.lawful c.args.self.now.field.now) c.args.self.now.rows c.args.self.now.columns (λ r j. get_or c.args.matrix.now (r * c.args.self.now.columns + j) 0) c.requires.matrix.entries
        c.args.owners.now c.args.word.now c.loop-r.word c.requires.word c.loop-r.r (omega arith) c.requires.owned c.loop-r.invariant
