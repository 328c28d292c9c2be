use Rattle.std.proofs.Common.{List, Option, sym, ℕ, ◌+◌, ◌-◌, ◌*◌, get_or, subst, arith}
use Rattle.linear.specs.Elimination.{Reduced}
use Rattle.linear.proofs.Reduce.{found, none_found, one_less}
use Rattle.encoder.specs.Bytes.{laid}
use Rattle.encoder.proofs.elimination.Elimination.reduce.Goals as goal

pub loop-c-preserved-in-Some : goal.loop-c-preserved-in-Some
loop-c-preserved-in-Some g c =
    subst (λ (o : List (Option ℕ)). Reduced (g.F.Field.meaning c.args.self.now.field.now) (laid c.args.matrix.now c.args.self.now.rows c.args.self.now.columns) (laid c.clear.new.matrix c.args.self.now.rows c.args.self.now.columns) (c.loop-c.c - 1) o) (sym c.give.ensures)
    (found (g.F.Field.meaning c.args.self.now.field.now) (g.met.F.Field.lawful c.args.self.now.field.now) c.args.self.now.rows c.args.self.now.columns
    (λ x j. get_or c.loop-c.matrix (x * c.args.self.now.columns + j) 0) (λ x j. get_or c.clear.new.matrix (x * c.args.self.now.columns + j) 0) c.loop-c.invariant.entries c.clear.ensures.codes.entries
    c.in-Some.i (c.loop-c.c - 1) c.in-Some.ensures.0 c.clear.ensures.cleared
    (laid c.args.matrix.now c.args.self.now.rows c.args.self.now.columns) c.loop-c.owners (omega arith) (omega arith)
    (one_less (g.F.Field.meaning c.args.self.now.field.now) (laid c.args.matrix.now c.args.self.now.rows c.args.self.now.columns) (laid c.loop-c.matrix c.args.self.now.rows c.args.self.now.columns) c.loop-c.owners c.loop-c.c c.loop-c-test.true c.loop-c.invariant)
    c.in-Some.ensures.1.free c.in-Some.ensures.1.entry)

pub loop-c-preserved : goal.loop-c-preserved
loop-c-preserved g c =
    none_found (g.F.Field.meaning c.args.self.now.field.now) (laid c.args.matrix.now c.args.self.now.rows c.args.self.now.columns) (laid c.loop-c.matrix c.args.self.now.rows c.args.self.now.columns) (c.loop-c.c - 1) c.loop-c.owners
    (one_less (g.F.Field.meaning c.args.self.now.field.now) (laid c.args.matrix.now c.args.self.now.rows c.args.self.now.columns) (laid c.loop-c.matrix c.args.self.now.rows c.args.self.now.columns) c.loop-c.owners c.loop-c.c c.loop-c-test.true c.loop-c.invariant)
    c.in_default.ensures
