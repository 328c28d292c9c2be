use Rattle.std.proofs.Common.{ℕ, length, not, eqb, sym, refl, ap, ◌∙◌, arith, rules, tests}
use Rattle.std.proofs.lemmas.Iterator.{YieldsList-from_range}
use Rattle.std.proofs.lemmas.Iterator.Search.{any_from_yields_List}
use Rattle.encoder.specs.CheckMatrix.{edge_sum}
use Rattle.encoder.proofs.Sparse.{row_edges}
use Rattle.encoder.proofs.Tested.{some_in_range, some_same}
use Rattle.encoder.proofs.edges.row_fails.Goals as goal

pub returns : goal.returns
returns g c =
    any_from_yields_List (λ r. not (eqb (edge_sum (g.F.Field.meaning c.args.field.now) c.args.edges.now c.args.word.now r (length c.args.edges.now)) 0)) _ _ c.any.result c.any.ensures.ran
    (YieldsList-from_range 0 c.args.m c.args.m refl (omega arith)) (λ x b q k. search (rules, tests))
    ∙ some_in_range _ c.args.m
    ∙ some_same _ _ (λ r. ap (λ (x : ℕ). not (eqb x 0))
    (sym (row_edges (g.F.Field.meaning c.args.field.now) (g.met.F.Field.lawful c.args.field.now) c.args.m (length c.args.word.now) c.args.edges.now c.requires.listed c.args.word.now (record { long = refl; below = c.requires.codes }) r))) c.args.m
