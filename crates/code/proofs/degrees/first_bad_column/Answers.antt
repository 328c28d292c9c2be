use Rattle.std.proofs.Common.{◌≡◌, true, false, rules, tests, arith}
use Rattle.std.proofs.lemmas.Iterator.{first_from_Range}
use Rattle.code.specs.Admission.{column_fits}
use Rattle.code.proofs.Searches.{found_first}
use Rattle.code.proofs.degrees.first_bad_column.Goals as goal

pub returns : goal.returns
returns c =
    let fits = column_fits c.args.edges.now in
    found_first fits 0 c.args.columns c.args.columns c.find.result (omega arith) (first_from_Range _ _ _ c.find.result (λ i. fits i ≡ false) (λ i. fits i ≡ true) c.find.ensures.ran (λ x q k. search (rules, tests)) (λ x q k. search (rules, tests)))
