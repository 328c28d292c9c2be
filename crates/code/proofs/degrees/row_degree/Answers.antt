use Rattle.std.proofs.Common.{rules, tests, arith, ◌^◌, ◌-◌, ◌≤◌, length}
use Rattle.std.proofs.lemmas.Iterator.{YieldsList-from_slice}
use Rattle.std.proofs.lemmas.Iterator.Adapters.{fits_from_length, at_most_from_yields_List}
use Rattle.code.proofs.degrees.row_degree.Goals as goal

-- at most 1 for each edge
pub sum-requires-clause-fits : goal.sum-requires-clause-fits
sum-requires-clause-fits c =
    let few : length c.args.edges.now ≤ 2 ^ 64 - 1 = search rules in
    fits_from_length _ _ (2 ^ 64 - 1) (2 ^ 64) (at_most_from_yields_List (YieldsList-from_slice c.args.edges.now cc) few) c.map.ensures.closure (omega arith) (λ x r q k. search (rules, tests))
