use Rattle.std.proofs.Common.{◌≡◌, ◌+◌, ◌-◌, ◌^◌, ◌≤◌, rules, tests, arith, length, eqb, count_by, sym, ap, ◌∙◌}
use Rattle.std.proofs.lemmas.Iterator.{YieldsList-from_slice}
use Rattle.std.proofs.lemmas.Iterator.Adapters.{fits_from_length, at_most_from_yields_List}
use Rattle.std.proofs.lemmas.List.Sums.{count_by-le-length}
use Rattle.sheet.proofs.Splits.{split_count}
use Rattle.sheet.proofs.pieces.pieces.Goals as goal

-- at most 1 for each byte
pub sum-requires-clause-fits : goal.sum-requires-clause-fits
sum-requires-clause-fits c =
    let few : length c.args.bytes.now ≤ 2 ^ 64 - 1 = search rules in
    fits_from_length _ _ (2 ^ 64 - 1) (2 ^ 64) (at_most_from_yields_List (YieldsList-from_slice c.args.bytes.now cc) few) c.map.ensures.closure (omega arith) (λ x r q k. search (rules, tests))

pub overflow_add-result : goal.overflow_add-result
overflow_add-result c =
    let e : c.sum.result ≡ count_by (λ b. eqb b c.args.stop) c.args.bytes.now = search rules in
    omega (arith, e, count_by-le-length (λ b. eqb b c.args.stop) c.args.bytes.now)

pub returns : goal.returns
returns c =
    let e : c.sum.result ≡ count_by (λ b. eqb b c.args.stop) c.args.bytes.now = search rules in
    ap (λ n. n + 1) e ∙ sym (split_count c.args.stop c.args.bytes.now)
