use Rattle.std.proofs.Common.{rules, tests, eqb}
use Rattle.std.proofs.lemmas.Iterator.{YieldsList-from_slice}
use Rattle.std.proofs.lemmas.Iterator.Search.{position_from_yields_List}
use Rattle.sheet.proofs.Splits.{met_first}
use Rattle.sheet.proofs.pieces.until.Goals as goal

pub returns-clause-value : goal.returns-clause-value
returns-clause-value c =
    met_first c.args.stop c.unwrap_or.result c.args.bytes.now c.position.result (position_from_yields_List (λ b. eqb b c.args.stop) _ _ c.position.result c.position.ensures.ran (YieldsList-from_slice _ c.iter.ensures.rest) (λ x b q k. search (rules, tests))) c.unwrap_or.ensures
