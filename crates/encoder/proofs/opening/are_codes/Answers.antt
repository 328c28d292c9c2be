use Rattle.std.proofs.Common.{ltb, ◌∙◌, rules, tests}
use Rattle.std.proofs.lemmas.Iterator.{YieldsList-from_slice}
use Rattle.std.proofs.lemmas.Iterator.Search.{all_from_yields_List}
use Rattle.encoder.proofs.Tested.{every_in_list}
use Rattle.encoder.proofs.opening.are_codes.Goals as goal

pub returns : goal.returns
returns c =
    all_from_yields_List (λ x. ltb x c.args.order) _ _ c.all.result c.all.ensures.ran (YieldsList-from_slice c.args.symbols.now (cc)) (λ x b q k. search (rules, tests))
    ∙ every_in_list (λ x. ltb x c.args.order) c.args.symbols.now 0
