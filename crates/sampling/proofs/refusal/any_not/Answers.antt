use Rattle.std.proofs.Common.{◌∙◌, rules, tests}
use Rattle.std.proofs.lemmas.Iterator.{YieldsList-from_slice}
use Rattle.std.proofs.lemmas.Iterator.Search.{any_from_yields_List}
use Rattle.sampling.specs.Refusals.{not_number}
use Rattle.sampling.proofs.Numbers.{any_is}
use Rattle.sampling.proofs.refusal.any_not.Goals as goal

pub returns : goal.returns
returns c =
    any_from_yields_List not_number _ _ c.any.result c.any.ensures.ran (YieldsList-from_slice c.args.samples.now (cc)) (λ x b q k. search (rules, tests))
    ∙ any_is c.args.samples.now
