use Rattle.std.proofs.Common.{refl, ◌∙◌, rules, tests}
use lib.Ieee.{eq, of_bits}
use Rattle.std.proofs.lemmas.Iterator.{YieldsList-from_slice}
use Rattle.std.proofs.lemmas.Iterator.Search.{any_from_yields_List}
use Rattle.sampling.proofs.Steps.{in_steps}
use Rattle.sampling.proofs.receiver.is_step.Goals as goal

pub returns : goal.returns
unfolding of_bits
returns c =
    any_from_yields_List (λ y. eq c.args.step y) _ _ c.any.result c.any.ensures.ran (YieldsList-from_slice _ c.iter.ensures.rest) (λ x b q k. search (rules, tests))
    ∙ in_steps _ c.args.step refl
