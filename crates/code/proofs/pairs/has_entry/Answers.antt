use Rattle.std.proofs.Common.{rules, tests, ap, ◌∙◌}
use Rattle.std.proofs.lemmas.Iterator.{YieldsList-from_slice}
use Rattle.std.proofs.lemmas.Iterator.Search.{position_from_yields_List}
use Rattle.std.specs.Option.{is_some}
use Rattle.code.specs.Admission.{same_pair}
use Rattle.code.proofs.Searches.{any_position}
use Rattle.code.proofs.pairs.has_entry.Goals as goal

pub returns : goal.returns
returns c =
    let fits = same_pair c.args.e in
    c.is_some.ensures ∙ ap is_some (position_from_yields_List fits _ _ c.position.result c.position.ensures.ran (YieldsList-from_slice _ c.iter.ensures.rest) (λ x b q k. search (rules, tests))) ∙ any_position fits c.args.entries.now
