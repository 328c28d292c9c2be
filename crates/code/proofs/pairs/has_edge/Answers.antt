use Rattle.std.proofs.Common.{Bool, rules, tests, ap, ◌∙◌}
use Rattle.std.proofs.lemmas.Iterator.{YieldsList-from_slice}
use Rattle.std.proofs.lemmas.Iterator.Search.{position_from_yields_List}
use Rattle.std.specs.Option.{is_some}
use Rattle.code.specs.declared.table.Edge.{Edge}
use Rattle.code.specs.Admission.{same_pair}
use Rattle.code.proofs.Searches.{any_position}
use Rattle.code.proofs.pairs.has_edge.Goals as goal

pub returns : goal.returns
returns c =
    let fits : Edge → Bool = λ e. same_pair e c.args.x in
    c.is_some.ensures ∙ ap is_some (position_from_yields_List fits _ _ c.position.result c.position.ensures.ran (YieldsList-from_slice _ c.iter.ensures.rest) (λ x b q k. search (rules, tests))) ∙ any_position fits c.args.edges.now
