use Rattle.std.proofs.Common.{rules, tests, ◌∙◌}
use Rattle.std.proofs.lemmas.Iterator.{YieldsList-from_slice}
use Rattle.std.proofs.lemmas.Iterator.Search.{any_from_yields_List}
use Rattle.code.specs.Admission.{lone_edge}
use Rattle.code.proofs.Searches.{any_list}
use Rattle.code.proofs.pairs.some_lone_edge.Goals as goal

pub returns : goal.returns
returns c = any_from_yields_List (lone_edge c.args.entries.now) _ _ _ c.any.ensures.ran (YieldsList-from_slice _ c.iter.ensures.rest) (λ x b q k. search (rules, tests)) ∙ any_list (lone_edge c.args.entries.now) c.args.edges.now
