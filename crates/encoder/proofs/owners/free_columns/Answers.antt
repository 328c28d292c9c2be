use Rattle.std.proofs.Common.{length, ◌∙◌, arith, rules, tests}
use Rattle.linear.specs.Filling.{free_of}
use Rattle.std.proofs.lemmas.Iterator.{YieldsList-from_range}
use Rattle.std.proofs.lemmas.Iterator.Consumers.{YieldsList-from_filter, count_from_yields_List}
use Rattle.encoder.proofs.Tested.{count_in_range}
use Rattle.encoder.proofs.owners.free_columns.Goals as goal

pub returns : goal.returns
returns c =
    count_from_yields_List c.filter.result c.count.result c.count.ensures.ran
    (YieldsList-from_filter _ (free_of c.args.owners.now (length c.args.owners.now)) (YieldsList-from_range 0 c.args.n c.args.n c.filter.ensures.source (omega arith)) c.filter.ensures.closure (λ x b q k. search (rules, tests)))
    ∙ count_in_range (free_of c.args.owners.now (length c.args.owners.now)) c.args.n
