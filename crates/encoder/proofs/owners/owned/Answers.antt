use Rattle.std.proofs.Common.{refl, ◌∙◌}
use Rattle.encoder.proofs.Tested.{some_owner}
use Rattle.encoder.proofs.owners.owned.Goals as goal

pub returns : goal.returns
returns c = c.contains.ensures.value ∙ some_owner _ c.args.owners.now c.args.c refl (λ x. refl)
