use Rattle.tree.proofs.effects_stand.Goals as goal
use Rattle.tree.proofs.Follow.{effects_theorem}

pub returns : goal.returns
returns c = record { law = effects_theorem }
