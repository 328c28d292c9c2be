use Rattle.tree.proofs.joins_stand.Goals as goal
use Rattle.tree.proofs.Joins.{joins_theorem}

pub returns : goal.returns
returns c = record { law = joins_theorem }
