use Rattle.tree.proofs.areas_stand.Goals as goal
use Rattle.tree.proofs.Areas.{areas_theorem}

pub returns : goal.returns
returns c = record { law = areas_theorem }
