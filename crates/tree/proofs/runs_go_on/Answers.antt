use Rattle.tree.proofs.runs_go_on.Goals as goal
use Rattle.tree.proofs.GoesOn.{goes_on}

pub returns : goal.returns
returns c = record { law = goes_on }
