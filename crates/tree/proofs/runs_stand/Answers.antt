use Rattle.tree.proofs.runs_stand.Goals as goal
use Rattle.tree.proofs.Runs.{runs_theorem}

pub returns : goal.returns
returns c = record { law = runs_theorem }
