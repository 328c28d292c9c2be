use Rattle.tree.proofs.worked_example.Goals as goal
use Rattle.tree.proofs.Worked.{worked}

pub returns : goal.returns
returns c = record { law = worked }
