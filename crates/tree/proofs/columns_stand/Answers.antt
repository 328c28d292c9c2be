use Rattle.tree.proofs.columns_stand.Goals as goal
use Rattle.tree.proofs.Columns.{columns_theorem}

pub returns : goal.returns
returns c = record { law = columns_theorem }
