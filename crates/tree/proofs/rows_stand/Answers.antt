use Rattle.tree.proofs.rows_stand.Goals as goal
use Rattle.tree.proofs.Rows.{rows_theorem}

pub returns : goal.returns
returns c = record { law = rows_theorem }
