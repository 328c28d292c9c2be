use Rattle.tree.proofs.from_check_stands.Goals as goal
use Rattle.tree.proofs.Words.{from_theorem}

pub returns : goal.returns
returns c = record { law = from_theorem }
