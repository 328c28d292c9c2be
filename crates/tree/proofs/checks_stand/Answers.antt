use Rattle.tree.proofs.checks_stand.Goals as goal
use Rattle.tree.proofs.Checks.{checks_theorem}

pub returns : goal.returns
returns c = record { law = checks_theorem }
