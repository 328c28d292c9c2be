use Rattle.tree.proofs.tree_stands.Goals as goal
use Rattle.tree.proofs.Trees.{tree_theorem}

pub returns : goal.returns
returns c = record { law = tree_theorem }
