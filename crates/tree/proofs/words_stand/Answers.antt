use Rattle.tree.proofs.words_stand.Goals as goal
use Rattle.tree.proofs.Words.{words_theorem}

pub returns : goal.returns
returns c = record { law = words_theorem }
