use Rattle.worked.proofs.examples_stand.Goals as goal
use Rattle.worked.proofs.Examples.{worked_examples}

pub returns : goal.returns
returns c = record { law = worked_examples }
