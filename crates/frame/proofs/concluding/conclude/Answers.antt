use Rattle.tree.proofs.Runs.{runs_theorem}
use Rattle.frame.proofs.concluding.conclude.Goals as goal

pub returns-in_err-map_err-clause-law : goal.returns-in_err-map_err-clause-law
returns-in_err-map_err-clause-law g c = runs_theorem

pub returns-clause-law : goal.returns-clause-law
returns-clause-law g c = runs_theorem
