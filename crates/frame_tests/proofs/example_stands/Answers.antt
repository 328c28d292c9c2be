use Rattle.frame_tests.proofs.example_stands.Goals as goal
use Rattle.frame_tests.proofs.Example.{example_theorem}

pub returns : goal.returns
returns c = record { law = example_theorem }
