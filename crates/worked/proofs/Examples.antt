-- The worked examples, computed. Assumes nothing.
use Rattle.std.proofs.Common.{refl}
use Rattle.kinds.proofs.Computed.{examples}
use Rattle.joiner.specs.Answers.{refusal_of}
use Rattle.joiner.specs.Costs.{within}
use Rattle.joiner.specs.Joined.{least_of, least, pairs_below, pairs_to, joined_at, joined_of}
use Rattle.joiner.specs.Level.{count, chosen, first_from, level_of, selective_pairs}
use Rattle.tree.specs.Worked.{three}
use Rattle.encoder.proofs.Computed.{example_a}
use Rattle.frame_tests.proofs.Example.{example_theorem}
use Rattle.worked.specs.Examples.{JoinExamples, WorkedExamples}

join_examples : JoinExamples
unfolding refusal_of within least_of least pairs_below pairs_to joined_at joined_of count chosen first_from level_of selective_pairs
join_examples = record { full = refl; selective = refl; joined = refl; high = refl; joined_high = refl; low = refl }

pub worked_examples : WorkedExamples
unfolding three
worked_examples = record { fields = examples; joins = join_examples; encoder = example_a; frame = example_theorem; three = refl }
