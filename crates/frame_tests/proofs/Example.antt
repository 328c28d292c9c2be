-- The selective joiner's pairs, computed. Assumes nothing.
use Rattle.std.proofs.Common.{◌≡◌, refl, ap, ◌∙◌}
use Rattle.tree.specs.Frame.{round_told, granted}
use Rattle.tree.specs.Worked.{six_joins}
use Rattle.tree.proofs.Worked.{worked}
use Rattle.joiner.specs.Level.{count, chosen, first_from, level_of, selective_pairs}
use Rattle.frame_tests.specs.Example.{FrameExample}

selective_pairs_is : six_joins selective_pairs ≡ 24
unfolding count chosen first_from level_of selective_pairs
selective_pairs_is = refl

pub example_theorem : FrameExample
example_theorem = record {
  worked = worked;
  full = worked.one_round;
  selective = worked.any_round selective_pairs ∙ ap (λ n. granted (round_told 1 0 n)) selective_pairs_is;
}
