-- The worked example of the frame's calls, with the pairs that a round of each joiner tells. Assumes nothing.
use Rattle.std.specs.Prelude.{◌≡◌}
use Rattle.tree.specs.Frame.{rounds, round_told, granted}
use Rattle.tree.specs.Worked.{started, asked, full_pairs, WorkedExample}
use Rattle.joiner.specs.Level.{selective_pairs}

pub record FrameExample : Type 0 where
  -- loads, a refused conclude at 0 rounds, a round of any joiner, what it leaves to read and to conclude
  pub worked : WorkedExample
  -- a round of the full joiner tells 54 pairs
  pub full : asked (rounds full_pairs) started ≡ granted (round_told 1 0 54)
  -- and one of the selective joiner 24
  pub selective : asked (rounds selective_pairs) started ≡ granted (round_told 1 0 24)
