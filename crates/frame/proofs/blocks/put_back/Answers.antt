use Rattle.std.proofs.Common.{rules}
use Rattle.std.proofs.lemmas.Slice.{overwrites}
use Rattle.frame.specs.Blocks.{put}
use Rattle.frame.proofs.blocks.put_back.Goals as goal

pub returns : goal.returns
unfolding put
returns c = let e = c.copy_from_slice.ensures in search (rules, overwrites)
