use Rattle.std.proofs.Common.{refl, lit≤}
use Rattle.field.proofs.Checked.{checked}
use Rattle.field.specs.Grids.{grid}
use Rattle.tower.specs.Towers.{has_root}
use Rattle.tower.proofs.base.copy.two.Goals as goal

pub invariant_of-result : goal.invariant_of-result
invariant_of-result c = record { small = lit≤ tt; laws = ∣ checked _ refl ∣₁ }

pub returns : goal.returns
unfolding grid has_root
returns c = record { order = refl; sums = refl; products = refl; rootless = refl }
