use Rattle.std.proofs.Common.{◌*◌, length, ◌∙◌, arith}
use Rattle.frame.proofs.Written.{front_copied}
use Rattle.frame.proofs.Turns.{front_fits, filled_front}
use Rattle.frame.proofs.costs.begin.Goals as goal

pub copy_within-requires-clause-dest_in_bounds : goal.copy_within-requires-clause-dest_in_bounds
copy_within-requires-clause-dest_in_bounds c = let h = front_fits c.args.sizes.q c.args.sizes.n (length c.args.area.now) c.requires in omega arith

pub returns : goal.returns
returns c = filled_front c.args.sizes.q c.args.sizes.n c.args.area.now c.copy_within.new.self c.requires (c.copy_within.ensures.after ∙ front_copied (c.args.sizes.n * c.args.sizes.q) c.args.area.now)
