use Rattle.std.proofs.Common.{ap, ◌∙◌}
use lib.Ieee.{Float, binary32, mul, le}
use Rattle.sampling.proofs.Products.{exact}
use Rattle.sampling.proofs.level.reaches.Goals as goal

pub returns : goal.returns
returns c =
    ap (λ (x : Float). le (mul binary32 x c.args.step) c.args.m) c.from.ensures
    ∙ exact c.args.k c.args.step c.args.m c.requires.0 c.requires.1.0 c.requires.1.1.0 c.requires.1.1.1
