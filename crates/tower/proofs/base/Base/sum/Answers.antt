use Rattle.std.proofs.Common.{refl}
use mathlib.Core.Logic.{∥∥₁_elim}
use native.Mathlib.Bridge.{le_prop}
use Rattle.tower.proofs.base.Base.sum.Goals as goal

pub returns : goal.returns
returns c =
    let s = c.args.self.now in
    record {
      answer = refl;
      code = ∥∥₁_elim s.laws le_prop (λ l. l.sum_code c.args.a c.args.b c.requires.0 c.requires.1);
    }
