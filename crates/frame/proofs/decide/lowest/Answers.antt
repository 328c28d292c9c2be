use Rattle.std.proofs.Common.{◌<◌, length, get_or, sym, refl, ◌∙◌, subst, arith}
use Rattle.tree.specs.Over.{lowest_to}
use Rattle.frame.proofs.Scans.{lowest_next, nearer_low}
use Rattle.frame.proofs.decide.lowest.Goals as goal

pub loop-a-init : goal.loop-a-init
unfolding lowest_to
loop-a-init c = (refl, omega arith)

pub loop-a-preserved : goal.loop-a-preserved
loop-a-preserved c =
    let n = length c.args.distances.now in (
      c.nearer-best.ensures ∙ lowest_next c.loop-a.a (λ a. get_or c.args.distances.now a 0) c.loop-a.best c.loop-a.invariant.0,
      subst (λ b. b < n) (sym c.nearer-best.ensures) (nearer_low _ c.loop-a.a c.loop-a.best n (omega arith) c.loop-a.invariant.1),
    )
