use Rattle.std.proofs.Common.{length, ap, ◌∙◌, arith, rules}
use Rattle.std.proofs.iter.Next.{firm}
use Rattle.notation.specs.Pieces.{to_come}
use Rattle.notation.proofs.Steps.{step_on, step_end}
use Rattle.notation.proofs.pieces.PartsIterator.next.Goals as goal

pub returns-in-Some : goal.returns-in-Some
returns-in-Some c =
    let e = ap (to_come c.args.self.now.stop) c.in_ok-text.was ∙ step_on c.args.self.now.stop c.in-Some.n c.in_ok-text.text.now c.in-Some.ensures in
    record { steps = e; goes = firm ((tt, tt, omega (arith, ap length e))) (λ h. search rules) }

pub returns-in-None : goal.returns-in-None
returns-in-None c =
    let e = ap (to_come c.args.self.now.stop) c.in_ok-text.was ∙ step_end c.args.self.now.stop c.in_ok-text.text.now c.in-None.ensures in
    record { steps = e; goes = firm ((tt, tt, omega (arith, ap length e))) (λ h. search rules) }
