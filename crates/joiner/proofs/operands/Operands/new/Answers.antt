use Rattle.std.proofs.Common.{◌≡◌, ℕ, None, List, sym, ap, ◌∙◌, subst}
use Rattle.joiner.specs.Answers.{refusal_of}
use Rattle.joiner.proofs.Granted.{granted}
use Rattle.joiner.proofs.operands.Operands.new.Goals as goal

at_order : (q order top : ℕ) (l r : List ℕ) (n : ℕ) → order ≡ q → None ≡ refusal_of order top l r n → refusal_of q top l r n ≡ None
at_order q order top l r n e h = ap (λ x. refusal_of x top l r n) (sym e) ∙ sym h

-- what is not refused at the length of its target is not refused at q, which that length is
pub invariant_of-result : goal.invariant_of-result
invariant_of-result g c =
    let q = (g.F.Field.meaning c.args.field.now).order in
    let top = c.args.ceiling in let l = c.args.left.now in let r = c.args.right.now in let n = c.args.target in
    let none = at_order q c.order.result top l r n c.order.ensures c.in_ok-admitted.ensures in
    record { admitted = subst (λ m. refusal_of q top l r m ≡ None) (granted q top l r n none).target_long none }

pub returns-clause-long : goal.returns-clause-long
returns-clause-long g c =
    let q = (g.F.Field.meaning c.args.field.now).order in
    let top = c.args.ceiling in let l = c.args.left.now in let r = c.args.right.now in let n = c.args.target in
    (granted q top l r n (at_order q c.order.result top l r n c.order.ensures c.in_ok-admitted.ensures)).target_long
