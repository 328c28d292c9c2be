use Rattle.std.proofs.Common.{◌≡◌, ◌+◌, ◌*◌, ◌≤◌, length, sym, ap, ◌∙◌, subst, arith}
use Rattle.std.proofs.lemmas.Nat.{mul-le}
use Rattle.code.proofs.Lawfully.{rules_of}
use Rattle.code.specs.Views.{view}
use Rattle.tree.specs.Frame.{opens, loading, no_slip, slip_given, granted, held_words}
use Rattle.frame.proofs.Wants.{area_refused, area_granted}
use Rattle.frame.specs.Words.{Written}
use Rattle.frame.proofs.Passed.{open_passed, opened_held, opened_surplus}
use Rattle.frame.proofs.opening.open.Goals as goal

pub returns-in_err-grant-clause-area : goal.returns-in_err-grant-clause-area
returns-in_err-grant-clause-area g c = area_refused (g.F.Field.meaning c.args.field.now) (view c.args.code.now) opens no_slip c.args.area.now _ c.in_err-grant.ensures

pub overflow_mul-held-3 : goal.overflow_mul-held-3
overflow_mul-held-3 g c =
    let R = rules_of _ _ _ c.args.code.now.admitted in let K = view c.args.code.now in
    let n = c.numbers_of-numbers.result in let e = c.numbers_of-numbers.ensures in
    let a : n.columns ≡ K.header.columns = ap (λ x. x.columns) e in let b : n.edges ≡ length K.edges = ap (λ x. x.width) e in let d : n.order ≡ K.header.order = ap (λ x. x.order) e in
    omega (arith, R.few_edges, mul-le (2 * n.columns + 2 * n.edges) n.order 2560 64 (omega (arith, R.header.columns.1, R.few_edges)) (omega (arith, R.header.order.1)))

pub clear-requires : goal.clear-requires
clear-requires g c =
    let F = g.F.Field.meaning c.args.field.now in let K = view c.args.code.now in
    let e = c.numbers_of-numbers.ensures in
    let p = open_passed F K c.args.area.now no_slip _ c.in_ok-grant.ensures in
    let m = mul-le (2 * K.header.columns + 2 * length K.edges) K.header.order (2 * K.header.columns + 2 * length K.edges + 36) K.header.order (omega arith) (omega arith) in
    let r : held_words K ≤ length c.args.area.now = omega (arith, p.1) in
    subst (λ x. (2 * x.columns + 2 * x.width) * x.order ≤ length c.args.area.now) (sym e) r

pub returns : goal.returns
returns g c =
    let F = g.F.Field.meaning c.args.field.now in let K = view c.args.code.now in
    let R = rules_of _ _ _ c.args.code.now.admitted in
    let e = c.numbers_of-numbers.ensures in
    let before = c.args.area.now in let after = c.clear.new.area in
    let p = open_passed F K before no_slip _ c.in_ok-grant.ensures in
    let Z : Written 0 (held_words K) (λ k. 0) before after = subst (λ x. Written 0 ((2 * x.columns + 2 * x.width) * x.order) (λ k. 0) before after) e c.clear.ensures in
    record {
      answer = ap (λ n. granted (slip_given (loading n))) e ∙ sym c.in_ok-grant.ensures;
      area = area_granted F K opens no_slip before after _ c.in_ok-grant.ensures (opened_held K R before after p.1 c.clear.auto.area F Z) (opened_surplus K R before after p.1 c.clear.auto.area F Z);
    }
