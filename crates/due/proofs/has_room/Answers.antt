use Rattle.std.proofs.Common.{◌+◌, ◌*◌, ◌≤◌, length, sym, ap, subst, arith}
use Rattle.std.proofs.lemmas.Nat.{mul-le}
use Rattle.code.proofs.Lawfully.{rules_of}
use Rattle.due.proofs.has_room.Goals as goal

pub overflow_mul-result : goal.overflow_mul-result
overflow_mul-result c =
    let R = rules_of _ _ _ c.args.code.now.admitted in
    let e = c.header-header.ensures.answer in
    let f = ap length c.edges.ensures.answer in
    let n : c.header-header.result.columns ≤ 256 = subst (λ h. h.columns ≤ 256) (sym e) R.header.columns.1 in
    let q : c.header-header.result.order ≤ 64 = subst (λ h. h.order ≤ 64) (sym e) R.header.order.1 in
    omega (arith, R.few_edges, mul-le (2 * c.header-header.result.columns + 2 * length c.edges.result.now + 36) c.header-header.result.order 2596 64 (omega (arith, R.few_edges)) q)
