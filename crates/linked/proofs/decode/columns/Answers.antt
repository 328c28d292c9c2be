use Rattle.std.proofs.Common.{ap, arith}
use Rattle.code.specs.declared.table.Header.{Header}
use Rattle.code.proofs.Lawfully.{rules_of}
use Rattle.linked.proofs.decode.columns.Goals as goal

pub returns-clause-some : goal.returns-clause-some
returns-clause-some c =
    let r = rules_of _ _ _ c.args.code.now.admitted in
    omega (arith, r.header.columns.0, ap (λ (h : Header). h.columns) c.header.ensures.answer)

pub returns-clause-few : goal.returns-clause-few
returns-clause-few c =
    let r = rules_of _ _ _ c.args.code.now.admitted in
    omega (arith, r.header.columns.1, ap (λ (h : Header). h.columns) c.header.ensures.answer)
