use Rattle.std.proofs.Common.{sym, refl, arith}
use Rattle.std.proofs.lemmas.Result.{err_from_is_err_and}
use Rattle.sheet.specs.Lines.{edge_of}
use Rattle.sheet.specs.Words.{seen}
use Rattle.sheet.proofs.Tests.{on, out, in_range_is}
use Rattle.sheet.proofs.line.edge_of.Goals as goal

pub returns-in_err-row : goal.returns-in_err-row
unfolding edge_of
returns-in_err-row c =
    let p = err_from_is_err_and c.from_residual.result c.from_residual.ensures.1 in
    rw (p.1, p.2) (out _ c.in_err-row.ensures)

pub returns-in_err-column : goal.returns-in_err-column
unfolding edge_of
returns-in_err-column c =
    let p = err_from_is_err_and c.from_residual-in_err-column.result c.from_residual-in_err-column.ensures.1 in
    rw (p.1, p.2) (on _ c.in_ok-row.ensures (out _ c.in_err-column.ensures))

pub returns-in_err-coefficient : goal.returns-in_err-coefficient
unfolding edge_of
returns-in_err-coefficient c =
    let p = err_from_is_err_and c.from_residual-in_err-coefficient.result c.from_residual-in_err-coefficient.ensures.1 in
    rw (p.1, p.2) (on _ c.in_ok-row.ensures (on _ c.in_ok-column.ensures (out _ c.in_err-coefficient.ensures)))

pub returns-in_err-ranged : goal.returns-in_err-ranged
unfolding edge_of
returns-in_err-ranged c =
    let p = err_from_is_err_and c.from_residual-in_err-ranged.result c.from_residual-in_err-ranged.ensures.1 in
    rw (p.1, p.2) (on _ c.in_ok-row.ensures (on _ c.in_ok-column.ensures (on _ c.in_ok-coefficient.ensures (out _ c.in_err-ranged.ensures))))

pub returns-in_err-ranged-2 : goal.returns-in_err-ranged-2
unfolding edge_of
returns-in_err-ranged-2 c =
    let p = err_from_is_err_and c.from_residual-in_err-ranged-2.result c.from_residual-in_err-ranged-2.ensures.1 in
    rw (p.1, p.2) (on _ c.in_ok-row.ensures (on _ c.in_ok-column.ensures (on _ c.in_ok-coefficient.ensures (on _ c.in_ok-ranged.ensures (out _ c.in_err-ranged-2.ensures)))))

pub returns-in_err-ranged-3 : goal.returns-in_err-ranged-3
unfolding edge_of
returns-in_err-ranged-3 c =
    let p = err_from_is_err_and c.from_residual-in_err-ranged-3.result c.from_residual-in_err-ranged-3.ensures.1 in
    rw (p.1, p.2) (on _ c.in_ok-row.ensures (on _ c.in_ok-column.ensures (on _ c.in_ok-coefficient.ensures (on _ c.in_ok-ranged.ensures (on _ c.in_ok-ranged-2.ensures (out _ c.in_err-ranged-3.ensures))))))

pub returns : goal.returns
unfolding edge_of
returns c = on _ c.in_ok-row.ensures (on _ c.in_ok-column.ensures (on _ c.in_ok-coefficient.ensures (on _ c.in_ok-ranged.ensures (on _ c.in_ok-ranged-2.ensures (on _ c.in_ok-ranged-3.ensures refl)))))

pub overflow_cast-result : goal.overflow_cast-result
overflow_cast-result c = omega (arith, (in_range_is (seen c.args.k.now) 1 c.args.header.order c.in_ok-coefficient.coefficient (sym c.in_ok-ranged-3.ensures)).1)
