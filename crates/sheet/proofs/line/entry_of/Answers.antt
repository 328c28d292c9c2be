use Rattle.std.proofs.Common.{refl}
use Rattle.std.proofs.lemmas.Result.{err_from_is_err_and}
use Rattle.sheet.specs.Lines.{entry_of}
use Rattle.sheet.proofs.Tests.{on, out}
use Rattle.sheet.proofs.line.entry_of.Goals as goal

pub returns-in_err-column : goal.returns-in_err-column
unfolding entry_of
returns-in_err-column c =
    let p = err_from_is_err_and c.from_residual.result c.from_residual.ensures.1 in
    rw (p.1, p.2) (out _ c.in_err-column.ensures)

pub returns-in_err-row : goal.returns-in_err-row
unfolding entry_of
returns-in_err-row c =
    let p = err_from_is_err_and c.from_residual-in_err-row.result c.from_residual-in_err-row.ensures.1 in
    rw (p.1, p.2) (on _ c.in_ok-column.ensures (out _ c.in_err-row.ensures))

pub returns-in_err-ranged : goal.returns-in_err-ranged
unfolding entry_of
returns-in_err-ranged c =
    let p = err_from_is_err_and c.from_residual-in_err-ranged.result c.from_residual-in_err-ranged.ensures.1 in
    rw (p.1, p.2) (on _ c.in_ok-column.ensures (on _ c.in_ok-row.ensures (out _ c.in_err-ranged.ensures)))

pub returns-in_err-ranged-2 : goal.returns-in_err-ranged-2
unfolding entry_of
returns-in_err-ranged-2 c =
    let p = err_from_is_err_and c.from_residual-in_err-ranged-2.result c.from_residual-in_err-ranged-2.ensures.1 in
    rw (p.1, p.2) (on _ c.in_ok-column.ensures (on _ c.in_ok-row.ensures (on _ c.in_ok-ranged.ensures (out _ c.in_err-ranged-2.ensures))))

pub returns : goal.returns
unfolding entry_of
returns c = on _ c.in_ok-column.ensures (on _ c.in_ok-row.ensures (on _ c.in_ok-ranged.ensures (on _ c.in_ok-ranged-2.ensures refl)))
