use Rattle.std.proofs.Common.{sym, refl, arith}
use Rattle.std.proofs.lemmas.Result.{err_from_is_err_and}
use Rattle.sheet.specs.Lines.{header_of}
use Rattle.sheet.specs.Words.{seen}
use Rattle.sheet.proofs.Tests.{on, out, in_range_is}
use Rattle.sheet.proofs.line.header_of.Goals as goal

pub returns-in_err-order : goal.returns-in_err-order
unfolding header_of
returns-in_err-order c =
    let p = err_from_is_err_and c.from_residual.result c.from_residual.ensures.1 in
    record { answer = rw (p.1, p.2) (out _ c.in_err-order.ensures); small = rw p.1 tt }

pub returns-in_err-columns : goal.returns-in_err-columns
unfolding header_of
returns-in_err-columns c =
    let p = err_from_is_err_and c.from_residual-in_err-columns.result c.from_residual-in_err-columns.ensures.1 in
    record { answer = rw (p.1, p.2) (on _ c.in_ok-order.ensures (out _ c.in_err-columns.ensures)); small = rw p.1 tt }

pub returns-in_err-rows : goal.returns-in_err-rows
unfolding header_of
returns-in_err-rows c =
    let p = err_from_is_err_and c.from_residual-in_err-rows.result c.from_residual-in_err-rows.ensures.1 in
    record { answer = rw (p.1, p.2) (on _ c.in_ok-order.ensures (on _ c.in_ok-columns.ensures (out _ c.in_err-rows.ensures))); small = rw p.1 tt }

pub returns-in_err-ceiling : goal.returns-in_err-ceiling
unfolding header_of
returns-in_err-ceiling c =
    let p = err_from_is_err_and c.from_residual-in_err-ceiling.result c.from_residual-in_err-ceiling.ensures.1 in
    record { answer = rw (p.1, p.2) (on _ c.in_ok-order.ensures (on _ c.in_ok-columns.ensures (on _ c.in_ok-rows.ensures (out _ c.in_err-ceiling.ensures)))); small = rw p.1 tt }

pub returns-in_err-limit : goal.returns-in_err-limit
unfolding header_of
returns-in_err-limit c =
    let p = err_from_is_err_and c.from_residual-in_err-limit.result c.from_residual-in_err-limit.ensures.1 in
    record { answer = rw (p.1, p.2) (on _ c.in_ok-order.ensures (on _ c.in_ok-columns.ensures (on _ c.in_ok-rows.ensures (on _ c.in_ok-ceiling.ensures (out _ c.in_err-limit.ensures))))); small = rw p.1 tt }

pub returns-in_err-ranged : goal.returns-in_err-ranged
unfolding header_of
returns-in_err-ranged c =
    let p = err_from_is_err_and c.from_residual-in_err-ranged.result c.from_residual-in_err-ranged.ensures.1 in
    record { answer = rw (p.1, p.2) (on _ c.in_ok-order.ensures (on _ c.in_ok-columns.ensures (on _ c.in_ok-rows.ensures (on _ c.in_ok-ceiling.ensures (on _ c.in_ok-limit.ensures (out _ c.in_err-ranged.ensures)))))); small = rw p.1 tt }

pub returns-in_err-ranged-2 : goal.returns-in_err-ranged-2
unfolding header_of
returns-in_err-ranged-2 c =
    let p = err_from_is_err_and c.from_residual-in_err-ranged-2.result c.from_residual-in_err-ranged-2.ensures.1 in
    record { answer = rw (p.1, p.2) (on _ c.in_ok-order.ensures (on _ c.in_ok-columns.ensures (on _ c.in_ok-rows.ensures (on _ c.in_ok-ceiling.ensures (on _ c.in_ok-limit.ensures (on _ c.in_ok-ranged.ensures (out _ c.in_err-ranged-2.ensures))))))); small = rw p.1 tt }

pub returns-in_err-ranged-3 : goal.returns-in_err-ranged-3
unfolding header_of
returns-in_err-ranged-3 c =
    let p = err_from_is_err_and c.from_residual-in_err-ranged-3.result c.from_residual-in_err-ranged-3.ensures.1 in
    record { answer = rw (p.1, p.2) (on _ c.in_ok-order.ensures (on _ c.in_ok-columns.ensures (on _ c.in_ok-rows.ensures (on _ c.in_ok-ceiling.ensures (on _ c.in_ok-limit.ensures (on _ c.in_ok-ranged.ensures (on _ c.in_ok-ranged-2.ensures (out _ c.in_err-ranged-3.ensures)))))))); small = rw p.1 tt }

pub returns-in_err-ranged-4 : goal.returns-in_err-ranged-4
unfolding header_of
returns-in_err-ranged-4 c =
    let p = err_from_is_err_and c.from_residual-in_err-ranged-4.result c.from_residual-in_err-ranged-4.ensures.1 in
    record { answer = rw (p.1, p.2) (on _ c.in_ok-order.ensures (on _ c.in_ok-columns.ensures (on _ c.in_ok-rows.ensures (on _ c.in_ok-ceiling.ensures (on _ c.in_ok-limit.ensures (on _ c.in_ok-ranged.ensures (on _ c.in_ok-ranged-2.ensures (on _ c.in_ok-ranged-3.ensures (out _ c.in_err-ranged-4.ensures))))))))); small = rw p.1 tt }

pub returns-in_err-ranged-5 : goal.returns-in_err-ranged-5
unfolding header_of
returns-in_err-ranged-5 c =
    let p = err_from_is_err_and c.from_residual-in_err-ranged-5.result c.from_residual-in_err-ranged-5.ensures.1 in
    record { answer = rw (p.1, p.2) (on _ c.in_ok-order.ensures (on _ c.in_ok-columns.ensures (on _ c.in_ok-rows.ensures (on _ c.in_ok-ceiling.ensures (on _ c.in_ok-limit.ensures (on _ c.in_ok-ranged.ensures (on _ c.in_ok-ranged-2.ensures (on _ c.in_ok-ranged-3.ensures (on _ c.in_ok-ranged-4.ensures (out _ c.in_err-ranged-5.ensures)))))))))); small = rw p.1 tt }

pub returns-in_err-ranged-6 : goal.returns-in_err-ranged-6
unfolding header_of
returns-in_err-ranged-6 c =
    let p = err_from_is_err_and c.from_residual-in_err-ranged-6.result c.from_residual-in_err-ranged-6.ensures.1 in
    record { answer = rw (p.1, p.2) (on _ c.in_ok-order.ensures (on _ c.in_ok-columns.ensures (on _ c.in_ok-rows.ensures (on _ c.in_ok-ceiling.ensures (on _ c.in_ok-limit.ensures (on _ c.in_ok-ranged.ensures (on _ c.in_ok-ranged-2.ensures (on _ c.in_ok-ranged-3.ensures (on _ c.in_ok-ranged-4.ensures (on _ c.in_ok-ranged-5.ensures (out _ c.in_err-ranged-6.ensures))))))))))); small = rw p.1 tt }

pub returns : goal.returns
unfolding header_of
returns c = record { answer = on _ c.in_ok-order.ensures (on _ c.in_ok-columns.ensures (on _ c.in_ok-rows.ensures (on _ c.in_ok-ceiling.ensures (on _ c.in_ok-limit.ensures (on _ c.in_ok-ranged.ensures (on _ c.in_ok-ranged-2.ensures (on _ c.in_ok-ranged-3.ensures (on _ c.in_ok-ranged-4.ensures (on _ c.in_ok-ranged-5.ensures (on _ c.in_ok-ranged-6.ensures refl)))))))))); small = omega (arith, (in_range_is (seen c.args.q.now) 2 65 c.in_ok-order.order (sym c.in_ok-ranged.ensures)).1) }
