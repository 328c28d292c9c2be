use Rattle.std.proofs.Common.{sym}
use Rattle.std.proofs.lemmas.Result.{err_from_is_err_and}
use Rattle.sheet.specs.declared.line.Due.TheVariants as due
use Rattle.sheet.specs.Pieces.{fields}
use Rattle.sheet.specs.Lines.{header_line}
use Rattle.sheet.proofs.Tests.{on, out, begins, only_header}
use Rattle.sheet.proofs.line.header_line.Goals as goal

pub header_from-requires : goal.header_from-requires
header_from-requires c =
    let b = c.in_ok-kind_due in
    let k = begins due.Header c.args.line.place (fields c.args.line.bytes.now) _ (sym b.ensures) in
    only_header _ _ k

pub returns-in_err-kind_due : goal.returns-in_err-kind_due
unfolding header_line
returns-in_err-kind_due c =
    let p = err_from_is_err_and c.from_residual.result c.from_residual.ensures.1 in
    record { answer = rw (p.1, p.2) (out _ c.in_err-kind_due.ensures); small = rw p.1 tt }

pub returns : goal.returns
unfolding header_line
returns c = record { answer = on _ c.in_ok-kind_due.ensures c.header_from.ensures.answer; small = c.header_from.ensures.small }
