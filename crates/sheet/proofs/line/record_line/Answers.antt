use Rattle.std.proofs.Common.{◌≡◌, Ok, sym, refl, ap, ◌∙◌}
use Rattle.std.proofs.lemmas.Result.{err_from_is_err_and}
use Rattle.sheet.specs.declared.token.Kind.TheVariants as kind
use Rattle.sheet.specs.Pieces.{fields}
use Rattle.sheet.specs.Lines.{kind_due, record_line}
use Rattle.sheet.proofs.Tests.{on, out, begins}
use Rattle.sheet.proofs.line.record_line.Goals as goal

pub returns-in_err-kind_due : goal.returns-in_err-kind_due
unfolding record_line
returns-in_err-kind_due c =
    let p = err_from_is_err_and c.from_residual.result c.from_residual.ensures.1 in
    rw (p.1, p.2) (out _ c.in_err-kind_due.ensures)

pub edge_from-requires : goal.edge_from-requires
edge_from-requires c =
    let e : Ok kind.Edge ≡ kind_due c.args.due c.args.line.place (fields c.args.line.bytes.now) = ap Ok (sym c.in-Edge.is) ∙ c.in_ok-kind_due.ensures in
    let b = begins c.args.due c.args.line.place (fields c.args.line.bytes.now) kind.Edge (sym e) in
    record { count = b.count; small = c.requires }

pub entry_from-requires : goal.entry_from-requires
entry_from-requires c =
    let e : Ok kind.Entry ≡ kind_due c.args.due c.args.line.place (fields c.args.line.bytes.now) = ap Ok (sym c.in-Entry.is) ∙ c.in_ok-kind_due.ensures in
    let b = begins c.args.due c.args.line.place (fields c.args.line.bytes.now) kind.Entry (sym e) in
    b.count

pub returns-in_err-edge_from-in-Edge : goal.returns-in_err-edge_from-in-Edge
unfolding record_line
returns-in_err-edge_from-in-Edge c =
    let p = err_from_is_err_and c.from_residual-in_err-edge_from-in-Edge.result c.from_residual-in_err-edge_from-in-Edge.ensures.1 in
    rw (p.1, p.2) (on _ (ap Ok (sym c.in-Edge.is) ∙ c.in_ok-kind_due.ensures) (out _ c.in_err-edge_from-in-Edge.ensures))

pub returns-in_err-entry_from-in-Entry : goal.returns-in_err-entry_from-in-Entry
unfolding record_line
returns-in_err-entry_from-in-Entry c =
    let p = err_from_is_err_and c.from_residual-in_err-entry_from-in-Entry.result c.from_residual-in_err-entry_from-in-Entry.ensures.1 in
    rw (p.1, p.2) (on _ (ap Ok (sym c.in-Entry.is) ∙ c.in_ok-kind_due.ensures) (out _ c.in_err-entry_from-in-Entry.ensures))

pub returns-in-Header : goal.returns-in-Header
unfolding record_line
returns-in-Header c = on _ (ap Ok (sym c.in-Header.is) ∙ c.in_ok-kind_due.ensures) refl

pub returns-in_ok-edge_from-in-Edge : goal.returns-in_ok-edge_from-in-Edge
unfolding record_line
returns-in_ok-edge_from-in-Edge c = on _ (ap Ok (sym c.in-Edge.is) ∙ c.in_ok-kind_due.ensures) (on _ c.in_ok-edge_from-in-Edge.ensures refl)

pub returns-in_ok-entry_from-in-Entry : goal.returns-in_ok-entry_from-in-Entry
unfolding record_line
returns-in_ok-entry_from-in-Entry c = on _ (ap Ok (sym c.in-Entry.is) ∙ c.in_ok-kind_due.ensures) (on _ c.in_ok-entry_from-in-Entry.ensures refl)

pub returns-in-End : goal.returns-in-End
unfolding record_line
returns-in-End c = on _ (ap Ok (sym c.in-End.is) ∙ c.in_ok-kind_due.ensures) refl
