use Rattle.std.proofs.Common.{◌+◌, length, Err, sym, ap, ◌∙◌}
use Rattle.std.proofs.lemmas.Result.{err_from_is_err_and}
use Rattle.sheet.specs.Reading.{Reading, filled, filled_of}
use Rattle.sheet.proofs.Walks.{same_place, reading_ends, reading_bad, reading_on}
use Rattle.sheet.proofs.read.fill.Goals as goal

pub returns-in_err-end : goal.returns-in_err-end
returns-in_err-end c =
    let p = err_from_is_err_and c.from_residual.result c.from_residual.ensures.1 in
    let e = sym (reading_ends c.args.text.now (length c.args.edges.now) (length c.args.entries.now) c.in_err-end.ensures.cases.1) in
    record { answer = rw (p.1, p.2) (ap Err c.in_err-end.ensures.cases.0 ∙ ap filled_of e); edges = ap (λ (v : Reading). filled v.edges c.args.edges.now) e; entries = ap (λ (v : Reading). filled v.entries c.args.entries.now) e }

pub returns-in_err-header : goal.returns-in_err-header
returns-in_err-header c =
    let p = err_from_is_err_and c.from_residual-in_err-header.result c.from_residual-in_err-header.ensures.1 in
    let e = sym (reading_bad c.args.text.now (length c.args.edges.now) (length c.args.entries.now) c.in_ok-end.end c.in_ok-end.ensures.cases _ c.in_err-header.ensures.answer) in
    record { answer = rw (p.1, p.2) (ap filled_of e); edges = ap (λ (v : Reading). filled v.edges c.args.edges.now) e; entries = ap (λ (v : Reading). filled v.entries c.args.entries.now) e }

pub returns : goal.returns
returns c =
    let es = length c.args.edges.now in
    let ks = length c.args.entries.now in
    let e = same_place c.args.text.now c.in_ok-header.header c.below-start.result 2 (c.in_ok-end.end + 1) es ks c.below-start.ensures.line c.below-start.ensures.byte ∙ sym (reading_on c.args.text.now es ks c.in_ok-end.end c.in_ok-end.ensures.cases c.in_ok-header.header c.in_ok-header.ensures.answer) in
    record {
      answer = c.fill_tables.ensures.answer ∙ ap filled_of e;
      edges = c.fill_tables.ensures.edges ∙ ap (λ (v : Reading). filled v.edges c.args.edges.now) e;
      entries = c.fill_tables.ensures.entries ∙ ap (λ (v : Reading). filled v.entries c.args.entries.now) e;
    }
