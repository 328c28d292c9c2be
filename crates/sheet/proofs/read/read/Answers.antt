use Rattle.std.proofs.Common.{length, sym, ap, ◌∙◌}
use Rattle.std.proofs.lemmas.Result.{err_from_is_err_and}
use Rattle.sheet.specs.Reading.{reading, judged}
use Rattle.sheet.proofs.Complete.{inverts}
use Rattle.sheet.proofs.Walks.{counted_ok, counted_err, filled_part, filled_fits}
use Rattle.sheet.proofs.read.read.Goals as goal

pub returns-in_err-whole : goal.returns-in_err-whole
returns-in_err-whole c =
    let p = err_from_is_err_and c.from_residual.result c.from_residual.ensures.1 in
    let R = reading (length c.args.edges.now) (length c.args.entries.now) c.args.text.now in
    let e = counted_err R.told (length R.edges) (length R.entries) _ c.in_err-whole.ensures.answer in
    record { answer = rw (p.1, p.2) (ap (λ t. judged t R.edges R.entries) e); edges = c.fill.ensures.edges; entries = c.fill.ensures.entries; law = inverts }

pub judge-requires : goal.judge-requires
judge-requires c =
    let R = reading (length c.args.edges.now) (length c.args.entries.now) c.args.text.now in
    let e = counted_ok R.told (length R.edges) (length R.entries) c.in_ok-whole.whole (sym c.in_ok-whole.ensures.answer) in
    record { edges = filled_fits R.edges c.args.edges.now c.fill.new.edges _ c.fill.ensures.edges e.1; entries = filled_fits R.entries c.args.entries.now c.fill.new.entries _ c.fill.ensures.entries e.2 }

pub returns : goal.returns
returns c =
    let R = reading (length c.args.edges.now) (length c.args.entries.now) c.args.text.now in
    let e = counted_ok R.told (length R.edges) (length R.entries) c.in_ok-whole.whole (sym c.in_ok-whole.ensures.answer) in
    let es = filled_part R.edges c.args.edges.now c.fill.new.edges c.in_ok-whole.whole.edges c.fill.ensures.edges e.1 in
    let ks = filled_part R.entries c.args.entries.now c.fill.new.entries c.in_ok-whole.whole.entries c.fill.ensures.entries e.2 in
    let t = sym e.0 in
    record { answer = c.judge.ensures ∙ (λ i. judged (t i) (es i) (ks i)); edges = c.fill.ensures.edges; entries = c.fill.ensures.entries; law = inverts }
