use Rattle.std.proofs.Common.{◌-◌, length, Ok, Err, sym, ap, ◌∙◌}
use Rattle.std.proofs.lemmas.Result.{err_from_is_err_and}
use Rattle.sheet.proofs.Walks.{here, final_ends, final_bad, final_edge, final_entry, final_more, final_end, reached_edge, reached_entry}
use Rattle.sheet.proofs.read.fill_tables.Goals as goal

pub returns-in_err-end : goal.returns-in_err-end
returns-in_err-end c =
    let p = err_from_is_err_and c.from_residual.result c.from_residual.ensures.1 in
    let f = final_ends _ _ _ _ _ _ _ _ _ _ _ c.loop-end.invariant c.in_err-end.ensures.cases.1 in
    record { answer = rw (p.1, p.2) (ap Err c.in_err-end.ensures.cases.0 ∙ f.answer); edges = f.edges; entries = f.entries }

pub returns-in_err-edge : goal.returns-in_err-edge
returns-in_err-edge c =
    let p = err_from_is_err_and c.from_residual-in_err-edge.result c.from_residual-in_err-edge.ensures.1 in
    let r = c.loop-end.invariant in
    let e = length c.args.edges.now - c.loop-end.w in
    let k = length c.args.entries.now - c.loop-end.k in
    let x = here c.args.text.now c.args.header c.loop-end.due c.loop-end.place e k c.in_ok-end.end c.below-next.result c.below-next.ensures.line c.below-next.ensures.byte c.in_ok-end.ensures.cases in
    let f = final_bad _ _ _ _ _ _ _ _ _ _ _ r _ _ _ x _ c.in_err-edge.ensures in
    record { answer = rw (p.1, p.2) f.answer; edges = f.edges; entries = f.entries }

pub returns-in_err-put-in-Edge : goal.returns-in_err-put-in-Edge
returns-in_err-put-in-Edge c =
    let p = err_from_is_err_and c.from_residual-in_err-put-in-Edge.result c.from_residual-in_err-put-in-Edge.ensures.1 in
    let full = c.in_err-put-in-Edge.ensures.cases in
    let r = c.loop-end.invariant in
    let e = length c.args.edges.now - c.loop-end.w in
    let k = length c.args.entries.now - c.loop-end.k in
    let x = here c.args.text.now c.args.header c.loop-end.due c.loop-end.place e k c.in_ok-end.end c.below-next.result c.below-next.ensures.line c.below-next.ensures.byte c.in_ok-end.ensures.cases in
    let f = final_edge _ _ _ _ _ _ _ _ _ _ _ r _ _ _ x c.in-Edge.edge (ap Ok (sym c.in-Edge.is) ∙ c.in_ok-edge.ensures) full.1 in
    record { answer = rw (p.1, p.2) (ap Err full.0 ∙ f.answer); edges = full.2 ∙ f.edges; entries = f.entries }

pub returns-in_err-put-in-Entry : goal.returns-in_err-put-in-Entry
returns-in_err-put-in-Entry c =
    let p = err_from_is_err_and c.from_residual-in_err-put-in-Entry.result c.from_residual-in_err-put-in-Entry.ensures.1 in
    let full = c.in_err-put-in-Entry.ensures.cases in
    let r = c.loop-end.invariant in
    let e = length c.args.edges.now - c.loop-end.w in
    let k = length c.args.entries.now - c.loop-end.k in
    let x = here c.args.text.now c.args.header c.loop-end.due c.loop-end.place e k c.in_ok-end.end c.below-next.result c.below-next.ensures.line c.below-next.ensures.byte c.in_ok-end.ensures.cases in
    let f = final_entry _ _ _ _ _ _ _ _ _ _ _ r _ _ _ x c.in-Entry.entry (ap Ok (sym c.in-Entry.is) ∙ c.in_ok-edge.ensures) full.1 in
    record { answer = rw (p.1, p.2) (ap Err full.0 ∙ f.answer); edges = f.edges; entries = full.2 ∙ f.entries }

pub returns-then-next-text : goal.returns-then-next-text
returns-then-next-text c =
    let r = c.loop-end.invariant in
    let e = length c.args.edges.now - c.loop-end.w in
    let k = length c.args.entries.now - c.loop-end.k in
    let x = here c.args.text.now c.args.header c.loop-end.due c.loop-end.place e k c.in_ok-end.end c.below-next.result c.below-next.ensures.line c.below-next.ensures.byte c.in_ok-end.ensures.cases in
    let f = final_more _ _ _ _ _ _ _ _ _ _ _ r _ _ _ x (ap Ok (sym c.in-End.is) ∙ c.in_ok-edge.ensures) c.if-next-text.true in
    record { answer = f.answer; edges = f.edges; entries = f.entries }

pub returns-in-End : goal.returns-in-End
returns-in-End c =
    let r = c.loop-end.invariant in
    let e = length c.args.edges.now - c.loop-end.w in
    let k = length c.args.entries.now - c.loop-end.k in
    let x = here c.args.text.now c.args.header c.loop-end.due c.loop-end.place e k c.in_ok-end.end c.below-next.result c.below-next.ensures.line c.below-next.ensures.byte c.in_ok-end.ensures.cases in
    let f = final_end _ _ _ _ _ _ _ _ _ _ _ r _ _ _ x (ap Ok (sym c.in-End.is) ∙ c.in_ok-edge.ensures) c.if-next-text.false in
    record { answer = f.answer; edges = f.edges; entries = f.entries }

pub loop-end-preserved-in_ok-put-in-Edge : goal.loop-end-preserved-in_ok-put-in-Edge
loop-end-preserved-in_ok-put-in-Edge c =
    let put = c.in_ok-put-in-Edge.ensures.cases in
    let r = c.loop-end.invariant in
    let e = length c.args.edges.now - c.loop-end.w in
    let k = length c.args.entries.now - c.loop-end.k in
    let x = here c.args.text.now c.args.header c.loop-end.due c.loop-end.place e k c.in_ok-end.end c.below-next.result c.below-next.ensures.line c.below-next.ensures.byte c.in_ok-end.ensures.cases in
    rw put.1 (reached_edge _ _ _ _ _ _ _ _ _ _ _ r _ _ _ x c.in-Edge.edge (ap Ok (sym c.in-Edge.is) ∙ c.in_ok-edge.ensures) put.0)

pub loop-end-preserved : goal.loop-end-preserved
loop-end-preserved c =
    let put = c.in_ok-put-in-Entry.ensures.cases in
    let r = c.loop-end.invariant in
    let e = length c.args.edges.now - c.loop-end.w in
    let k = length c.args.entries.now - c.loop-end.k in
    let x = here c.args.text.now c.args.header c.loop-end.due c.loop-end.place e k c.in_ok-end.end c.below-next.result c.below-next.ensures.line c.below-next.ensures.byte c.in_ok-end.ensures.cases in
    rw put.1 (reached_entry _ _ _ _ _ _ _ _ _ _ _ r _ _ _ x c.in-Entry.entry (ap Ok (sym c.in-Entry.is) ∙ c.in_ok-edge.ensures) put.0)
