use Rattle.std.proofs.Common.{◌≤◌, sym, subst}
use Rattle.code.proofs.Lawfully.{rules_of}
use Rattle.frame.proofs.symbols.failing_rows.Goals as goal

pub slice_bounds-word-end : goal.slice_bounds-word-end
slice_bounds-word-end g c =
    let R = rules_of _ _ _ c.args.code.now.admitted in
    subst (λ h. h.columns ≤ 256) (sym c.header-n.ensures.answer) R.header.columns.1
