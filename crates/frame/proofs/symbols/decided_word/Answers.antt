use Rattle.std.proofs.Common.{◌≤◌, sym, subst}
use Rattle.code.proofs.Lawfully.{rules_of}
use Rattle.frame.proofs.symbols.decided_word.Goals as goal

pub slice_bounds-found-end : goal.slice_bounds-found-end
slice_bounds-found-end g c =
    let R = rules_of _ _ _ c.args.code.now.admitted in
    subst (λ h. h.columns ≤ 256) (sym c.header-n.ensures.answer) R.header.columns.1
