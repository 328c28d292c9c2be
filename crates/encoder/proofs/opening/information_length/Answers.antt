use Rattle.std.proofs.Common.{◌≤◌, sym, subst, arith}
use Rattle.code.specs.declared.table.Header.{Header}
use Rattle.encoder.proofs.Admitted.{header_fits}
use Rattle.encoder.proofs.opening.information_length.Goals as goal

pub overflow_sub-result : goal.overflow_sub-result
overflow_sub-result c = subst (λ (h : Header). h.rows ≤ h.columns) (sym c.header-header.ensures.answer) (let f = (header_fits c.args.code.now).fewer in omega arith)
