use Rattle.std.proofs.Common.{◌≤◌, sym, subst}
use Rattle.code.specs.declared.table.Header.{Header}
use Rattle.encoder.proofs.Admitted.{header_fits}
use Rattle.encoder.proofs.elimination.Elimination.new.Goals as goal

pub invariant_of-result : goal.invariant_of-result
invariant_of-result g c = record {
  multiplied = c.requires;
  rows_high = subst (λ (h : Header). h.rows ≤ 128) (sym c.header-header.ensures.answer) (header_fits c.args.code.now).rows.1;
  columns_high = subst (λ (h : Header). h.columns ≤ 256) (sym c.header-header.ensures.answer) (header_fits c.args.code.now).columns.1;
}
