use Rattle.std.proofs.Common.{length, sym, refl, ap, ◌∙◌, subst}
use Rattle.field.specs.Tables.{Tables}
use Rattle.linear.specs.Encoded.{symbols_of}
use Rattle.linear.proofs.Tests.{no_both}
use Rattle.linear.specs.Rows.{dependent, row_fails}
use Rattle.linear.specs.Words.{Matrix}
use Rattle.code.specs.declared.table.Header.{Header}
use Rattle.encoder.specs.CheckMatrix.{check_matrix}
use Rattle.encoder.specs.Opened.{Opened}
use Rattle.encoder.proofs.Passing.{passed, refused}
use Rattle.encoder.proofs.Solved.{depends, fresh_long, fresh_none, listed, matrix, room, stands, symbols_given}
use Rattle.encoder.proofs.extraction.extract_opened.Goals as goal

pub eliminate-requires : goal.eliminate-requires
eliminate-requires g c = record {
  listed = listed T c.args.code.now (length c.args.symbols.now) (length c.args.scratch.now) (length c.args.word.now) c.args.word.now past c.new-elimination.result.rows c.new-elimination.result.columns c.edges-edges.result.now c.new-elimination.ensures.rows c.new-elimination.ensures.columns c.edges-edges.ensures.answer;
  room = room T c.args.code.now (length c.args.symbols.now) (length c.args.scratch.now) (length c.args.word.now) c.args.word.now past c.new-elimination.result.rows c.new-elimination.result.columns c.edges-edges.result.now c.new-elimination.ensures.rows c.new-elimination.ensures.columns c.edges-edges.ensures.answer;
  owners = fresh_long c.new-elimination.result.rows c.new-elimination.result.rows_high;
  fresh = fresh_none c.new-elimination.result.rows c.new-elimination.result.rows_high;
}
  where
    T : Tables
    T = g.F.Field.meaning c.new-elimination.result.field.now

    past : Opened T c.args.code.now (length c.args.symbols.now) (length c.args.scratch.now) (length c.args.word.now) c.args.word.now
    past = subst (λ f. Opened (g.F.Field.meaning f) c.args.code.now (length c.args.symbols.now) (length c.args.scratch.now) (length c.args.word.now) c.args.word.now) (sym c.new-elimination.ensures.field) c.requires

pub row_fails-requires : goal.row_fails-requires
row_fails-requires g c = record { listed = listed (g.F.Field.meaning c.args.field.now) c.args.code.now (length c.args.symbols.now) (length c.args.scratch.now) (length c.args.word.now) c.args.word.now c.requires c.header.result.rows (length c.args.word.now) c.edges-edges.result.now (ap (λ (h : Header). h.rows) c.header.ensures.answer) c.requires.long c.edges-edges.ensures.answer; codes = c.requires.codes }

pub returns-then-depend : goal.returns-then-depend
returns-then-depend g c = record {
  answer = sym (passed _ _ _ (ap (λ (H : Matrix). row_fails (g.F.Field.meaning c.args.field.now) H c.args.word.now) (sym (matrix (g.F.Field.meaning c.args.field.now) c.args.code.now (length c.args.symbols.now) (length c.args.scratch.now) (length c.args.word.now) c.args.word.now c.requires c.header.result.rows (length c.args.word.now) c.edges-edges.result.now (ap (λ (h : Header). h.rows) c.header.ensures.answer) c.requires.long c.edges-edges.ensures.answer)) ∙ sym c.row_fails.ensures ∙ c.if-row_fails.false) ∙ refused _ _ _ ((ap (λ f. dependent (g.F.Field.meaning f) (check_matrix c.args.code.now)) (sym c.new-elimination.ensures.field)) ∙ depends T c.args.code.now (length c.args.symbols.now) (length c.args.scratch.now) (length c.args.word.now) c.args.word.now past c.new-elimination.result.rows c.new-elimination.result.columns c.edges-edges.result.now c.new-elimination.ensures.rows c.new-elimination.ensures.columns c.edges-edges.ensures.answer (g.met.F.Field.lawful c.new-elimination.result.field.now) c.eliminate.new.matrix c.eliminate.new.owners (c.eliminate.auto.owners ∙ fresh_long c.new-elimination.result.rows c.new-elimination.result.rows_high) c.eliminate.ensures (sym c.depend.ensures ∙ c.if-depend.true)));
  symbols = refl;
  scratch = λ e. absurd (no_both refl e);
}
  where
    T : Tables
    T = g.F.Field.meaning c.new-elimination.result.field.now

    past : Opened T c.args.code.now (length c.args.symbols.now) (length c.args.scratch.now) (length c.args.word.now) c.args.word.now
    past = subst (λ f. Opened (g.F.Field.meaning f) c.args.code.now (length c.args.symbols.now) (length c.args.scratch.now) (length c.args.word.now) c.args.word.now) (sym c.new-elimination.ensures.field) c.requires

pub returns : goal.returns
returns g c = record {
  answer = sym (passed _ _ _ (ap (λ (H : Matrix). row_fails (g.F.Field.meaning c.args.field.now) H c.args.word.now) (sym (matrix (g.F.Field.meaning c.args.field.now) c.args.code.now (length c.args.symbols.now) (length c.args.scratch.now) (length c.args.word.now) c.args.word.now c.requires c.header.result.rows (length c.args.word.now) c.edges-edges.result.now (ap (λ (h : Header). h.rows) c.header.ensures.answer) c.requires.long c.edges-edges.ensures.answer)) ∙ sym c.row_fails.ensures ∙ c.if-row_fails.false) ∙ passed _ _ _ ((ap (λ f. dependent (g.F.Field.meaning f) (check_matrix c.args.code.now)) (sym c.new-elimination.ensures.field)) ∙ stands T c.args.code.now (length c.args.symbols.now) (length c.args.scratch.now) (length c.args.word.now) c.args.word.now past c.new-elimination.result.rows c.new-elimination.result.columns c.edges-edges.result.now c.new-elimination.ensures.rows c.new-elimination.ensures.columns c.edges-edges.ensures.answer (g.met.F.Field.lawful c.new-elimination.result.field.now) c.eliminate.new.matrix c.eliminate.new.owners (c.eliminate.auto.owners ∙ fresh_long c.new-elimination.result.rows c.new-elimination.result.rows_high) c.eliminate.ensures (sym c.depend.ensures ∙ c.if-depend.false)));
  symbols = symbols_given T c.args.code.now (length c.args.symbols.now) (length c.args.scratch.now) (length c.args.word.now) c.args.word.now past c.new-elimination.result.rows c.new-elimination.result.columns c.edges-edges.result.now c.new-elimination.ensures.rows c.new-elimination.ensures.columns c.edges-edges.ensures.answer (g.met.F.Field.lawful c.new-elimination.result.field.now) c.eliminate.new.matrix c.eliminate.new.owners (c.eliminate.auto.owners ∙ fresh_long c.new-elimination.result.rows c.new-elimination.result.rows_high) c.eliminate.ensures (sym c.depend.ensures ∙ c.if-depend.false) c.gather.new.symbols c.gather.auto.symbols c.gather.ensures ∙ ap (λ f. symbols_of (g.F.Field.meaning f) (check_matrix c.args.code.now) c.args.word.now) c.new-elimination.ensures.field;
  scratch = λ e. absurd (no_both refl e);
}
  where
    T : Tables
    T = g.F.Field.meaning c.new-elimination.result.field.now

    past : Opened T c.args.code.now (length c.args.symbols.now) (length c.args.scratch.now) (length c.args.word.now) c.args.word.now
    past = subst (λ f. Opened (g.F.Field.meaning f) c.args.code.now (length c.args.symbols.now) (length c.args.scratch.now) (length c.args.word.now) c.args.word.now) (sym c.new-elimination.ensures.field) c.requires
