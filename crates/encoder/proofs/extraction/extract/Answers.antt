use Rattle.std.proofs.Common.{◌≡◌, ◌*◌, cond, not, eqb, ltb, length, Ok, Err, sym, refl, ap, ◌∙◌, arith}
use Rattle.std.proofs.lemmas.Result.{err_from_is_err_and}
use Rattle.linear.proofs.Laws.{laws_stand}
use Rattle.linear.specs.Encoded.{symbols_of}
use Rattle.linear.specs.Rows.{dependent, row_fails}
use Rattle.encoder.specs.Answers.{Answer, are_codes, granted, information_length, opening, refuse}
use Rattle.encoder.specs.CheckMatrix.{check_matrix}
use Rattle.encoder.specs.Opened.{Opened}
use Rattle.encoder.specs.declared.refusal.CoderRefusal.TheVariants.{RowFails, Dependent}
use Rattle.encoder.proofs.Admitted.{check_entries, matrix_told}
use Rattle.encoder.proofs.Passing.{opened, opening_rest, opening_stops}
use Rattle.encoder.proofs.Promised.{early, extraction_law, extraction_refused}
use Rattle.encoder.proofs.extraction.extract.Goals as goal

pub returns-in_err-open : goal.returns-in_err-open
returns-in_err-open g c = record {
  answer = result ∙ sym stops;
  symbols = sym (ap (λ (a : Answer). cond (granted a) (symbols_of (g.F.Field.meaning c.args.field.now) (check_matrix c.args.code.now) c.args.word.now) c.args.symbols.now) stops);
  scratch = λ e. refl;
  law = extraction_refused (g.F.Field.meaning c.args.field.now) (check_matrix c.args.code.now) c.args.symbols.now c.args.word.now c.from_residual.result c.in_err-open.field-0.0 result
      (early (not (eqb (g.F.Field.meaning c.args.field.now).order c.args.code.now.header.order)) (ltb (length c.args.scratch.now) (c.args.code.now.header.rows * c.args.code.now.header.columns))
      (not (eqb (length c.args.symbols.now) (information_length c.args.code.now))) (not (eqb (length c.args.word.now) c.args.code.now.header.columns))
      (not (are_codes (g.F.Field.meaning c.args.field.now).order c.args.word.now)) c.in_err-open.field-0.0 refusal);
  matrix = matrix_told c.args.code.now;
  theory = laws_stand;
}
  where
    refusal : opening (g.F.Field.meaning c.args.field.now) c.args.code.now (length c.args.symbols.now) (length c.args.scratch.now) (length c.args.word.now) c.args.word.now (Ok tt) ≡ Err c.in_err-open.field-0.0
    refusal = sym c.in_err-open.ensures

    result : c.from_residual.result ≡ Err c.in_err-open.field-0.0
    result = let p = err_from_is_err_and c.from_residual.result c.from_residual.ensures.1 in p.1 ∙ ap Err p.2

    stops : opening (g.F.Field.meaning c.args.field.now) c.args.code.now (length c.args.symbols.now) (length c.args.scratch.now) (length c.args.word.now) c.args.word.now
        (refuse (row_fails (g.F.Field.meaning c.args.field.now) (check_matrix c.args.code.now) c.args.word.now) RowFails (refuse (dependent (g.F.Field.meaning c.args.field.now) (check_matrix c.args.code.now)) Dependent (Ok tt))) ≡ Err c.in_err-open.field-0.0
    stops = opening_stops (g.F.Field.meaning c.args.field.now) c.args.code.now (length c.args.symbols.now) (length c.args.scratch.now) (length c.args.word.now) c.args.word.now c.in_err-open.field-0.0 refusal
        (refuse (row_fails (g.F.Field.meaning c.args.field.now) (check_matrix c.args.code.now) c.args.word.now) RowFails (refuse (dependent (g.F.Field.meaning c.args.field.now) (check_matrix c.args.code.now)) Dependent (Ok tt)))

pub extract_opened-requires : goal.extract_opened-requires
extract_opened-requires g c = opened (g.F.Field.meaning c.args.field.now) c.args.code.now (length c.args.symbols.now) (length c.args.scratch.now) (length c.args.word.now) c.args.word.now (sym c.in_ok-open.ensures)

pub returns : goal.returns
returns g c = record {
  answer = c.extract_opened.ensures.answer ∙ sym rest;
  symbols = c.extract_opened.ensures.symbols ∙ ap (λ (a : Answer). cond (granted a) (symbols_of (g.F.Field.meaning c.args.field.now) (check_matrix c.args.code.now) c.args.word.now) c.args.symbols.now) (c.extract_opened.ensures.answer ∙ sym rest);
  scratch = c.extract_opened.ensures.scratch;
  law = extraction_law (g.F.Field.meaning c.args.field.now) (g.met.F.Field.lawful c.args.field.now) (check_matrix c.args.code.now)
      (check_entries c.args.code.now (g.F.Field.meaning c.args.field.now) (g.met.F.Field.lawful c.args.field.now) past.order)
      c.extract_opened.result c.args.word.now c.extract_opened.new.symbols c.args.symbols.now (record { long = past.long; below = λ i h. past.codes i (let l = past.long in omega arith) }) c.extract_opened.ensures.answer c.extract_opened.ensures.symbols;
  matrix = matrix_told c.args.code.now;
  theory = laws_stand;
}
  where
    passes : opening (g.F.Field.meaning c.args.field.now) c.args.code.now (length c.args.symbols.now) (length c.args.scratch.now) (length c.args.word.now) c.args.word.now (Ok tt) ≡ Ok tt
    passes = sym c.in_ok-open.ensures

    past : Opened (g.F.Field.meaning c.args.field.now) c.args.code.now (length c.args.symbols.now) (length c.args.scratch.now) (length c.args.word.now) c.args.word.now
    past = opened (g.F.Field.meaning c.args.field.now) c.args.code.now (length c.args.symbols.now) (length c.args.scratch.now) (length c.args.word.now) c.args.word.now passes

    rest : opening (g.F.Field.meaning c.args.field.now) c.args.code.now (length c.args.symbols.now) (length c.args.scratch.now) (length c.args.word.now) c.args.word.now
        (refuse (row_fails (g.F.Field.meaning c.args.field.now) (check_matrix c.args.code.now) c.args.word.now) RowFails (refuse (dependent (g.F.Field.meaning c.args.field.now) (check_matrix c.args.code.now)) Dependent (Ok tt))) ≡ refuse (row_fails (g.F.Field.meaning c.args.field.now) (check_matrix c.args.code.now) c.args.word.now) RowFails (refuse (dependent (g.F.Field.meaning c.args.field.now) (check_matrix c.args.code.now)) Dependent (Ok tt))
    rest = opening_rest (g.F.Field.meaning c.args.field.now) c.args.code.now (length c.args.symbols.now) (length c.args.scratch.now) (length c.args.word.now) c.args.word.now passes
        (refuse (row_fails (g.F.Field.meaning c.args.field.now) (check_matrix c.args.code.now) c.args.word.now) RowFails (refuse (dependent (g.F.Field.meaning c.args.field.now) (check_matrix c.args.code.now)) Dependent (Ok tt)))
