use Rattle.std.proofs.Common.{◌≡◌, ◌*◌, cond, not, eqb, ltb, length, Ok, Err, sym, refl, ap, ◌∙◌}
use Rattle.std.proofs.lemmas.Result.{err_from_is_err_and}
use Rattle.linear.proofs.Laws.{laws_stand}
use Rattle.linear.specs.Encoded.{the_word}
use Rattle.linear.specs.Rows.{dependent}
use Rattle.encoder.specs.Answers.{Answer, are_codes, granted, information_length, opening, refuse, uses_scratch}
use Rattle.encoder.specs.CheckMatrix.{check_matrix}
use Rattle.encoder.specs.Opened.{Opened}
use Rattle.encoder.specs.declared.refusal.CoderRefusal.TheVariants.{Dependent}
use Rattle.encoder.proofs.Admitted.{check_entries, fewer, matrix_told}
use Rattle.encoder.proofs.Computed.{example_a}
use Rattle.encoder.proofs.Passing.{opened, opening_rest, opening_stops}
use Rattle.encoder.proofs.Promised.{early, encoding_law, encoding_refused, fails_scratch}
use Rattle.encoder.proofs.encoding.encode.Goals as goal

pub returns-in_err-open : goal.returns-in_err-open
returns-in_err-open g c = record {
  answer = result ∙ sym stops;
  word = sym (ap (λ (a : Answer). cond (granted a) (the_word (g.F.Field.meaning c.args.field.now) (check_matrix c.args.code.now) c.args.symbols.now) c.args.word.now) stops);
  scratch = λ e. refl;
  law = encoding_refused (g.F.Field.meaning c.args.field.now) (check_matrix c.args.code.now) c.args.symbols.now c.args.word.now c.from_residual.result c.in_err-open.field-0.0 result
      (early (not (eqb (g.F.Field.meaning c.args.field.now).order c.args.code.now.header.order)) (ltb (length c.args.scratch.now) (c.args.code.now.header.rows * c.args.code.now.header.columns))
      (not (eqb (length c.args.symbols.now) (information_length c.args.code.now))) (not (eqb (length c.args.word.now) c.args.code.now.header.columns))
      (not (are_codes (g.F.Field.meaning c.args.field.now).order c.args.symbols.now)) c.in_err-open.field-0.0 refusal);
  matrix = matrix_told c.args.code.now;
  theory = laws_stand;
  example = example_a;
}
  where
    refusal : opening (g.F.Field.meaning c.args.field.now) c.args.code.now (length c.args.symbols.now) (length c.args.scratch.now) (length c.args.word.now) c.args.symbols.now (Ok tt) ≡ Err c.in_err-open.field-0.0
    refusal = sym c.in_err-open.ensures

    result : c.from_residual.result ≡ Err c.in_err-open.field-0.0
    result = let p = err_from_is_err_and c.from_residual.result c.from_residual.ensures.1 in p.1 ∙ ap Err p.2

    stops : opening (g.F.Field.meaning c.args.field.now) c.args.code.now (length c.args.symbols.now) (length c.args.scratch.now) (length c.args.word.now) c.args.symbols.now
        (refuse (dependent (g.F.Field.meaning c.args.field.now) (check_matrix c.args.code.now)) Dependent (Ok tt)) ≡ Err c.in_err-open.field-0.0
    stops = opening_stops (g.F.Field.meaning c.args.field.now) c.args.code.now (length c.args.symbols.now) (length c.args.scratch.now) (length c.args.word.now) c.args.symbols.now c.in_err-open.field-0.0 refusal
        (refuse (dependent (g.F.Field.meaning c.args.field.now) (check_matrix c.args.code.now)) Dependent (Ok tt))

pub encode_opened-requires : goal.encode_opened-requires
encode_opened-requires g c = opened (g.F.Field.meaning c.args.field.now) c.args.code.now (length c.args.symbols.now) (length c.args.scratch.now) (length c.args.word.now) c.args.symbols.now (sym c.in_ok-open.ensures)

pub returns : goal.returns
returns g c = record {
  answer = c.encode_opened.ensures.answer ∙ sym rest;
  word = c.encode_opened.ensures.word ∙ ap (λ (a : Answer). cond (granted a) (the_word (g.F.Field.meaning c.args.field.now) (check_matrix c.args.code.now) c.args.symbols.now) c.args.word.now) (c.encode_opened.ensures.answer ∙ sym rest);
  scratch = λ e. absurd (fails_scratch (dependent (g.F.Field.meaning c.args.field.now) (check_matrix c.args.code.now)) (ap uses_scratch (sym c.encode_opened.ensures.answer) ∙ e));
  law = encoding_law (g.F.Field.meaning c.args.field.now) (g.met.F.Field.lawful c.args.field.now) (check_matrix c.args.code.now)
      (check_entries c.args.code.now (g.F.Field.meaning c.args.field.now) (g.met.F.Field.lawful c.args.field.now) past.order)
      c.encode_opened.result c.encode_opened.ensures.answer c.args.symbols.now c.encode_opened.new.word c.args.word.now (fewer c.args.code.now) past.many past.codes c.encode_opened.ensures.word;
  matrix = matrix_told c.args.code.now;
  theory = laws_stand;
  example = example_a;
}
  where
    passes : opening (g.F.Field.meaning c.args.field.now) c.args.code.now (length c.args.symbols.now) (length c.args.scratch.now) (length c.args.word.now) c.args.symbols.now (Ok tt) ≡ Ok tt
    passes = sym c.in_ok-open.ensures

    past : Opened (g.F.Field.meaning c.args.field.now) c.args.code.now (length c.args.symbols.now) (length c.args.scratch.now) (length c.args.word.now) c.args.symbols.now
    past = opened (g.F.Field.meaning c.args.field.now) c.args.code.now (length c.args.symbols.now) (length c.args.scratch.now) (length c.args.word.now) c.args.symbols.now passes

    rest : opening (g.F.Field.meaning c.args.field.now) c.args.code.now (length c.args.symbols.now) (length c.args.scratch.now) (length c.args.word.now) c.args.symbols.now
        (refuse (dependent (g.F.Field.meaning c.args.field.now) (check_matrix c.args.code.now)) Dependent (Ok tt)) ≡ refuse (dependent (g.F.Field.meaning c.args.field.now) (check_matrix c.args.code.now)) Dependent (Ok tt)
    rest = opening_rest (g.F.Field.meaning c.args.field.now) c.args.code.now (length c.args.symbols.now) (length c.args.scratch.now) (length c.args.word.now) c.args.symbols.now passes
        (refuse (dependent (g.F.Field.meaning c.args.field.now) (check_matrix c.args.code.now)) Dependent (Ok tt))
