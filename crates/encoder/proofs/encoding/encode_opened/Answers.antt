use Rattle.std.proofs.Common.{length, sym, refl, ap, ◌∙◌, subst}
use Rattle.field.specs.Tables.{Tables}
use Rattle.linear.specs.Encoded.{the_word}
use Rattle.linear.specs.Rows.{dependent}
use Rattle.encoder.specs.CheckMatrix.{check_matrix}
use Rattle.encoder.specs.Opened.{Opened}
use Rattle.encoder.proofs.Passing.{passed, refused}
use Rattle.encoder.proofs.Solved.{depends, fresh_long, fresh_none, listed, room, stands, word_is}
use Rattle.encoder.proofs.encoding.encode_opened.Goals as goal

pub eliminate-requires : goal.eliminate-requires
eliminate-requires g c = record {
  listed = listed T c.args.code.now (length c.args.symbols.now) (length c.args.scratch.now) (length c.args.word.now) c.args.symbols.now past c.new-elimination.result.rows c.new-elimination.result.columns c.edges.result.now c.new-elimination.ensures.rows c.new-elimination.ensures.columns c.edges.ensures.answer;
  room = room T c.args.code.now (length c.args.symbols.now) (length c.args.scratch.now) (length c.args.word.now) c.args.symbols.now past c.new-elimination.result.rows c.new-elimination.result.columns c.edges.result.now c.new-elimination.ensures.rows c.new-elimination.ensures.columns c.edges.ensures.answer;
  owners = fresh_long c.new-elimination.result.rows c.new-elimination.result.rows_high;
  fresh = fresh_none c.new-elimination.result.rows c.new-elimination.result.rows_high;
}
  where
    T : Tables
    T = g.F.Field.meaning c.new-elimination.result.field.now

    past : Opened T c.args.code.now (length c.args.symbols.now) (length c.args.scratch.now) (length c.args.word.now) c.args.symbols.now
    past = subst (λ f. Opened (g.F.Field.meaning f) c.args.code.now (length c.args.symbols.now) (length c.args.scratch.now) (length c.args.word.now) c.args.symbols.now) (sym c.new-elimination.ensures.field) c.requires

pub returns-then-depend-clause-answer : goal.returns-then-depend-clause-answer
returns-then-depend-clause-answer g c = sym (refused _ _ _ ((ap (λ f. dependent (g.F.Field.meaning f) (check_matrix c.args.code.now)) (sym c.new-elimination.ensures.field)) ∙ depends T c.args.code.now (length c.args.symbols.now) (length c.args.scratch.now) (length c.args.word.now) c.args.symbols.now past c.new-elimination.result.rows c.new-elimination.result.columns c.edges.result.now c.new-elimination.ensures.rows c.new-elimination.ensures.columns c.edges.ensures.answer (g.met.F.Field.lawful c.new-elimination.result.field.now) c.eliminate.new.matrix c.eliminate.new.owners (c.eliminate.auto.owners ∙ fresh_long c.new-elimination.result.rows c.new-elimination.result.rows_high) c.eliminate.ensures (sym c.depend.ensures ∙ c.if-depend.true)))
  where
    T : Tables
    T = g.F.Field.meaning c.new-elimination.result.field.now

    past : Opened T c.args.code.now (length c.args.symbols.now) (length c.args.scratch.now) (length c.args.word.now) c.args.symbols.now
    past = subst (λ f. Opened (g.F.Field.meaning f) c.args.code.now (length c.args.symbols.now) (length c.args.scratch.now) (length c.args.word.now) c.args.symbols.now) (sym c.new-elimination.ensures.field) c.requires

pub returns : goal.returns
returns g c = record {
  answer = sym (passed _ _ _ ((ap (λ f. dependent (g.F.Field.meaning f) (check_matrix c.args.code.now)) (sym c.new-elimination.ensures.field)) ∙ stands T c.args.code.now (length c.args.symbols.now) (length c.args.scratch.now) (length c.args.word.now) c.args.symbols.now past c.new-elimination.result.rows c.new-elimination.result.columns c.edges.result.now c.new-elimination.ensures.rows c.new-elimination.ensures.columns c.edges.ensures.answer (g.met.F.Field.lawful c.new-elimination.result.field.now) c.eliminate.new.matrix c.eliminate.new.owners (c.eliminate.auto.owners ∙ fresh_long c.new-elimination.result.rows c.new-elimination.result.rows_high) c.eliminate.ensures (sym c.depend.ensures ∙ c.if-depend.false)));
  word = word_is T c.args.code.now (length c.args.symbols.now) (length c.args.scratch.now) (length c.args.word.now) c.args.symbols.now past c.new-elimination.result.rows c.new-elimination.result.columns c.edges.result.now c.new-elimination.ensures.rows c.new-elimination.ensures.columns c.edges.ensures.answer (g.met.F.Field.lawful c.new-elimination.result.field.now) c.eliminate.new.matrix c.eliminate.new.owners (c.eliminate.auto.owners ∙ fresh_long c.new-elimination.result.rows c.new-elimination.result.rows_high) c.eliminate.ensures (sym c.depend.ensures ∙ c.if-depend.false) c.place.new.word refl c.place.auto.word c.place.ensures c.finish.new.word c.finish.ensures ∙ ap (λ f. the_word (g.F.Field.meaning f) (check_matrix c.args.code.now) c.args.symbols.now) c.new-elimination.ensures.field;
}
  where
    T : Tables
    T = g.F.Field.meaning c.new-elimination.result.field.now

    past : Opened T c.args.code.now (length c.args.symbols.now) (length c.args.scratch.now) (length c.args.word.now) c.args.symbols.now
    past = subst (λ f. Opened (g.F.Field.meaning f) c.args.code.now (length c.args.symbols.now) (length c.args.scratch.now) (length c.args.word.now) c.args.symbols.now) (sym c.new-elimination.ensures.field) c.requires
