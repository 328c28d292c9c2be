use Rattle.std.proofs.Common.{◌≡◌, ℕ, cond, length, Some, None, Ok, Err, sym, ap, ◌∙◌, subst, arith}
use Rattle.std.proofs.lemmas.Bool.{eqb-false}
use Rattle.code.proofs.Lawfully.{rules_of}
use Rattle.code.specs.Views.{view}
use Rattle.due.specs.Numbers.{numbers_in}
use Rattle.due.specs.Refusals.{number_of}
use Rattle.tree.specs.Frame.{Slip, concludes, word_told, granted, refused, grants, outcome, parts_of, word_of}
use Rattle.frame.specs.Slips.{running_of}
use Rattle.tree.proofs.Decodings.{decoding_theorem}
use Rattle.decoding.specs.declared.decoded.NotDecoded.{NotDecoded}
use Rattle.decoding.specs.Ends.{frame_of, Settled}
use Rattle.decoding.proofs.Answered.{told_at_once, row_is, told_refused, told_whole, not_refused}
use Rattle.decoding.proofs.decoded.decode.Goals as goal

pub settle-requires : goal.settle-requires
settle-requires g c =
    let F = g.F.Field.meaning c.args.field.now in let K = view c.args.code.now in
    let s = c.args.slip in let b = c.in-Err.field-0 in let size = length c.args.word.now in let area = c.args.area.now in
    let w = row_is F K (g.J.Joiner.pairs c.args.joiner.now) size area (numbers_in s.numbers) s.made b.refusal (running_of b.slip) c.args.word.now c.conclude.new.word
    c.in-Err.ensures.answer (sym c.is_row.ensures ∙ c.if-is_row.true) c.in-Err.ensures.back c.conclude.ensures.word in
    ap (λ (x : Slip). outcome F K (concludes K.header.columns) area x) w.slip ∙ ap (λ (k : ℕ). outcome F K (concludes k) area (running_of s)) w.long ∙ w.told

pub returns-in-Err-settle : goal.returns-in-Err-settle
returns-in-Err-settle g c =
    let F = g.F.Field.meaning c.args.field.now in let J = g.J.Joiner.pairs c.args.joiner.now in let K = view c.args.code.now in
    let s = c.args.slip in let b = c.in-Err.field-0 in let word = c.args.word.now in let area = c.args.area.now in
    let after = c.settle.new.area in let left = running_of c.settle.new.slip in let stop = c.in-Err-settle.field-0 in
    let w = row_is F K J (length word) area (numbers_in s.numbers) s.made b.refusal (running_of b.slip) word c.conclude.new.word
    c.in-Err.ensures.answer (sym c.is_row.ensures ∙ c.if-is_row.true) c.in-Err.ensures.back c.conclude.ensures.word in
    let settled : Settled F K J (frame_of area s) after left (Err stop) =
    subst (λ e. Settled F K J (frame_of area s) after left e) c.in-Err-settle.is (subst (λ (x : Slip). Settled F K J (record { area = area; slip = x }) after left c.settle.result) w.slip c.settle.ensures) in
    let a = told_refused F K J (length word) (frame_of area s) after word c.conclude.new.word left stop (number_of c.reason.result) (g.met.F.Field.lawful c.args.field.now) (rules_of _ _ _ c.args.code.now.admitted) c.settle.ensures.words w.long settled c.reason.ensures w.word in
    record { answer = a.answer; back = a.back; failing = a.failing; area = a.area; word = a.written_word; run = a.run; law = decoding_theorem }

pub returns-in_ok-conclude-in-Err : goal.returns-in_ok-conclude-in-Err
returns-in_ok-conclude-in-Err g c =
    let F = g.F.Field.meaning c.args.field.now in let J = g.J.Joiner.pairs c.args.joiner.now in let K = view c.args.code.now in
    let R = rules_of _ _ _ c.args.code.now.admitted in
    let s = c.args.slip in let b = c.in-Err.field-0 in let word = c.args.word.now in let area = c.args.area.now in
    let after = c.settle.new.area in let left = running_of c.settle.new.slip in
    let first = c.conclude.new.word in let written = c.conclude-in-Err.new.word in
    let w = row_is F K J (length word) area (numbers_in s.numbers) s.made b.refusal (running_of b.slip) word first
    c.in-Err.ensures.answer (sym c.is_row.ensures ∙ c.if-is_row.true) c.in-Err.ensures.back c.conclude.ensures.word in
    let settled : Settled F K J (frame_of area s) after left (Ok tt) =
    subst (λ e. Settled F K J (frame_of area s) after left e) c.in_default.is (subst (λ (x : Slip). Settled F K J (record { area = area; slip = x }) after left c.settle.result) w.slip c.settle.ensures) in
    let size : length first ≡ length word = ap length w.word in
    let answer : granted (word_told written c.in_ok-conclude-in-Err.field-0) ≡ outcome F K (concludes (length word)) after left =
    c.in_ok-conclude-in-Err.ensures.answer ∙ ap (λ (k : ℕ). outcome F K (concludes k) after left) size in
    let laid : written ≡ cond (grants (outcome F K (concludes (length word)) after left)) (word_of K (parts_of K after)) word =
    c.conclude-in-Err.ensures.word ∙ ap (λ (k : ℕ). cond (grants (outcome F K (concludes k) after left)) (word_of K (parts_of K after)) first) size
    ∙ ap (λ w. cond (grants (outcome F K (concludes (length word)) after left)) (word_of K (parts_of K after)) w) w.word in
    let a = told_whole F K J (length word) (frame_of area s) after word written left c.in_ok-conclude-in-Err.field-0 (g.met.F.Field.lawful c.args.field.now) R c.settle.ensures.words w.long settled answer laid in
    record { answer = a.answer; back = a.back; failing = a.failing; area = a.area; word = a.written_word; run = a.run; law = decoding_theorem }

pub returns-in_err-conclude-in-Err : goal.returns-in_err-conclude-in-Err
returns-in_err-conclude-in-Err g c =
    let F = g.F.Field.meaning c.args.field.now in let J = g.J.Joiner.pairs c.args.joiner.now in let K = view c.args.code.now in
    let R = rules_of _ _ _ c.args.code.now.admitted in
    let s = c.args.slip in let b = c.in-Err.field-0 in let word = c.args.word.now in let area = c.args.area.now in
    let after = c.settle.new.area in let left = running_of c.settle.new.slip in
    let w = row_is F K J (length word) area (numbers_in s.numbers) s.made b.refusal (running_of b.slip) word c.conclude.new.word
    c.in-Err.ensures.answer (sym c.is_row.ensures ∙ c.if-is_row.true) c.in-Err.ensures.back c.conclude.ensures.word in
    let settled : Settled F K J (frame_of area s) after left (Ok tt) =
    subst (λ e. Settled F K J (frame_of area s) after left e) c.in_default.is (subst (λ (x : Slip). Settled F K J (record { area = area; slip = x }) after left c.settle.result) w.slip c.settle.ensures) in
    absurd (not_refused F K J (length word) (frame_of area s) after left (number_of c.in_err-conclude-in-Err.field-0.0.refusal) R w.long settled
    (c.in_err-conclude-in-Err.ensures.answer ∙ ap (λ (k : ℕ). outcome F K (concludes k) after left) (ap length w.word)))

pub returns-in-Ok : goal.returns-in-Ok
returns-in-Ok g c =
    let F = g.F.Field.meaning c.args.field.now in let J = g.J.Joiner.pairs c.args.joiner.now in let K = view c.args.code.now in
    let s = c.args.slip in let word = c.args.word.now in
    let a = told_at_once F K J (length word) c.args.area.now (numbers_in s.numbers) s.made word c.conclude.new.word (granted (word_told c.conclude.new.word c.in-Ok.rounds)) None
    c.in-Ok.ensures.answer (λ e. let z : ◌≡◌ {A = ℕ} 0 1 = cc in omega arith) c.conclude.ensures.word c.in-Ok.ensures.back in
    record { answer = a.answer; back = a.back; failing = a.failing; area = a.area; word = a.written_word; run = a.run; law = decoding_theorem }

pub returns-in-Err-2 : goal.returns-in-Err-2
returns-in-Err-2 g c =
    let F = g.F.Field.meaning c.args.field.now in let J = g.J.Joiner.pairs c.args.joiner.now in let K = view c.args.code.now in
    let s = c.args.slip in let word = c.args.word.now in let b = c.in-Err.field-0 in let e = c.from.ensures in
    let other : refused (number_of b.refusal) ≡ refused 24 → ⊥ = λ r. eqb-false (number_of b.refusal) 24 (sym c.is_row.ensures ∙ c.if-is_row.false) (cc) in
    let a = told_at_once F K J (length word) c.args.area.now (numbers_in s.numbers) s.made word c.conclude.new.word (refused (number_of b.refusal)) (Some (running_of b.slip))
    c.in-Err.ensures.answer other c.conclude.ensures.word c.in-Err.ensures.back in
    record {
      answer = ap (λ (d : NotDecoded). refused (number_of d.refusal)) e ∙ a.answer;
      back = ap (λ (d : NotDecoded). Some (running_of d.slip)) e ∙ a.back;
      failing = ap (λ (d : NotDecoded). d.failing) e ∙ a.failing;
      area = a.area;
      word = a.written_word;
      run = a.run;
      law = decoding_theorem;
    }
