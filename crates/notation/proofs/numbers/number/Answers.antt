use Rattle.std.proofs.Common.{◌+◌, ◌-◌, ◌*◌, ◌≢◌, length, get_or, drop, sym, ap, ◌∙◌, arith, eqb-true}
use Rattle.std.proofs.lemmas.Bool.{eqb-false}
use Rattle.std.proofs.lemmas.List.{at_drop_all}
use Rattle.sheet.specs.Words.{digits, value}
use Rattle.sheet.proofs.Turns.{digits_more, digits_not, value_more}
use Rattle.notation.proofs.Turns.{value_grows, none_empty, none_large, none_other, some_number}
use Rattle.notation.proofs.numbers.number.Goals as goal

pub returns-then-is_empty : goal.returns-then-is_empty
returns-then-is_empty c = record { value = none_empty c.args.largest c.args.text.now (eqb-true _ 0 (sym c.if-is_empty.ensures)); within = tt }

pub returns-then-not-is_digit : goal.returns-then-not-is_digit
returns-then-not-is_digit c = record { value = none_other c.args.largest c.args.text.now (c.loop-b.invariant.1 ∙ digits_not _ _ c.loop-b-test.true c.if-not-is_digit.ensures); within = tt }

pub returns-then-n-from : goal.returns-then-n-from
returns-then-n-from c =
    let e = c.loop-b.invariant.2 ∙ value_more c.args.text.now c.loop-b.b-index c.loop-b.n c.loop-b-test.true in
    record { value = none_large c.args.largest c.args.text.now (omega (arith, e, value_grows (c.loop-b.n * 10 + (get_or c.args.text.now c.loop-b.b-index 0 - 48)) (drop (c.loop-b.b-index + 1) c.args.text.now))); within = tt }

pub loop-b-preserved : goal.loop-b-preserved
loop-b-preserved c = (
  omega arith,
  c.loop-b.invariant.1 ∙ digits_more _ _ c.loop-b-test.true c.if-not-is_digit.ensures,
  c.loop-b.invariant.2 ∙ value_more c.args.text.now c.loop-b.b-index c.loop-b.n c.loop-b-test.true ∙ ap (λ x. value (c.loop-b.n * 10 + x) (drop (c.loop-b.b-index + 1) c.args.text.now)) (sym c.from.ensures),
)

pub returns : goal.returns
returns c = record {
  value = some_number c.args.largest c.loop-b.n c.args.text.now (let e : length c.args.text.now ≢ 0 = λ z. eqb-false _ 0 (sym c.if-is_empty.ensures) z in omega arith) (c.loop-b.invariant.1 ∙ at_drop_all digits _ _ c.loop-b-test.false) (c.loop-b.invariant.2 ∙ at_drop_all (value c.loop-b.n) _ _ c.loop-b-test.false) c.loop-b.invariant.0;
  within = c.loop-b.invariant.0;
}
