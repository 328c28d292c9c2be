use Rattle.std.proofs.Common.{◌+◌, ◌*◌, drop, sym, ap, ◌∙◌, arith}
use Rattle.std.proofs.lemmas.List.{at_drop_all}
use Rattle.sheet.specs.Words.{value}
use Rattle.sheet.proofs.Turns.{room, digits_at, value_more}
use Rattle.sheet.proofs.number.value_of.Goals as goal

pub overflow_sub-b : goal.overflow_sub-b
overflow_sub-b c = omega (arith, (digits_at c.args.bytes.now c.loop-b.b-index c.loop-b-test.true c.loop-b.invariant.1).0)

pub overflow_mul-v : goal.overflow_mul-v
overflow_mul-v c = let r = room c.loop-b.b-index c.loop-b.v 0 (omega arith) c.loop-b.invariant.0 (omega arith) in omega arith

pub overflow_add-v : goal.overflow_add-v
overflow_add-v c =
    let d = digits_at c.args.bytes.now c.loop-b.b-index c.loop-b-test.true c.loop-b.invariant.1 in
    let r = room c.loop-b.b-index c.loop-b.v c.from.result (omega arith) c.loop-b.invariant.0 (omega arith) in omega arith

pub loop-b-preserved : goal.loop-b-preserved
loop-b-preserved c =
    let d = digits_at c.args.bytes.now c.loop-b.b-index c.loop-b-test.true c.loop-b.invariant.1 in
    let r = room c.loop-b.b-index c.loop-b.v c.from.result (omega arith) c.loop-b.invariant.0 (omega arith) in
    (r.0, d.2, c.loop-b.invariant.2 ∙ value_more c.args.bytes.now c.loop-b.b-index c.loop-b.v c.loop-b-test.true ∙ ap (λ x. value (c.loop-b.v * 10 + x) (drop (c.loop-b.b-index + 1) c.args.bytes.now)) (sym c.from.ensures))

pub returns : goal.returns
returns c = sym (c.loop-b.invariant.2 ∙ at_drop_all (value _) _ _ c.loop-b-test.false)
