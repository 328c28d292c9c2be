use Rattle.std.proofs.Common.{Some, ◌∙◌, sym}
use Rattle.tower.specs.Made.{parts_of}
use Rattle.kinds.proofs.Computed.{examples, three_is, three_some, nineteen_is, binary_product, nine, nine_some, tower_product}
use Rattle.kinds.proofs.worked.Goals as goal

pub returns-in_err-base-clause-answer : goal.returns-in_err-base-clause-answer
returns-in_err-base-clause-answer c = absurd (three_some c.new-2.result (sym c.ok-2.ensures.value ∙ c.in_err-base.was) c.new-2.ensures.answer)

pub returns-in_err-ok-clause-answer : goal.returns-in_err-ok-clause-answer
returns-in_err-ok-clause-answer c =
    let q = three_is c.new-2.result c.in_ok-base.base (sym c.ok-2.ensures.value ∙ c.in_ok-base.was) c.new-2.ensures.answer in
    absurd (nine_some c.in_ok-base.base.q c.make_tower.result q (sym c.ok-3.ensures.value ∙ c.in_err-ok.was) c.make_tower.ensures.answer)

pub returns : goal.returns
returns c =
    let q = three_is c.new-2.result c.in_ok-base.base (sym c.ok-2.ensures.value ∙ c.in_ok-base.was) c.new-2.ensures.answer in
    let b = nineteen_is c.new.result c.in_ok-binary.binary (sym c.ok.ensures.value ∙ c.in_ok-binary.was) c.new.ensures.answer in
    let t = nine c.in_ok-base.base.q (parts_of c.make_tower.new.tower) (parts_of c.of_four-tower.result) q c.make_tower.ensures.tower in
    let w = binary_product _ _ 8 2 _ 3 b c.in_ok-product.ensures examples.binary_once in
    let x = binary_product _ _ 8 8 _ 12 b c.in_ok-product-2.ensures examples.binary_square in
    let y = tower_product (parts_of c.make_tower.new.tower) 3 3 _ 2 t c.in_ok-product-3.ensures examples.tower_once in
    let z = tower_product (parts_of c.make_tower.new.tower) 4 4 _ 6 t c.in_ok-product-4.ensures examples.tower_square in
    record { answer = λ i. Some (w i, x i, y i, z i); examples = examples }
