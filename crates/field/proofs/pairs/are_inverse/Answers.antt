use Rattle.std.proofs.Common.{ℕ, Option, ap, ◌∙◌}
use Rattle.field.specs.Only.{is_answer}
use Rattle.field.proofs.Unique.{inverses}
use Rattle.field.proofs.Tells.{compared, product_tells}
use Rattle.field.proofs.pairs.are_inverse.Goals as goal

pub returns : goal.returns
returns g c =
    let t = g.F.Field.meaning c.args.field.now in
    let l = g.met.F.Field.lawful c.args.field.now in
    record {
      answer = c.eq.ensures ∙ compared c.product.result 1
          ∙ ap (λ (o : Option ℕ). is_answer o 1) c.product.ensures
          ∙ product_tells t l c.args.a c.args.b;
      law = inverses;
    }
