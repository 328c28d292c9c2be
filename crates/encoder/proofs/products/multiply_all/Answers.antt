use Rattle.std.proofs.Common.{◌≡◌, ℕ, ◌*◌, ◌≤◌, refl, ◌∙◌, subst, arith, rules}
use Rattle.field.specs.Tables.{product_of}
use Rattle.encoder.specs.Bytes.{ProductsTo}
use Rattle.encoder.proofs.Multiplied.{square, row_ends, row_keeps, row_filled, products_all}
use Rattle.encoder.proofs.products.multiply_all.Goals as goal

pub loop-a-preserved : goal.loop-a-preserved
loop-a-preserved g c =
    let t = g.F.Field.meaning c.args.field.now in
    let l = g.met.F.Field.lawful c.args.field.now in
    let q = c.order-q.result in
    let a = c.loop-a.a-counter in
    let few : q ≤ 64 = (let h = l.high in let s = c.order-q.ensures in omega arith) in
    let ends = row_ends q a few c.loop-a-test.true in
    let filled = c.fill.ensures (λ b. product_of t a b) (λ b r w e. search rules) in (
      row_keeps t q a _ c.loop-a.products c.fill.new.bytes _ c.order-q.ensures c.loop-a-test.true (omega arith) (search rules) filled _ (search rules) (omega arith) refl ∙ c.loop-a.invariant.0,
      row_filled t q a _ c.loop-a.products c.fill.new.bytes _ c.order-q.ensures c.loop-a-test.true (omega arith) (search rules) filled c.loop-a.invariant.1,
    )

pub returns : goal.returns
returns g c =
    let t = g.F.Field.meaning c.args.field.now in
    let l = g.met.F.Field.lawful c.args.field.now in
    let all : c.loop-a.a-counter ≡ t.order = (let s = c.order-q.ensures in omega arith) in
    products_all t c.loop-a.products (let s = square t.order l.high in let n = c.loop-a.invariant.0 in omega arith) (subst (λ (x : ℕ). ProductsTo t c.loop-a.products (x * t.order)) all c.loop-a.invariant.1)
