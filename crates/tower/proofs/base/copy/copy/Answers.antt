use Rattle.std.proofs.Common.{◌≡◌, ℕ, ◌/◌, ◌%◌, ◌≤◌, List, rules}
use Rattle.field.specs.Tables.{Tables, Lawful, sum_of, product_of}
use Rattle.field.specs.Grids.{grid}
use Rattle.tower.specs.Towers.{copied}
use Rattle.tower.proofs.Copies.{copies_lawful}
use Rattle.tower.proofs.base.copy.copy.Goals as goal

laws_of : (t : Tables) (r : ℕ) (s p : List ℕ) → r ≡ t.order → s ≡ grid 8 t.order t.sum → p ≡ grid 8 t.order t.product → t.order ≤ 8 → Lawful t → Lawful (copied r s p)
laws_of t r s p er es ep fit l = rw (er, es, ep) (copies_lawful t fit l)

pub returns-clause-sums : goal.returns-clause-sums
unfolding grid
returns-clause-sums g c =
    let t = g.F.Field.meaning c.args.field.now in c.fill.ensures (λ k. sum_of t (k / 8) (k % 8)) (λ k r w e. search rules)

pub returns-clause-products : goal.returns-clause-products
unfolding grid
returns-clause-products g c =
    let t = g.F.Field.meaning c.args.field.now in c.fill-2.ensures (λ k. product_of t (k / 8) (k % 8)) (λ k r w e. search rules)

pub invariant_of-result : goal.invariant_of-result
unfolding grid
invariant_of-result g c =
    let t = g.F.Field.meaning c.args.field.now in
    let l = g.met.F.Field.lawful c.args.field.now in
    let s = c.fill.ensures (λ k. sum_of t (k / 8) (k % 8)) (λ k r w e. search rules) in
    let p = c.fill-2.ensures (λ k. product_of t (k / 8) (k % 8)) (λ k r w e. search rules) in record {
      small = search rules;
      laws = ∣ laws_of t c.order-r.result c.fill.new.bytes c.fill-2.new.bytes c.order-r.ensures s p c.requires l ∣₁;
    }
