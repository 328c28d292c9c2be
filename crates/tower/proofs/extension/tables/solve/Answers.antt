use Rattle.std.proofs.Common.{◌≡◌, rules, sym}
use Rattle.std.proofs.lemmas.Iterator.{first_from_Range}
use Rattle.field.specs.Grids.{entry}
use Rattle.field.proofs.Least.{searched_row}
use Rattle.field.proofs.Unique.{least_out}
use Rattle.tower.proofs.extension.tables.solve.Goals as goal

pub returns-then-a-q : goal.returns-then-a-q
returns-then-a-q c = sym (least_out _ _ _ _ c.if-a-q.true)

pub returns : goal.returns
returns c =
    let xs = c.args.table.now in
    searched_row _ _ _ _ c.find.result c.if-a-q.false
    (first_from_Range _ _ _ c.find.result (λ b. entry 64 xs c.args.a b ≡ c.args.value) (λ b. entry 64 xs c.args.a b ≡ c.args.value → ⊥) c.find.ensures.ran (λ x q k. search rules) (λ x q k. search rules))
