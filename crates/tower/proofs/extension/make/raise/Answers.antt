use Rattle.std.proofs.Common.{◌≡◌, ◌*◌, ◌/◌, ◌%◌, refl, ◌∙◌, rules}
use Rattle.field.specs.Tables.{at_both, least}
use Rattle.field.specs.Grids.{entry, grid, solutions}
use Rattle.tower.specs.Towers.{pair_sum, pair_product}
use Rattle.tower.specs.Copies.{tables_of}
use Rattle.tower.specs.Refusal.{square_small}
use Rattle.tower.proofs.Solved.{solutions_same}
use Rattle.tower.proofs.extension.make.raise.Goals as goal

pub invariant_of-result : goal.invariant_of-result
unfolding grid solutions
invariant_of-result c =
    let p = c.args.pairs in
    let t = tables_of p.base in
    let q = p.base.r * p.base.r in
    let fit = square_small p.base.r p.base.small in
    let sums : c.fill.new.bytes ≡ grid 64 q (pair_sum t) = c.fill.ensures (λ k. at_both q (pair_sum t) (k / 64) (k % 64)) (λ k r w e. search rules) in
    let products : c.fill-2.new.bytes ≡ grid 64 q (pair_product t p.u p.v) = c.fill-2.ensures (λ k. at_both q (pair_product t p.u p.v) (k / 64) (k % 64)) (λ k r w e. search rules) in
    record {
      square = refl;
      small = fit;
      rootless = c.requires;
      summed = sums;
      multiplied = products;
      opposed = c.fill-3.ensures (λ a. least q (entry 64 c.fill.new.bytes) a 0) (λ k r w e. search rules) ∙ solutions_same _ (pair_sum t) 0 c.fill.new.bytes fit sums;
      inverted = c.fill-4.ensures (λ a. least q (entry 64 c.fill-2.new.bytes) a 1) (λ k r w e. search rules) ∙ solutions_same _ (pair_product t p.u p.v) 1 c.fill-2.new.bytes fit products;
    }
