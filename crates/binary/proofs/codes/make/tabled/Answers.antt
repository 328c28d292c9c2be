use Rattle.std.proofs.Common.{◌≡◌, ℕ, ◌/◌, ◌%◌, sym, subst, rules}
use Rattle.field.specs.Tables.{product_of, inverse_of}
use Rattle.field.specs.Grids.{grid, solutions}
use Rattle.binary.specs.Fields.{product_by, binary_tables}
use Rattle.binary.proofs.Whole.{order_fits}
use Rattle.binary.proofs.codes.make.tabled.Goals as goal

pub invariant_of-result : goal.invariant_of-result
unfolding grid solutions
invariant_of-result c =
    let s = c.args.rule in
    let t = binary_tables s.p s.polynomial in
    record {
      admitted = s.admitted;
      sized = s.sized;
      small = order_fits s;
      multiplied = subst (λ (q : ℕ). c.fill.new.bytes ≡ grid 64 q (product_by s.p s.polynomial)) (sym s.sized) (c.fill.ensures (λ k. product_of t (k / 64) (k % 64)) (λ k r w e. search rules));
      inverted = subst (λ (q : ℕ). c.fill-2.new.bytes ≡ solutions q (product_by s.p s.polynomial) 1) (sym s.sized) (c.fill-2.ensures (inverse_of t) (λ k r w e. search rules));
    }
