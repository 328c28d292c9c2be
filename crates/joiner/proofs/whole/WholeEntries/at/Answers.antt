use Rattle.std.proofs.Common.{length, arith}
use Rattle.joiner.proofs.Rows.{all_long, all_at}
use Rattle.joiner.proofs.whole.WholeEntries.at.Goals as goal

pub overflow_cast-result : goal.overflow_cast-result
overflow_cast-result c = omega (arith, c.requires, c.args.self.now.few, all_long c.args.self.now.costs.now (length c.args.self.now.costs.now))

pub offset_bounds-self-k : goal.offset_bounds-self-k
offset_bounds-self-k c = omega (arith, c.requires, c.args.self.now.few, all_long c.args.self.now.costs.now (length c.args.self.now.costs.now))

pub bounds-self-k : goal.bounds-self-k
bounds-self-k c = omega (arith, c.requires, all_long c.args.self.now.costs.now (length c.args.self.now.costs.now))

pub returns : goal.returns
returns c =
    let costs = c.args.self.now.costs.now in
    all_at costs (length costs) c.args.k (omega (arith, c.requires, all_long costs (length costs)))
