use Rattle.std.proofs.Common.{arith}
use Rattle.joiner.proofs.Rows.{in_place, made_long, made_at}
use Rattle.joiner.proofs.chosen.ChosenEntries.at.Goals as goal

pub bounds-self-k : goal.bounds-self-k
bounds-self-k c = let s = c.args.self.now in omega (arith, c.requires, s.few, made_long (in_place s.codes s.costs) s.count)

pub offset_bounds-self-k : goal.offset_bounds-self-k
offset_bounds-self-k c = let s = c.args.self.now in omega (arith, c.requires, s.few, made_long (in_place s.codes s.costs) s.count)

pub bounds-self-k-2 : goal.bounds-self-k-2
bounds-self-k-2 c = let s = c.args.self.now in omega (arith, c.requires, s.few, made_long (in_place s.codes s.costs) s.count)

pub returns : goal.returns
returns c = let s = c.args.self.now in let f = in_place s.codes s.costs in made_at f s.count c.args.k (omega (arith, c.requires, made_long f s.count))
