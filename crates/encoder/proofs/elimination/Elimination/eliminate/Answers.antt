use Rattle.std.proofs.Common.{◌+◌, ◌*◌, length, get_or, arith}
use Rattle.linear.proofs.Placing.{reduced_same}
use Rattle.encoder.specs.Bytes.{laid}
use Rattle.encoder.specs.CheckMatrix.{coefficient_in}
use Rattle.encoder.proofs.Laying.{laid_entries}
use Rattle.encoder.proofs.Sparse.{listed_entries}
use Rattle.encoder.proofs.elimination.Elimination.eliminate.Goals as goal

pub reduce-requires : goal.reduce-requires
reduce-requires g c = record {
  codes = record {
    room = (let r = c.requires.room in omega arith);
    entries = laid_entries (g.F.Field.meaning c.args.self.now.field.now).order c.args.edges.now c.lay.new.matrix c.args.self.now.rows c.args.self.now.columns c.lay.ensures
        (listed_entries (g.F.Field.meaning c.args.self.now.field.now) (g.met.F.Field.lawful c.args.self.now.field.now) c.args.self.now.rows c.args.self.now.columns c.args.edges.now c.requires.listed);
  };
  owners = c.requires.owners;
  fresh = c.requires.fresh;
}

pub returns : goal.returns
returns g c =
    reduced_same (g.F.Field.meaning c.args.self.now.field.now) c.args.self.now.rows c.args.self.now.columns (λ r j. get_or c.lay.new.matrix (r * c.args.self.now.columns + j) 0) (coefficient_in c.args.edges.now (length c.args.edges.now))
    c.lay.ensures.entry (laid c.reduce.new.matrix c.args.self.now.rows c.args.self.now.columns) 0 c.reduce.new.owners c.reduce.ensures
