use Rattle.std.proofs.Common.{rules}
use Rattle.field.proofs.Derived.{opposite_at}
use Rattle.field.proofs.Unique.{opposite_is}
use Rattle.encoder.proofs.codes.opposite_of.Goals as goal

pub unwrap-requires : goal.unwrap-requires
unwrap-requires g c =
    let l = g.met.F.Field.lawful c.args.field.now in
    let w = opposite_at (g.F.Field.meaning c.args.field.now) l c.args.a c.requires in
    let e = opposite_is (g.F.Field.meaning c.args.field.now) l c.args.a w.0 c.requires w.1 w.2 in
    search rules

pub returns : goal.returns
returns g c =
    let l = g.met.F.Field.lawful c.args.field.now in
    let w = opposite_at (g.F.Field.meaning c.args.field.now) l c.args.a c.requires in
    let e = opposite_is (g.F.Field.meaning c.args.field.now) l c.args.a w.0 c.requires w.1 w.2 in
    search rules
