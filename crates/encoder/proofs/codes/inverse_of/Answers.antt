use Rattle.std.proofs.Common.{◌<◌, arith, rules}
use Rattle.field.proofs.Derived.{inverse_at}
use Rattle.field.proofs.Unique.{inverse_is}
use Rattle.encoder.proofs.codes.inverse_of.Goals as goal

pub unwrap-requires : goal.unwrap-requires
unwrap-requires g c =
    let l = g.met.F.Field.lawful c.args.field.now in
    let z = c.requires.nonzero in
    let p : 0 < c.args.a = omega arith in
    let w = inverse_at (g.F.Field.meaning c.args.field.now) l c.args.a p c.requires.code in
    let e = inverse_is (g.F.Field.meaning c.args.field.now) l c.args.a w.0 c.requires.code w.1 w.2 in
    search rules

pub returns : goal.returns
returns g c =
    let l = g.met.F.Field.lawful c.args.field.now in
    let z = c.requires.nonzero in
    let p : 0 < c.args.a = omega arith in
    let w = inverse_at (g.F.Field.meaning c.args.field.now) l c.args.a p c.requires.code in
    let e = inverse_is (g.F.Field.meaning c.args.field.now) l c.args.a w.0 c.requires.code w.1 w.2 in
    search rules
