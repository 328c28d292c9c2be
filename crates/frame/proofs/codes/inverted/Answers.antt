use Rattle.std.proofs.Common.{rules}
use Rattle.frame.proofs.Opposites.{inverse_found}
use Rattle.frame.proofs.codes.inverted.Goals as goal

pub unwrap-requires : goal.unwrap-requires
unwrap-requires g c = let l = inverse_found (g.F.Field.meaning c.args.field.now) (g.met.F.Field.lawful c.args.field.now) c.args.a c.requires.1 c.requires.0 in search rules

pub returns : goal.returns
returns g c = let l = inverse_found (g.F.Field.meaning c.args.field.now) (g.met.F.Field.lawful c.args.field.now) c.args.a c.requires.1 c.requires.0 in search rules
