use Rattle.std.proofs.Common.{arith}
use Rattle.joiner.specs.Counts.{level_by}
use Rattle.joiner.proofs.Granted.{granted}
use Rattle.joiner.proofs.level.level_of.Goals as goal

pub level_with-requires-else-operands-lt64 : goal.level_with-requires-else-operands-lt64
level_with-requires-else-operands-lt64 g c =
    let o = c.args.operands.now in let q = (g.F.Field.meaning o.field.now).order in
    (omega (arith, (granted q o.ceiling o.left.now o.right.now q o.admitted).high), omega arith)

pub returns-then-operands-lt64-clause-law : goal.returns-then-operands-lt64-clause-law
returns-then-operands-lt64-clause-law g c = level_by _ _ _ _ _ c.level_with.ensures

pub returns-else-operands-lt64-clause-law : goal.returns-else-operands-lt64-clause-law
returns-else-operands-lt64-clause-law g c = level_by _ _ _ _ _ c.level_with-else-operands-lt64.ensures
