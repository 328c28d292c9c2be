use Rattle.std.proofs.Common.{◌≡◌, ◌*◌, length}
use Rattle.encoder.specs.Bytes.{ProductsTo}
use Rattle.encoder.proofs.products.multiply_all.Given as goal

abbrev pub invariant-loop-a : goal.invariant-loop-a
invariant-loop-a g l = (length l.products ≡ 4096) × ProductsTo (g.F.Field.meaning l.field) l.products (l.a-counter * (g.F.Field.meaning l.field).order)
