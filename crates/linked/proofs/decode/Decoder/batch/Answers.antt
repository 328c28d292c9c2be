use Rattle.std.proofs.Common.{arith}
use Rattle.std.proofs.lemmas.Nat.{mul-le}
use Rattle.linked.proofs.decode.Decoder.batch.Goals as goal

pub overflow_mul-size : goal.overflow_mul-size
overflow_mul-size g c = omega (arith, mul-le c.columns-n.result c.order.result 256 64 c.columns-n.ensures.few c.order.ensures.few)
