-- The worked examples, computed. Assumes nothing.
use Rattle.std.proofs.Common.{refl}
use Rattle.binary.specs.Polynomials.{shifts_below, carryless, reducible}
use Rattle.binary.specs.Fields.{product_by}
use Rattle.binary.specs.Answers.{Examples}

pub examples : Examples
unfolding shifts_below carryless reducible product_by
examples = record { made = refl; once = refl; square = refl; split = refl }
