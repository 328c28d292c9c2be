-- The example, computed. Assumes nothing.
use Rattle.std.proofs.Common.{refl}
use Rattle.linear.specs.Columns.{combined}
use Rattle.linear.specs.Count.{count}
use Rattle.linear.specs.Encoded.{picked}
use Rattle.linear.specs.Rows.{dependent}
use Rattle.linear.specs.Search.{first_word}
use Rattle.linear.specs.Words.{total}
use Rattle.encoder.specs.CheckMatrix.{coefficient_in}
use Rattle.encoder.specs.Examples.{ExampleA}

pub example_a : ExampleA
unfolding dependent total coefficient_in first_word combined count picked
example_a = record { independent = refl; encodes = refl; extracts = refl }
