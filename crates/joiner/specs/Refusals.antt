-- The number of each refusal of a join. Assumes nothing.
use Rattle.std.specs.Prelude.{ℕ}
use Rattle.joiner.specs.declared.refusal.JoinRefusal.{JoinRefusal}
use Rattle.joiner.specs.declared.refusal.JoinRefusal.TheVariants.{Ceiling, Length, Cost}

abbrev pub number_of : JoinRefusal → ℕ
number_of Ceiling = 9
number_of Length = 7
number_of Cost = 8
