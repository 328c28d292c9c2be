-- The number of each refusal of encoding and extracting. Assumes nothing.
use Rattle.std.specs.Prelude.{ℕ}
use Rattle.encoder.specs.declared.refusal.CoderRefusal.{CoderRefusal}
use Rattle.encoder.specs.declared.refusal.CoderRefusal.TheVariants.{Order, Scratch, Length, NotSymbol, RowFails, Dependent}

abbrev pub number : CoderRefusal → ℕ
number Order = 18
number Scratch = 20
number Length = 7
number NotSymbol = 26
number RowFails = 24
number Dependent = 25
