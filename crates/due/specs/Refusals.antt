-- The number of each refusal of a call on a frame. Assumes nothing.
use Rattle.std.specs.Prelude.{ℕ}
use Rattle.due.specs.declared.refusal.FrameRefusal.{FrameRefusal}
use Rattle.due.specs.declared.refusal.FrameRefusal.TheVariants.{Order, Numbers, Area, Column, Cost, Limit, RowFails, Length}

abbrev pub number_of : FrameRefusal → ℕ
number_of Order = 18
number_of Numbers = 19
number_of Area = 20
number_of Column = 21
number_of Cost = 22
number_of Limit = 23
number_of RowFails = 24
number_of Length = 7
