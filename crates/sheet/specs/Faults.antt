-- The number, the layer and the place of each fault of a sheet. Assumes nothing.
use Rattle.std.specs.Prelude.{ℕ}
use Rattle.code.specs.Faults.{number, place}
use Rattle.sheet.specs.declared.fault.SheetFault.{SheetFault}
use Rattle.sheet.specs.declared.fault.SheetFault.TheVariants.{Ends, NotDue, NotWritten, OutOfRange, Full, Refused}
use Rattle.sheet.specs.declared.fault.Layer.{Layer}
use Rattle.sheet.specs.declared.fault.Layer.TheVariants as layer
use Rattle.sheet.specs.declared.fault.Spot.{Spot}
use Rattle.sheet.specs.declared.fault.Spot.TheVariants as spot

abbrev pub number_of : SheetFault → ℕ
number_of (Ends p) = 16
number_of (NotDue p) = 10
number_of (NotWritten p) = 11
number_of (OutOfRange p) = 12
number_of (Full p) = 17
number_of (Refused f) = number f

abbrev pub layer_of : SheetFault → Layer
layer_of (Ends p) = layer.Text
layer_of (NotDue p) = layer.Text
layer_of (NotWritten p) = layer.Text
layer_of (OutOfRange p) = layer.Record
layer_of (Full p) = layer.Record
layer_of (Refused f) = layer.Code

abbrev pub spot_of : SheetFault → Spot
spot_of (Ends p) = spot.Text p
spot_of (NotDue p) = spot.Text p
spot_of (NotWritten p) = spot.Text p
spot_of (OutOfRange p) = spot.Text p
spot_of (Full p) = spot.Text p
spot_of (Refused f) = spot.Table (place f)
