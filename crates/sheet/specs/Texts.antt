-- What is printed of a fault: its number, its layer and its place, with tabs between. Assumes nothing.
use Rattle.std.specs.Prelude.{ℕ, List, [], ◌∷◌, codes, decimal}
use Rattle.code.specs.Texts.{tabbed}
use Rattle.sheet.specs.declared.fault.SheetFault.{SheetFault}
use Rattle.sheet.specs.declared.fault.Layer.{Layer}
use Rattle.sheet.specs.declared.fault.Layer.TheVariants as layer
use Rattle.sheet.specs.declared.fault.Spot.{Spot}
use Rattle.sheet.specs.declared.fault.Spot.TheVariants as spot
use Rattle.sheet.specs.Faults.{number_of, layer_of, spot_of}

abbrev pub layer_text : Layer → List ℕ
layer_text layer.Text = codes "text"
layer_text layer.Record = codes "record"
layer_text layer.Code = codes "code"

-- a line and a byte, or a position
abbrev pub spot_text : Spot → List ℕ
spot_text (spot.Text p) = tabbed (decimal p.line ∷ decimal p.byte ∷ [])
spot_text (spot.Table n) = decimal n

abbrev pub fault_text : SheetFault → List ℕ
fault_text f = tabbed (decimal (number_of f) ∷ layer_text (layer_of f) ∷ spot_text (spot_of f) ∷ [])
