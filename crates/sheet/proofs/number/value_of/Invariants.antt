use Rattle.std.proofs.Common.{◌≡◌, ◌^◌, ◌<◌, true, drop}
use Rattle.sheet.specs.Words.{digits, value}
use Rattle.sheet.proofs.number.value_of.Given as goal

abbrev pub invariant-loop-b : goal.invariant-loop-b
invariant-loop-b l = (l.v < 10 ^ l.b-index) × (digits (drop l.b-index l.bytes) ≡ true) × (value 0 l.bytes ≡ value l.v (drop l.b-index l.bytes))
