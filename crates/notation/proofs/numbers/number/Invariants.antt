use Rattle.std.proofs.Common.{◌≡◌, ◌≤◌, drop}
use Rattle.sheet.specs.Words.{digits, value}
use Rattle.notation.proofs.numbers.number.Given as goal

abbrev pub invariant-loop-b : goal.invariant-loop-b
invariant-loop-b l = (l.n ≤ l.largest) × (digits l.text ≡ digits (drop l.b-index l.text)) × (value 0 l.text ≡ value l.n (drop l.b-index l.text))
