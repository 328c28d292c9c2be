-- What an answer of admitting means: granted exactly by the rules, refused exactly with the first fault there is. Assumes nothing.
use Rattle.std.specs.Prelude.{◌≡◌, List, Ok, Err, Result}
use Rattle.code.specs.declared.table.Edge.{Edge}
use Rattle.code.specs.declared.table.Entry.{Entry}
use Rattle.code.specs.declared.table.Header.{Header}
use Rattle.code.specs.declared.fault.CodeFault.{CodeFault}
use Rattle.code.specs.Places.{FirstBad}
use Rattle.code.specs.Rules.{Rules}

abbrev pub Exactly : Type 0 → Type 0 → Type 0
Exactly P Q = (P → Q) × (Q → P)

abbrev pub GrantedByTheRules : Header → List Edge → List Entry → Result (Unit {0}) CodeFault → Type 0
GrantedByTheRules h es ks r = Exactly (r ≡ Ok tt) (Rules h es ks)

abbrev pub RefusedAtTheFirst : Header → List Edge → List Entry → Result (Unit {0}) CodeFault → Type 0
RefusedAtTheFirst h es ks r = (f : CodeFault) → Exactly (r ≡ Err f) (FirstBad h es ks f)
