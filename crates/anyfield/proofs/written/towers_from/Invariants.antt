use Rattle.std.proofs.Common.{◌≡◌, ◌-◌, Ok}
use Rattle.notation.specs.Pieces.{pieces_of}
use Rattle.anyfield.specs.Fields.{made_of}
use Rattle.anyfield.specs.Written.{raises}
use Rattle.anyfield.proofs.written.towers_from.Given as goal

abbrev pub invariant-loop-level : goal.invariant-loop-level
invariant-loop-level l = raises (l.towers - l._level) (Ok (made_of l.field, pieces_of l.parts)) ≡ raises l.towers (Ok (made_of l.initial.field, pieces_of l.initial.parts))
