use Rattle.std.proofs.Common.{◌≡◌, ◌+◌, ◌≤◌, length}
use Rattle.notation.specs.Pieces.{pieces_of}
use Rattle.anyfield.specs.Written.{field_of, raises}
use Rattle.anyfield.proofs.written.towers_in_front.Given as goal

abbrev pub invariant-loop-name : goal.invariant-loop-name
invariant-loop-name l =
    ((goal.iterator-loop-name).can_next l.parts × (goal.iterator-loop-name).is_finite l.parts)
    × (l.towers + length (pieces_of l.parts) ≤ length (pieces_of l.initial.parts))
    × (raises l.towers (field_of (pieces_of l.parts)) ≡ field_of (pieces_of l.initial.parts))
