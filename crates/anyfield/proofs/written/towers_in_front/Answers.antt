use Rattle.std.proofs.Common.{length, sym, ap, ◌∙◌, arith}
use Rattle.notation.specs.Pieces.{pieces_of}
use Rattle.anyfield.specs.Written.{field_of, raises}
use Rattle.anyfield.proofs.Raised.{raises_none, raises_more, field_none, field_tower, field_base}
use Rattle.anyfield.proofs.written.towers_in_front.Goals as goal

pub loop-name-init : goal.loop-name-init
loop-name-init c = ((tt, tt), omega arith, raises_none _)

pub returns-then-not-is_tower : goal.returns-then-not-is_tower
returns-then-not-is_tower c =
    ap (raises c.loop-name.towers) (field_base c.in-Some.name.now (pieces_of c.next.new.self) c.if-not-is_tower.ensures ∙ ap field_of (sym c.in-Some.ensures.steps))
    ∙ c.loop-name.invariant.2

pub overflow_add-towers : goal.overflow_add-towers
overflow_add-towers c = omega (arith, c.requires, c.loop-name.invariant.1, ap length c.in-Some.ensures.steps)

pub loop-name-preserved : goal.loop-name-preserved
loop-name-preserved c = (
  (tt, tt),
  omega (arith, c.loop-name.invariant.1, ap length c.in-Some.ensures.steps),
  raises_more c.loop-name.towers _
      ∙ ap (raises c.loop-name.towers) (field_tower c.in-Some.name.now (pieces_of c.next.new.self) c.if-not-is_tower.ensures ∙ ap field_of (sym c.in-Some.ensures.steps))
      ∙ c.loop-name.invariant.2,
)

pub returns : goal.returns
returns c =
    ap (raises c.loop-name.towers) (field_none ∙ ap field_of (sym c.in_default.ensures.steps.0))
    ∙ c.loop-name.invariant.2
