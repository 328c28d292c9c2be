use Rattle.std.proofs.Common.{◌-◌}
use Rattle.code.specs.Views.{view}
use Rattle.due.specs.Numbers.{numbers_in}
use Rattle.decoding.specs.Ends.{frame_of}
use Rattle.decoding.proofs.Reaching.{Reached}
use Rattle.decoding.proofs.settling.settle.Given as goal

abbrev pub invariant-loop-told : goal.invariant-loop-told
invariant-loop-told g l =
    Reached (g.F.Field.meaning l.field) (view l.code) (g.J.Joiner.pairs l.joiner) (frame_of l.initial.area l.initial.slip)
    l.area (numbers_in l.slip.numbers) l.slip.made l.failing

abbrev pub decreases-loop-told : goal.decreases-loop-told
decreases-loop-told g l = l.code.header.limit - l.slip.made
