use Rattle.std.proofs.Common.{◌+◌, ◌/◌, ◌≤◌, sym, arith}
use Rattle.sampling.specs.Exact.{size}
use Rattle.sampling.proofs.Rule.{level_le, level_from, level_under}
use Rattle.sampling.proofs.level.level.Goals as goal

pub loop-reached-init : goal.loop-reached-init
loop-reached-init c =
    let top = level_le (size c.args.step) (size c.args.m) c.args.ceiling in
    (omega arith, omega arith, omega arith)

pub loop-reached-preserved-then-reaches : goal.loop-reached-preserved-then-reaches
loop-reached-preserved-then-reaches c =
    let middle = (c.loop-reached.reached + c.loop-reached.missed) / 2 in
    let room : middle ≤ c.args.ceiling = omega arith in
    (c.loop-reached.invariant.0, level_from (size c.args.step) (size c.args.m) c.args.ceiling middle room (sym c.if-reaches.ensures), c.loop-reached.invariant.2)

pub loop-reached-preserved : goal.loop-reached-preserved
loop-reached-preserved c =
    let middle = (c.loop-reached.reached + c.loop-reached.missed) / 2 in
    (omega arith, c.loop-reached.invariant.1, level_under (size c.args.step) (size c.args.m) c.args.ceiling middle (sym c.if-reaches.ensures))
