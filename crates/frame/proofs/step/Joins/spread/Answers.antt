use Rattle.std.proofs.Common.{◌+◌, ◌≤◌, refl, ap₂, inl, arith}
use Rattle.tree.specs.Rows.{gathered}
use Rattle.frame.specs.Blocks.{blocks}
use Rattle.frame.specs.Row.{coefficient_at, row_vectors}
use Rattle.frame.proofs.Turns.{filled_more, turned_wrote, at_kept, same_blocks}
use Rattle.frame.proofs.step.Joins.spread.Goals as goal

pub loop-i-preserved : goal.loop-i-preserved
loop-i-preserved g c =
    let t = g.F.Field.meaning c.args.self.now.field.now in
    let h = coefficient_at c.args.edges.now in
    let s = c.args.self.now.scratch in let to = c.args.to in let i = c.loop-i.i in
    let before = c.args.area.now in let area = c.loop-i.area in
    let n : s + 36 ≤ blocks t.order area = same_blocks t.order before area c.loop-i.auto.area (s + 36) c.requires.room.0 in
    let v = at_kept t.order s (row_vectors t h to before) before i (to + i) (to + i) area c.loop-i.invariant refl (inl (omega arith)) in
    let W = turned_wrote t c.inverted-k.result (to + i) (s + i) area c.turn.new.area (omega arith) c.turn.ensures in
    filled_more t.order s (row_vectors t h to before) before i (s + i) _ area _ c.loop-i.invariant W refl (ap₂ (gathered t) c.inverted-k.ensures.is v)
