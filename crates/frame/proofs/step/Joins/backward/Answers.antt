use Rattle.std.proofs.Common.{suc, ◌+◌, ◌-◌, ◌≤◌, sym, refl, subst, inl, arith}
use Rattle.joiner.specs.Costs.{Low}
use Rattle.frame.specs.Blocks.{blocks, from_on}
use Rattle.tree.specs.Rows.{back, back_pairs}
use Rattle.frame.proofs.Turns.{filled_one, filled_more, stepped_wrote, at_there, at_kept, next_back, count_back, low_back, same_blocks, few_pairs}
use Rattle.frame.proofs.step.Joins.backward.Goals as goal

pub loop-m-init : goal.loop-m-init
unfolding back back_pairs
loop-m-init g c = (filled_one _ _ _ _ c.requires.begun, refl, omega arith)

pub step-pairs-requires : goal.step-pairs-requires
step-pairs-requires g c =
    let t = g.F.Field.meaning c.args.self.now.field.now in
    let L = g.met.F.Field.lawful c.args.self.now.field.now in
    let top = c.args.self.now.ceiling in let s = c.args.self.now.scratch in let last = c.args.last in let m = c.loop-m.m in
    let before = c.args.area.now in let area = c.loop-m.area in
    let P = from_on t.order s before in
    let n : s + 36 ≤ blocks t.order area = same_blocks t.order before area c.loop-m.auto.area (s + 36) c.requires.room in
    let l = at_kept t.order (s + 16) (back t P last) before (m + 1) (s + last - 1 - m) (s + (last - suc m)) area c.loop-m.invariant.0 (omega arith) (inl (omega arith)) in
    let r = at_there t.order (s + 16) (back t P last) before (m + 1) (s + 16 + m) m area c.loop-m.invariant.0 refl (omega arith) in
    record {
      i = omega arith;
      j = omega arith;
      k = omega arith;
      left = subst (Low top) (sym l) (c.requires.low (last - suc m) (omega arith));
      right = subst (Low top) (sym r) (low_back t L top P last c.requires.low m);
    }

pub loop-m-preserved : goal.loop-m-preserved
loop-m-preserved g c =
    let t = g.F.Field.meaning c.args.self.now.field.now in
    let L = g.met.F.Field.lawful c.args.self.now.field.now in
    let J = g.J.Joiner.pairs c.args.self.now.joiner.now in
    let top = c.args.self.now.ceiling in let s = c.args.self.now.scratch in let last = c.args.last in let m = c.loop-m.m in
    let before = c.args.area.now in let area = c.loop-m.area in
    let P = from_on t.order s before in
    let n : s + 36 ≤ blocks t.order area = same_blocks t.order before area c.loop-m.auto.area (s + 36) c.requires.room in
    let l = at_kept t.order (s + 16) (back t P last) before (m + 1) (s + last - 1 - m) (s + (last - suc m)) area c.loop-m.invariant.0 (omega arith) (inl (omega arith)) in
    let r = at_there t.order (s + 16) (back t P last) before (m + 1) (s + 16 + m) m area c.loop-m.invariant.0 refl (omega arith) in
    let W = stepped_wrote t (s + last - 1 - m) (s + 16 + m) (s + 17 + m) area c.step-pairs.new.area (omega arith) c.step-pairs.ensures.area in (
      filled_more t.order (s + 16) (back t P last) before (m + 1) (s + 17 + m) _ area _ c.loop-m.invariant.0 W (omega arith) (next_back J t top P last m _ _ l r),
      count_back J t top P last m _ _ _ _ l r c.loop-m.invariant.1 c.step-pairs.ensures.pairs,
      few_pairs t.order _ _ _ m (g.met.F.Field.lawful c.args.self.now.field.now).high c.step-pairs.ensures.pairs (g.met.J.Joiner.bounded c.args.self.now.joiner.now t.order top _ _) c.loop-m.invariant.2,
    )
