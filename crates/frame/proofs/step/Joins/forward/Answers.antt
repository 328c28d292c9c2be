use Rattle.std.proofs.Common.{◌≡◌, suc, ◌+◌, ◌≤◌, sym, refl, ap, subst, inr, arith}
use Rattle.joiner.specs.Costs.{Low}
use Rattle.frame.specs.Blocks.{block, blocks, from_on}
use Rattle.tree.specs.Rows.{forth, forth_pairs}
use Rattle.frame.proofs.Turns.{filled_one, filled_more, stepped_wrote, at_there, at_kept, next_forth, count_forth, low_forth, same_blocks, few_pairs}
use Rattle.frame.proofs.step.Joins.forward.Goals as goal

pub loop-i-init : goal.loop-i-init
unfolding forth forth_pairs
loop-i-init g c =
    let t = g.F.Field.meaning c.args.self.now.field.now in let s = c.args.self.now.scratch in
    let L = g.met.F.Field.lawful c.args.self.now.field.now in
    let z : s ≡ s + 0 = omega arith in
    (filled_one t.order s _ c.args.area.now (ap (λ y. block t.order y c.args.area.now) z), refl, omega arith)

pub step-pairs-requires : goal.step-pairs-requires
step-pairs-requires g c =
    let t = g.F.Field.meaning c.args.self.now.field.now in
    let L = g.met.F.Field.lawful c.args.self.now.field.now in
    let top = c.args.self.now.ceiling in let s = c.args.self.now.scratch in let last = c.args.last in let i = c.loop-i.i in
    let before = c.args.area.now in let area = c.loop-i.area in
    let P = from_on t.order s before in
    let n : s + 36 ≤ blocks t.order area = same_blocks t.order before area c.loop-i.auto.area (s + 36) c.requires.room in
    let l = at_there t.order s (forth t P) before (i + 1) (s + i) i area c.loop-i.invariant.0 refl (omega arith) in
    let r = at_kept t.order s (forth t P) before (i + 1) (s + i + 1) (s + suc i) area c.loop-i.invariant.0 (omega arith) (inr (omega arith)) in
    record {
      i = omega arith;
      j = omega arith;
      k = omega arith;
      left = subst (Low top) (sym l) (low_forth t L top P last c.requires.low i (omega arith));
      right = subst (Low top) (sym r) (c.requires.low (suc i) (omega arith));
    }

pub loop-i-preserved : goal.loop-i-preserved
loop-i-preserved g c =
    let t = g.F.Field.meaning c.args.self.now.field.now in
    let L = g.met.F.Field.lawful c.args.self.now.field.now in
    let J = g.J.Joiner.pairs c.args.self.now.joiner.now in
    let top = c.args.self.now.ceiling in let s = c.args.self.now.scratch in let last = c.args.last in let i = c.loop-i.i in
    let before = c.args.area.now in let area = c.loop-i.area in
    let P = from_on t.order s before in
    let n : s + 36 ≤ blocks t.order area = same_blocks t.order before area c.loop-i.auto.area (s + 36) c.requires.room in
    let l = at_there t.order s (forth t P) before (i + 1) (s + i) i area c.loop-i.invariant.0 refl (omega arith) in
    let r = at_kept t.order s (forth t P) before (i + 1) (s + i + 1) (s + suc i) area c.loop-i.invariant.0 (omega arith) (inr (omega arith)) in
    let W = stepped_wrote t (s + i) (s + i + 1) (s + i + 1) area c.step-pairs.new.area (omega arith) c.step-pairs.ensures.area in (
      filled_more t.order s (forth t P) before (i + 1) (s + i + 1) _ area _ c.loop-i.invariant.0 W (omega arith) (next_forth J t top P last i _ _ l r),
      count_forth J t top P last i _ _ _ _ l r c.loop-i.invariant.1 c.step-pairs.ensures.pairs,
      few_pairs t.order _ _ _ i (g.met.F.Field.lawful c.args.self.now.field.now).high c.step-pairs.ensures.pairs (g.met.J.Joiner.bounded c.args.self.now.joiner.now t.order top _ _) c.loop-i.invariant.2,
    )
