use Rattle.std.proofs.Common.{◌≡◌, ℕ, ◌+◌, ◌-◌, ◌<◌, ◌≤◌, length, sym, refl, ap, ◌∙◌, subst, ap₂, inr, add-one, arith}
use Rattle.frame.specs.Vectors.{minus}
use Rattle.tree.specs.Rows.{gathered, around_pairs}
use Rattle.joiner.specs.Costs.{Low}
use Rattle.frame.specs.Blocks.{block, blocks, from_on}
use Rattle.frame.specs.Row.{coefficient_at}
use Rattle.frame.proofs.Turns.{filled_none, filled_more, around_same, pair_same, few_around, few_pairs, same_blocks}
use Rattle.frame.proofs.step.Joins.around.Goals as goal

pub loop-i-init : goal.loop-i-init
unfolding around_pairs
loop-i-init g c = (filled_none _ _ _ _, refl, omega arith)

pub around_one-pairs-requires : goal.around_one-pairs-requires
around_one-pairs-requires g c =
    let t = g.F.Field.meaning c.args.self.now.field.now in
    let top = c.args.self.now.ceiling in let s = c.args.self.now.scratch in let i = c.loop-i.i in
    let before = c.args.area.now in let area = c.loop-i.area in
    let n : s + 36 ≤ blocks t.order area = same_blocks t.order before area c.loop-i.auto.area (s + 36) c.requires.room.0 in
    let kept = c.loop-i.invariant.0.kept in
    record {
      room = (n, omega arith);
      last = (omega arith, (omega arith, omega arith));
      h = c.requires.edges.1.1 i (omega arith);
      low = λ x l. let w = c.requires.low x (omega arith) in
          (subst (Low top) (sym (kept (s + x) (inr (omega arith)))) w.0, subst (Low top) (sym (kept (s + 16 + x) (inr (omega arith)))) w.1);
    }

pub overflow_add-pairs : goal.overflow_add-pairs
overflow_add-pairs g c =
    let t = g.F.Field.meaning c.args.self.now.field.now in let J = g.J.Joiner.pairs c.args.self.now.joiner.now in
    let q : t.order ≤ 64 = (g.met.F.Field.lawful c.args.self.now.field.now).high in
    let f = few_around J t c.args.self.now.ceiling _ _ _ _ (λ l r. g.met.J.Joiner.bounded c.args.self.now.joiner.now t.order c.args.self.now.ceiling l r) in
    let b = few_pairs t.order c.loop-i.pairs c.around_one-pairs.result _ c.loop-i.i q c.around_one-pairs.ensures.pairs f c.loop-i.invariant.2 in
    omega arith

pub loop-i-preserved : goal.loop-i-preserved
unfolding around_pairs
loop-i-preserved g c =
    let t = g.F.Field.meaning c.args.self.now.field.now in let J = g.J.Joiner.pairs c.args.self.now.joiner.now in
    let top = c.args.self.now.ceiling in let s = c.args.self.now.scratch in let from = c.args.from in let i = c.loop-i.i in
    let h = coefficient_at c.args.edges.now in let last = length c.args.edges.now - 1 in
    let before = c.args.area.now in let area = c.loop-i.area in
    let q : t.order ≤ 64 = (g.met.F.Field.lawful c.args.self.now.field.now).high in
    let kept = c.loop-i.invariant.0.kept in
    let F = from_on t.order s before in let B = from_on t.order (s + 16) before in
    let f : (x : ℕ) → x < last → block t.order (s + x) area ≡ F x = λ x l. kept (s + x) (inr (omega arith)) in
    let b : (x : ℕ) → x < last → block t.order (s + 16 + x) area ≡ B x = λ x l. kept (s + 16 + x) (inr (omega arith)) in
    let e = around_same J t top last (from_on t.order s area) F (from_on t.order (s + 16) area) B i (omega arith) (omega arith) f b in
    let p = pair_same J t top last (from_on t.order s area) F (from_on t.order (s + 16) area) B i (omega arith) (omega arith) f b in
    let few = few_around J t top _ _ _ _ (λ l r. g.met.J.Joiner.bounded c.args.self.now.joiner.now t.order top l r) in (
      filled_more t.order from _ before i (from + i) _ area _ c.loop-i.invariant.0 c.around_one-pairs.ensures.area refl (ap (gathered t (minus t (h i))) e),
      ap₂ ◌+◌ c.loop-i.invariant.1 (c.around_one-pairs.ensures.pairs ∙ p) ∙ ap (around_pairs J t top F B last) (sym (add-one i)),
      few_pairs t.order c.loop-i.pairs c.around_one-pairs.result _ i q c.around_one-pairs.ensures.pairs few c.loop-i.invariant.2,
    )
