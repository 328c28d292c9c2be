use Rattle.std.proofs.Common.{◌≡◌, ◌+◌, length, get_or, set, take, sym, refl, ap, ◌∙◌, subst, arith}
use Rattle.joiner.specs.Level.{count, is_chosen, chosen}
use Rattle.joiner.specs.Loops.{listed, Picked, entries_of}
use Rattle.joiner.specs.Counts.{Choosing, choose_yes, choose_no}
use Rattle.joiner.proofs.Rows.{picked_more, picked_same, picked_are}
use Rattle.joiner.proofs.chosen.Chosen.choose.Goals as goal

pub loop-a-init : goal.loop-a-init
unfolding listed chosen count
loop-a-init c = record { chosen = (refl, refl, omega arith); picked = λ k h. absurd (let w : ⊥ = omega arith in w) }

pub loop-a-preserved : goal.loop-a-preserved
loop-a-preserved c =
    let costs = c.args.costs.now in let level = c.args.level in let a = c.loop-a.a in let n = c.loop-a.count in
    let codes = c.loop-a.self.codes in let picked = c.loop-a.self.costs in
    let inv = c.loop-a.invariant in let long = c.loop-a.self.long in
    elim c.if-not_above.branch [
      | goal.then-not_above w ↦ record {
        chosen = subst (λ m. Choosing costs level codes a n (set codes n a) m (a + 1)) (sym w.count-is)
            (choose_yes costs level codes a n (omega (arith, inv.chosen.2, long.0, c.requires)) inv.chosen (sym c.not_above.ensures ∙ w.if-not_above.true));
        picked = subst (λ m. Picked costs (take m (set codes n a)) (set picked n (get_or costs a 0))) (sym w.count-is)
            (picked_more costs codes picked n a (omega (arith, inv.chosen.2, long.0, c.requires)) (omega (arith, inv.chosen.2, long.1, c.requires)) inv.picked);
      }
      | goal.else-not_above w ↦ record {
        chosen = subst (λ m. Choosing costs level codes a n (set codes n a) m (a + 1)) (sym w.count-is)
            (choose_no costs level codes a n inv.chosen (sym c.not_above.ensures ∙ w.if-not_above.false));
        picked = subst (λ m. Picked costs (take m (set codes n a)) (set picked n (get_or costs a 0))) (sym w.count-is) (picked_same costs codes picked n a (get_or costs a 0) inv.picked);
      }
    ]

pub returns : goal.returns
returns c =
    let s = c.loop-a.self in let costs = c.args.costs.now in let level = c.args.level in
    let end : c.loop-a.a ≡ length costs = omega arith in
    picked_are costs s.codes s.costs c.loop-a.count (omega (arith, c.loop-a.invariant.chosen.2, s.long.0, c.requires)) c.loop-a.invariant.picked
    ∙ ap (entries_of costs) (c.loop-a.invariant.chosen.0 ∙ ap (listed (is_chosen costs level)) end)
