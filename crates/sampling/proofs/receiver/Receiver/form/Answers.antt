use Rattle.std.proofs.Common.{◌≡◌, ◌+◌, ◌^◌, ◌≤◌, true, false, length, get_or, ◌∙◌, arith, length-set, pow_pos, pow_mono, pow-add}
use Rattle.std.proofs.lemmas.Nat.{one_shl}
use Rattle.sampling.specs.declared.samples.Sample.TheVariants.{Lost}
use Rattle.sampling.proofs.Sums.{spread_costs, share_le, cost_le, none_costs, all_costs}
use Rattle.sampling.proofs.Numbers.{none_at}
use Rattle.sampling.proofs.receiver.Receiver.form.Goals as goal

pub loop-i-init : goal.loop-i-init
loop-i-init c =
    none_costs c.args.self.settings c.args.self.ceiling c.args.samples.now c.args.costs.now (omega (arith, pow_pos (length c.args.samples.now)))

pub shares_of-requires : goal.shares_of-requires
shares_of-requires c =
    none_at c.args.samples.now c.loop-i.i Lost c.loop-i-test.true c.requires.1.1

pub spread-requires : goal.spread-requires
spread-requires c =
    let xs = c.args.samples.now in
    let i = c.loop-i.i in
    let share = share_le c.args.self.settings c.args.self.ceiling false (get_or xs i Lost) in
    let other = share_le c.args.self.settings c.args.self.ceiling true (get_or xs i Lost) in
    let small : c.args.self.ceiling ≤ 1023 = c.args.self.high in
    let room : 2 ^ (i + 1) ≤ 2 ^ length xs = pow_mono (omega arith) in
    let long : length c.loop-i.costs ≡ 2 ^ length xs = c.loop-i.auto.costs ∙ length-set c.args.costs.now 0 0 ∙ c.requires.1.0 in
    let half = one_shl i 64 (omega arith) in (
      omega (arith, pow-add 2 i 1),
      (
        omega (arith, c.shares_of.ensures.0),
        (
          omega (arith, c.shares_of.ensures.1),
          λ a h. omega (arith, c.loop-i.invariant a (omega arith), cost_le c.args.self.settings c.args.self.ceiling xs i a c.loop-i-test.true c.requires.0 small),
        ),
      ),
    )

pub loop-i-preserved : goal.loop-i-preserved
loop-i-preserved c =
    let xs = c.args.samples.now in
    let i = c.loop-i.i in
    spread_costs c.args.self.settings c.args.self.ceiling xs i Lost c.loop-i.costs c.spread.new.costs _ c.shares_of.result.low c.shares_of.result.high
    c.loop-i-test.true (one_shl i 64 (omega arith)) c.shares_of.ensures c.loop-i.invariant c.spread.ensures.low c.spread.ensures.high

pub returns : goal.returns
returns c =
    let long : length c.loop-i.costs ≡ 2 ^ length c.args.samples.now = c.loop-i.auto.costs ∙ length-set c.args.costs.now 0 0 ∙ c.requires.1.0 in
    all_costs c.args.self.settings c.args.self.ceiling c.args.samples.now c.loop-i.i c.loop-i.costs
    c.loop-i-test.false c.loop-i.auto.i-end long c.loop-i.invariant
