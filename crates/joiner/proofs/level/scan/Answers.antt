use Rattle.std.proofs.Common.{◌≡◌, suc, ◌+◌, ◌-◌, ◌<◌, ◌≤◌, length, sym, refl, ap, ◌∙◌, add-one, arith}
use Rattle.std.proofs.lemmas.Bool.{le-leb, lt-leb}
use Rattle.joiner.specs.Level.{first_from}
use Rattle.joiner.specs.Loops.{up_to, passes}
use Rattle.joiner.specs.Counts.{up_to_more, first_yes, first_no, first_all}
use Rattle.joiner.proofs.level.scan.Goals as goal

pub loop-level-init : goal.loop-level-init
unfolding up_to
loop-level-init c = let z : length c.args.counts.now ≡ length c.args.counts.now - 0 = omega arith in (refl, omega arith, ap (first_from _ 0) z)

pub returns-then-sum-n : goal.returns-then-sum-n
returns-then-sum-n c =
    let h = c.args.counts.now in let k = c.loop-level.level in let n = c.args.n in
    let m = up_to_more h k in
    let e : up_to h (suc k) ≡ up_to h (k + 1) = ap (up_to h) (sym (add-one k)) in
    let more : n ≤ up_to h (suc k) = omega (arith, c.loop-level.invariant.0) in
    sym (c.loop-level.invariant.2 ∙ first_yes (passes h n) k (length h - k) (omega arith) (le-leb n (up_to h (suc k)) more))

pub loop-level-preserved : goal.loop-level-preserved
loop-level-preserved c =
    let h = c.args.counts.now in let k = c.loop-level.level in let n = c.args.n in
    let m = up_to_more h k in
    let e : up_to h (suc k) ≡ up_to h (k + 1) = ap (up_to h) (sym (add-one k)) in
    let not : up_to h (suc k) < n = omega (arith, c.loop-level.invariant.0) in
    let z : length h - k - 1 ≡ length h - (k + 1) = omega arith in (
      omega (arith, c.loop-level.invariant.0),
      omega arith,
      c.loop-level.invariant.2 ∙ first_no (passes h n) k (length h - k) (omega arith) (lt-leb n (up_to h (suc k)) not) ∙ ap (first_from (passes h n) (k + 1)) z,
    )

pub returns : goal.returns
returns c =
    let h = c.args.counts.now in let k = c.loop-level.level in let n = c.args.n in
    sym (c.loop-level.invariant.2 ∙ first_all (passes h n) k (length h - k) (omega arith) ∙ (let z : k ≡ length h = omega arith in z))
