use Rattle.std.proofs.Common.{◌-◌, min, length, get_or, ap, ◌∙◌, arith}
use Rattle.tree.proofs.Rows.{tabled_is}
use Rattle.frame.specs.Words.{store_at}
use Rattle.frame.proofs.Scans.{least_of}
use Rattle.frame.proofs.words.reduce.Goals as goal

pub returns : goal.returns
returns c =
    let old = c.args.values.now in let top = c.args.ceiling in
    tabled_is (length old) (store_at old top) c.loop-value.values c.loop-value.auto.values (λ x h. c.loop-value.invariant.0 x (omega arith) ∙ ap (λ n. min (get_or old x 0 - n) top) (c.least-m.ensures ∙ least_of old (omega arith)))
