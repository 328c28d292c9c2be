use Rattle.std.proofs.Common.{◌-◌, min, get_or, ap, ◌∙◌, arith}
use Rattle.frame.specs.Words.{store_at}
use Rattle.frame.proofs.Scans.{least_of, written_none, written_more}
use Rattle.frame.proofs.words.store.Goals as goal

pub loop-a-init : goal.loop-a-init
loop-a-init c = written_none _ _ _

pub loop-a-preserved : goal.loop-a-preserved
loop-a-preserved c =
    let v = c.args.values.now in let a = c.loop-a.a in
    written_more c.args.at a _ (store_at v c.args.ceiling) c.args.area.now c.loop-a.area c.loop-a.invariant (omega arith)
    (c.reduced.ensures ∙ ap (λ n. min (get_or v a 0 - n) c.args.ceiling) (c.least-m.ensures ∙ least_of v (omega arith)))
