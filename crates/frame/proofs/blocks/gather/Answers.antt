use Rattle.std.proofs.Common.{◌≡◌, length, get_or, arith}
use Rattle.std.proofs.lemmas.List.FromFn.{fill_by_all}
use Rattle.tree.specs.Rows.{tabled, gathered}
use Rattle.frame.proofs.blocks.gather.Goals as goal

pub returns : goal.returns
unfolding tabled gathered
returns g c =
    let t = g.F.Field.meaning c.args.field.now in
    let long : length c.loop-c.out ≡ t.order = omega arith in
    fill_by_all (λ x. get_or c.args.v.now (t.product c.args.k x) 0) c.loop-c.out t.order 0 long (λ x h. c.loop-c.invariant x (omega arith))
