use Rattle.std.proofs.Common.{ℕ, Option, unwrap_or, ap, ◌∙◌, arith}
use Rattle.std.proofs.lemmas.List.Edits.{fill_by_more}
use Rattle.std.proofs.lemmas.List.FromFn.{fill_by_all}
use Rattle.field.proofs.tables.fill.Goals as goal

pub loop-k-init : goal.loop-k-init
loop-k-init g c h says j w = absurd (omega arith)

pub loop-k-preserved : goal.loop-k-preserved
loop-k-preserved g c h says =
    let e = c.unwrap_or.ensures ∙ ap (λ (o : Option ℕ). unwrap_or o 0) (says c.loop-k.k c.f.result c.loop-k-test.true c.f.ensures) in
    rw e (fill_by_more (λ (k : ℕ). unwrap_or (h k) 0) c.loop-k.bytes c.loop-k.k 0 (omega (arith, c.loop-k.auto.bytes)) (c.loop-k.invariant h says))

pub returns : goal.returns
returns g c h says = fill_by_all (λ (k : ℕ). unwrap_or (h k) 0) c.loop-k.bytes _ 0 c.loop-k.auto.bytes (λ j w. c.loop-k.invariant h says j (omega arith))
