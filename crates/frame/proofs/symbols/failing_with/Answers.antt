use Rattle.std.proofs.Common.{◌≤◌, sym, ap, ◌∙◌, subst, ap₂, arith}
use Rattle.code.proofs.Lawfully.{rules_of}
use Rattle.code.specs.Views.{view}
use Rattle.tree.specs.Rows.{tabled}
use Rattle.frame.specs.Words.{symbol_at, failing_to, Summable}
use Rattle.frame.proofs.Decisions.{summable, failing_is, word_is}
use Rattle.frame.proofs.symbols.failing_with.Goals as goal

pub invariant_of-sizes : goal.invariant_of-sizes
invariant_of-sizes g c =
    let R = rules_of _ _ _ c.args.code.now.admitted in
    let e = sym c.header-header.ensures.answer in
    record { fits = (subst (λ h. 1 ≤ h.order) e (omega (arith, R.header.order.0)), (subst (λ h. h.order ≤ 64) e R.header.order.1, subst (λ h. h.columns ≤ 256) e R.header.columns.1)) }

pub failing-requires : goal.failing-requires
failing-requires g c =
    let F = g.F.Field.meaning c.args.field.now in
    let R = rules_of _ _ _ c.args.code.now.admitted in
    let K = view c.args.code.now in
    let is = c.decide.ensures ∙ ap (λ h. tabled h.columns (symbol_at h.order h.columns c.args.area.now)) c.header-header.ensures.answer in
    record { summable = subst (λ E. Summable F E c.decide.new.word) (sym c.edges.ensures.answer) (summable F K R c.requires.order c.args.area.now c.decide.new.word is) }

pub returns : goal.returns
returns g c =
    let F = g.F.Field.meaning c.args.field.now in
    let R = rules_of _ _ _ c.args.code.now.admitted in
    let K = view c.args.code.now in
    let is = c.decide.ensures ∙ ap (λ h. tabled h.columns (symbol_at h.order h.columns c.args.area.now)) c.header-header.ensures.answer in
    record {
      answer = c.failing.ensures ∙ ap₂ (λ h E. failing_to F E c.decide.new.word h.rows) c.header-header.ensures.answer c.edges.ensures.answer ∙ failing_is F K R c.requires.order c.args.area.now c.decide.new.word is;
      word = word_is F K R c.requires.order c.args.area.now c.decide.new.word is;
    }
