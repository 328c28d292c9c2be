use Rattle.std.proofs.Common.{◌≡◌, ◌+◌, ◌-◌, ◌≤◌, Bool, true, false, cond, not, eqb, length, sym, refl, ap, ◌∙◌, ap₂, arith}
use Rattle.std.proofs.lemmas.Bool.{ne_eqb}
use Rattle.std.specs.Int.{from_bool}
use Rattle.tree.specs.Over.{over}
use Rattle.frame.specs.Columns.{row_at}
use Rattle.frame.specs.AllRows.{Cut}
use Rattle.frame.specs.Words.{term_at, sum_to}
use Rattle.frame.proofs.AllRows.{cut_none, cut_more}
use Rattle.frame.proofs.Scans.{over_rest, count_next, one_low}
use Rattle.frame.proofs.checks.failing.Goals as goal

byte : (b : Bool) → from_bool b ≡ cond b 1 0
byte true = refl
byte false = refl

pub loop-r-init : goal.loop-r-init
unfolding over
loop-r-init g c = (refl, omega arith, cut_none _)

pub loop-r-preserved : goal.loop-r-preserved
loop-r-preserved g c =
    let t = g.F.Field.meaning c.args.field.now in
    let E = c.args.edges.now in let w = c.args.word.now in let r = c.loop-r.r in let first = c.loop-r.first in let end = c.row_end-end.result in
    let D : Cut E (r + 1) end = cut_more E r first end c.requires.summable.rising c.loop-r.invariant.2 c.row_end-end.ensures.within.0 c.row_end-end.ensures.within.1 c.row_end-end.ensures.same c.row_end-end.ensures.next in
    let hi : end ≤ length E = c.row_end-end.ensures.within.1 in
    let z : end + (length E - end) ≡ length E = omega arith in
    let rest : sum_to t E w r (length E) ≡ sum_to t E w r end =
    ap (λ n. sum_to t E w r n) (sym z) ∙ over_rest t.sum 0 end (length E - end) (λ x. eqb (row_at E x) r) (term_at t E w) (λ x k l. ne_eqb (row_at E x) r (λ e. let u = D.upper x k (omega arith) in let y : ⊥ = omega arith in y)) in
    let n : c.from-failing.result ≡ cond (not (eqb (sum_to t E w r (length E)) 0)) 1 0 = c.from-failing.ensures ∙ ap (λ s. from_bool (not (eqb s 0))) (c.row_sum-sum.ensures.sum ∙ sym rest) ∙ byte (not (eqb (sum_to t E w r (length E)) 0)) in
    (ap₂ ◌+◌ c.loop-r.invariant.0 n ∙ count_next r (λ r. not (eqb (sum_to t E w r (length E)) 0)), omega (arith, c.loop-r.invariant.1, one_low (not (eqb (sum_to t E w r (length E)) 0))), D)
