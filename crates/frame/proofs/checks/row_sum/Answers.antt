use Rattle.std.proofs.Common.{◌≡◌, ℕ, ◌+◌, eqb, get_or, sym, ap, ◌∙◌, ap₂, arith}
use Rattle.std.proofs.lemmas.Bool.{eq-eqb, eqb-true}
use Rattle.field.proofs.Cancel.{zero_code}
use Rattle.tree.proofs.Words.{over_none}
use Rattle.frame.specs.Columns.{row_at}
use Rattle.frame.specs.Words.{term_at, sum_to}
use Rattle.frame.proofs.AllRows.{part_edge}
use Rattle.frame.proofs.Scans.{over_yes}
use Rattle.frame.proofs.checks.row_sum.Goals as goal

pub loop-edge-init : goal.loop-edge-init
loop-edge-init g c =
    let t = g.F.Field.meaning c.args.field.now in let L = g.met.F.Field.lawful c.args.field.now in
    let E = c.args.edges.now in let w = c.args.word.now in let r = c.args.r in let first = c.args.first in
    let z : first ≡ first + 0 = omega arith in
    (sym (over_none t.sum 0 first (λ x. eqb (row_at E x) r) (term_at t E w) (λ x h e. omega (arith, c.requires.lower x h, eqb-true (row_at E x) r e))) ∙ ap (λ n. sum_to t E w r n) z, zero_code t L)

pub loop-edge-preserved : goal.loop-edge-preserved
loop-edge-preserved g c =
    let t = g.F.Field.meaning c.args.field.now in
    let E = c.args.edges.now in let w = c.args.word.now in let r = c.args.r in let first = c.args.first in let i = c.loop-edge.edge-index in
    let x : ℕ = first + i in
    let z : x + 1 ≡ first + (i + 1) = omega arith in
    let e = part_edge E first c.args.end i (omega arith) in (
      c.plus-sum.ensures.is ∙ ap₂ t.sum (c.times-term.ensures.is ∙ ap (λ y. t.product y.coefficient (get_or w y.column 0)) e) c.loop-edge.invariant.0
          ∙ sym (over_yes t.sum 0 x (λ x. eqb (row_at E x) r) (term_at t E w) (eq-eqb (row_at E x) r (c.requires.same x (omega arith) (omega arith))))
          ∙ ap (λ n. sum_to t E w r n) z,
      c.plus-sum.ensures.code,
    )
