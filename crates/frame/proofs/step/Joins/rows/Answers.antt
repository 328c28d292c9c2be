use Rattle.std.proofs.Common.{◌≡◌, ℕ, suc, ◌+◌, ◌-◌, ◌≤◌, length, take, drop, sym, refl, ap, ◌∙◌, subst, ap₂, inl, add-one, arith}
use Rattle.joiner.specs.Costs.{Low}
use Rattle.frame.specs.Blocks.{block}
use Rattle.frame.specs.Row.{coefficient_at, row_vectors, RowDone}
use Rattle.tree.specs.Rows.{row_pairs}
use Rattle.frame.specs.AllRows.{starts, last_of, coefficients_of, rows_pairs, Cut}
use Rattle.frame.proofs.Turns.{same_blocks}
use Rattle.frame.proofs.AllRows.{cut_starts, cut_none, cut_more, part_coefficient, part_length, rows_none, rows_more, next_pairs}
use Rattle.frame.proofs.step.Joins.rows.Goals as goal

pub loop-r-init : goal.loop-r-init
unfolding rows_pairs
loop-r-init g c = (rows_none _ _ _ _ _ _, cut_none _, refl, omega arith)

pub row-pairs-requires : goal.row-pairs-requires
row-pairs-requires g c =
    let t = g.F.Field.meaning c.args.self.now.field.now in
    let top = c.args.self.now.ceiling in let s = c.args.self.now.scratch in let to = c.args.to in let from = c.args.from in
    let E = c.args.edges.now in let r = c.loop-r.r in let first = c.loop-r.first in let end = c.row_end-end.result in
    let before = c.args.area.now in let area = c.loop-r.area in
    let D : Cut E (r + 1) end = cut_more E r first end c.requires.rising c.loop-r.invariant.1 c.row_end-end.ensures.within.0 c.row_end-end.ensures.within.1 c.row_end-end.ensures.same c.row_end-end.ensures.next in
    let ef : first ≡ starts E r = cut_starts E r first c.loop-r.invariant.1 in
    let ee : end ≡ starts E (suc r) = cut_starts E (r + 1) end D ∙ ap (starts E) (add-one r) in
    let w = c.requires.wide r (omega arith) in
    let hi : end ≤ length E = c.row_end-end.ensures.within.1 in
    let len : length (take (end - first) (drop first E)) ≡ end - first = part_length E first end hi in
    record {
      room = (same_blocks t.order before area c.loop-r.auto.area (s + 36) c.requires.room.0, (omega arith, omega arith));
      edges = (omega (arith, w.0), omega (arith, w.1));
      coefficients = λ i l.
          let k : coefficient_at (take (end - first) (drop first E)) i ≡ coefficient_at E (first + i) = part_coefficient E first end i (omega arith) in
          let p = c.requires.coefficients (first + i) (omega arith) in (omega (arith, p.0), omega (arith, p.1));
      low = λ i l.
          let z : to + first + i ≡ to + (first + i) = omega arith in
          subst (Low top) (sym (c.loop-r.invariant.0.kept (to + first + i) (inl (omega arith)) (inl (omega arith)) ∙ ap (λ n. block t.order n before) z)) (c.requires.low (first + i) (omega arith));
    }

pub loop-r-preserved : goal.loop-r-preserved
loop-r-preserved g c =
    let t = g.F.Field.meaning c.args.self.now.field.now in
    let top = c.args.self.now.ceiling in let s = c.args.self.now.scratch in let to = c.args.to in let from = c.args.from in
    let E = c.args.edges.now in let r = c.loop-r.r in let first = c.loop-r.first in let end = c.row_end-end.result in
    let before = c.args.area.now in let area = c.loop-r.area in
    let D : Cut E (r + 1) end = cut_more E r first end c.requires.rising c.loop-r.invariant.1 c.row_end-end.ensures.within.0 c.row_end-end.ensures.within.1 c.row_end-end.ensures.same c.row_end-end.ensures.next in
    let ef : first ≡ starts E r = cut_starts E r first c.loop-r.invariant.1 in
    let ee : end ≡ starts E (suc r) = cut_starts E (r + 1) end D ∙ ap (starts E) (add-one r) in
    let w = c.requires.wide r (omega arith) in
    let hi : end ≤ length E = c.row_end-end.ensures.within.1 in
    let len : length (take (end - first) (drop first E)) ≡ end - first = part_length E first end hi in
    let J = g.J.Joiner.pairs c.args.self.now.joiner.now in
    let hs = coefficient_at (take (end - first) (drop first E)) in
    let after = c.row-pairs.new.area in
    let C' : Cut E r (starts E r) = subst (Cut E r) ef c.loop-r.invariant.1 in
    let D' : Cut E (r + 1) (starts E (suc r)) = subst (Cut E (r + 1)) ee D in
    let el : length (take (end - first) (drop first E)) - 1 ≡ last_of E r = omega arith in
    let agree : (i : ℕ) → i ≤ last_of E r → hs i ≡ coefficients_of E r i = λ i l. part_coefficient E first end i (omega (arith, w.0)) ∙ ap (λ f. coefficient_at E (f + i)) ef in
    let R1 : RowDone t hs (to + first) (from + first) s (last_of E r) area after = subst (λ n. RowDone t hs (to + first) (from + first) s n area after) el c.row-pairs.ensures.area in
    let R2 : RowDone t hs (to + starts E r) (from + starts E r) s (last_of E r) area after = subst (λ f. RowDone t hs (to + f) (from + f) s (last_of E r) area after) ef R1 in
    let n : c.row-pairs.result ≡ row_pairs J t top (row_vectors t hs (to + starts E r) area) (last_of E r) = c.row-pairs.ensures.pairs ∙ ap₂ (λ f m. row_pairs J t top (row_vectors t hs (to + f) area) m) ef el in (
      rows_more J t top E to from s r before area c.loop-r.invariant.0 (omega arith) (omega arith) w.0 C' D' hs agree after R2,
      D,
      next_pairs J t top E to from s r before area c.loop-r.invariant.0 (omega arith) (omega arith) w.0 C' D' hs agree c.loop-r.pairs c.row-pairs.result c.loop-r.invariant.2 n,
      omega (arith, c.row-pairs.ensures.few),
    )
