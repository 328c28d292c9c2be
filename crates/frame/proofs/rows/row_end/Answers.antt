use Rattle.std.proofs.Common.{rules, ◌≡◌, ℕ, ◌+◌, ◌-◌, ◌<◌, ◌≤◌, ◌≢◌, not, eqb, List, length, take, drop, position, Option, Some, None, sym, ap, ◌∙◌, subst, arith}
use Rattle.std.specs.Option.{MatchOption}
use Rattle.std.proofs.lemmas.Bool.{not-true, eqb-false}
use Rattle.std.proofs.lemmas.List.Quantifiers.{position-Some}
use Rattle.code.specs.declared.table.Edge.{Edge}
use Rattle.frame.specs.Columns.{row_at}
use Rattle.frame.proofs.AllRows.{of_row, found_first, none_found, part_edge, part_length}
use Rattle.frame.proofs.rows.row_end.Goals as goal

-- where the row's edges end
abbrev Ends : List Edge → ℕ → ℕ → ℕ → Type 0
Ends E first r end = ((x : ℕ) → first ≤ x → x < end → row_at E x ≡ r) × (end < length E → row_at E end ≢ r)

found : (E : List Edge) (first r n : ℕ) → first ≤ length E → Some n ≡ position (λ (e : Edge). not (eqb e.row r)) (take (length E - first) (drop first E)) → Ends E first r (first + n)
found E first r n low is =
    let p : List Edge = take (length E - first) (drop first E) in
    let e = sym is in
    let s = position-Some (λ (e : Edge). not (eqb e.row r)) p n (record { row = 0; column = 0; coefficient = 0 }) e in
    let long = part_length E first (length E) (omega arith) in
    let f = found_first (λ (e : Edge). not (eqb e.row r)) p n e in (
      λ x l m. of_row E first r n (omega arith) x l m (omega (arith, s.0)),
      λ l e. eqb-false (row_at p n) r (not-true (eqb (row_at p n) r) s.1) (ap (λ e. e.row) (part_edge E first (length E) n (omega (arith, s.0))) ∙ e),
    )

none : (E : List Edge) (first r : ℕ) → first ≤ length E → None ≡ position (λ (e : Edge). not (eqb e.row r)) (take (length E - first) (drop first E)) → Ends E first r (length E)
none E first r low is =
    let long = part_length E first (length E) (omega arith) in
    let n = none_found (λ (e : Edge). not (eqb e.row r)) (take (length E - first) (drop first E)) (sym is) in
    (λ x l m. of_row E first r (length E - first) (omega arith) x l (omega arith) m, λ l. absurd (let z : ⊥ = omega arith in z))

ends : (E : List Edge) (first r end : ℕ) (o : Option ℕ) → first ≤ length E → o ≡ position (λ (e : Edge). not (eqb e.row r)) (take (length E - first) (drop first E)) → MatchOption o (end ≡ length E) (λ n. end ≡ first + n) → Ends E first r end
ends E first r end None low is m = subst (λ k. Ends E first r k) (sym m) (none E first r low is)
ends E first r end (Some n) low is m = subst (λ k. Ends E first r k) (sym m) (found E first r n low is)

pub returns-clause-same : goal.returns-clause-same
returns-clause-same c =
    let told : MatchOption c.leaves_row.result (c.map_or.result ≡ length c.args.edges.now) (λ n. c.map_or.result ≡ c.args.first + n) = search rules in
    (ends c.args.edges.now c.args.first c.args.r c.map_or.result c.leaves_row.result c.requires c.leaves_row.ensures told).0

pub returns-clause-next : goal.returns-clause-next
returns-clause-next c =
    let told : MatchOption c.leaves_row.result (c.map_or.result ≡ length c.args.edges.now) (λ n. c.map_or.result ≡ c.args.first + n) = search rules in
    (ends c.args.edges.now c.args.first c.args.r c.map_or.result c.leaves_row.result c.requires c.leaves_row.ensures told).1
