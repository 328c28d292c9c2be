-- Each kind of fault is told at the least place that is bad in its way.
use Rattle.std.proofs.Common.{◌≡◌, ℕ, zero, suc, ◌-◌, ◌<◌, ◌≤◌, Bool, true, false, List, [], ◌∷◌, length, Decides, sym, refl, ap, ◌∙◌, subst, arith}
use Rattle.std.proofs.lemmas.Bool.{both_ways}
use Rattle.std.proofs.lemmas.Bool.Decides.{not_from_Decides}
use Rattle.code.specs.declared.table.Edge.{Edge}
use Rattle.code.specs.declared.table.Entry.{Entry}
use Rattle.code.specs.declared.table.Header.{Header}
use Rattle.code.specs.declared.fault.CodeFault.TheVariants.{OutOfRange, NotRising, Degree, Unmatched}
use Rattle.code.specs.Admission.{at, after, first, first_bad, first_fall, row_degree, column_degree, row_fits, column_fits, edge_fits, entry_fits, edge_before, entry_before, has_edge, range_place, order_place, degree_place, pair_place}
use Rattle.code.specs.Places.{Bad, Unfit, Falls}
use Rattle.code.specs.Rules.{Between, EdgeFits, EntryFits, EdgeBefore, EntryBefore, HasEdge, Stands}
use Rattle.code.proofs.Deciding.{decides_between, decides_numbers, decides_edge, decides_entry, decides_edge_before, decides_entry_before, decides_has_edge, decides_lone_edge}
use Rattle.code.proofs.Least.{Least, some_none, least_first, least_unless, least_when, least_past, least_or, least_last}

pub stands_below : {A : Type 0} (xs : List A) (k : ℕ) (x : A) → Stands xs k x → k < length xs
stands_below [] k x s = absurd (some_none x (sym s))
stands_below (y ∷ ys) zero x s = omega arith
stands_below (y ∷ ys) (suc k) x s = let h = stands_below ys k x s in omega arith

at_stands : {A : Type 0} (t : A → Bool) (xs : List A) (k : ℕ) (x : A) → Stands xs k x → at t xs k ≡ t x
at_stands t [] k x s = absurd (some_none x (sym s))
at_stands t (y ∷ ys) zero x s = let h : y ≡ x = cc in ap t h
at_stands t (y ∷ ys) (suc k) x s = at_stands t ys k x s

at_false : {A : Type 0} (t : A → Bool) (xs : List A) (k : ℕ) → at t xs k ≡ false → (x : A) × ((Stands xs k x) × (t x ≡ false))
at_false t [] k e = absurd (both_ways true e refl)
at_false t (y ∷ ys) zero e = (y, (refl, e))
at_false t (y ∷ ys) (suc k) e = at_false t ys k e

failing : (b : Bool) {P : Type 0} → Decides b P → (P → ⊥) → b ≡ false
failing true d n = absurd (n (d.0 refl))
failing false d n = refl

module _ {A : Type 0} (t : A → Bool) (P : A → Type 0) (decides : (x : A) → Decides (t x) (P x)) (xs : List A) where
  pub least_bad : Least (Unfit P xs) (first_bad t xs)
  least_bad = least_first (at t xs) 0 (length xs) (Unfit P xs)
      (λ p low high e. let f = at_false t xs p e in (f.0, (f.1.0, not_from_Decides (t f.0) (decides f.0) f.1.1)))
      (λ p u. let h = stands_below xs p u.0 u.1.0 in (omega arith, omega arith, at_stands t xs p u.0 u.1.0 ∙ failing (t u.0) (decides u.0) u.1.1))

module _ {A : Type 0} (t : A → A → Bool) (B : A → A → Type 0) (decides : (a b : A) → Decides (t a b) (B a b)) (xs : List A) where
  falls_from : (p : ℕ) → 1 ≤ p → after t xs p ≡ false → Falls B xs p
  falls_from p low e =
      let f = at_false (λ b. at (λ a. t a b) xs (p - 1)) xs p e in
      let g = at_false (λ a. t a f.0) xs (p - 1) f.1.1 in
      (p - 1, (omega arith, (g.0, (f.0, (g.1.0, f.1.0, not_from_Decides (t g.0 f.0) (decides g.0 f.0) g.1.1)))))

  falls_fails : (p : ℕ) → Falls B xs p → after t xs p ≡ false
  falls_fails p (k, (e, (a, (b, (s, r, n))))) =
      let h : k ≡ p - 1 = omega arith in
      at_stands (λ y. at (λ x. t x y) xs (p - 1)) xs p b r ∙ at_stands (λ x. t x b) xs (p - 1) a (subst (λ v. Stands xs v a) h s) ∙ failing (t a b) (decides a b) n

  pub falls_below : (p : ℕ) → Falls B xs p → (1 ≤ p) × (p < length xs)
  falls_below p (k, (e, (a, (b, (s, r, n))))) = (omega arith, stands_below xs p b r)

  pub least_fall : Least (Falls B xs) (first_fall t xs)
  least_fall = least_first (after t xs) 1 (length xs - 1) (Falls B xs)
      (λ p low high e. falls_from p low e)
      (λ p f. let h = falls_below p f in (h.0, omega arith, falls_fails p f))

unfit_below : {A : Type 0} (P : A → Type 0) (xs : List A) (p : ℕ) → Unfit P xs p → p < length xs
unfit_below P xs p u = stands_below xs p u.0 u.1.0

-- a degree out of range, of the rows or the columns below n
least_degree : (t : ℕ → Bool) (P : ℕ → Type 0) (n : ℕ) → ((i : ℕ) → Decides (t i) (P i)) → Least (λ i. (i < n) × (P i → ⊥)) (first t 0 n)
least_degree t P n decides = least_first t 0 n _
    (λ p low high e. (omega arith, not_from_Decides (t p) (decides p) e))
    (λ p s. let h = s.0 in (omega arith, omega arith, failing (t p) (decides p) s.1))

module _ (h : Header) (es : List Edge) (ks : List Entry) where
  pub least_range : Least (λ p. Bad h es ks (OutOfRange p)) (range_place h es ks)
  least_range =
      least_or _ _ _ _
      (least_unless _ _ 0 (decides_numbers h es ks))
      (least_or _ _ _ _
      (least_bad (edge_fits h) (EdgeFits h) (decides_edge h) es)
      (least_last _ _ (least_past (length es) _ _ (least_bad (entry_fits h) (EntryFits h) (decides_entry h) ks)))
      (λ i j u v. let a = unfit_below (EdgeFits h) es i u in let b = v.1.0 in omega arith))
      (λ i j u v. let a = u.0 in omega arith)

  pub least_order : Least (λ p. Bad h es ks (NotRising p)) (order_place es ks)
  least_order =
      least_or _ _ _ _
      (least_fall edge_before EdgeBefore decides_edge_before es)
      (least_last _ _ (least_past (length es) _ _ (least_fall entry_before EntryBefore decides_entry_before ks)))
      (λ i j u v. let a = falls_below edge_before EdgeBefore decides_edge_before es i u in let b = v.1.0 in omega arith)

  pub least_degrees : Least (λ p. Bad h es ks (Degree p)) (degree_place h es)
  least_degrees =
      least_or _ _ _ _
      (least_degree (row_fits es) (λ i. Between 2 (row_degree es i) 16) h.rows (λ i. decides_between 2 (row_degree es i) 16))
      (least_last _ _ (least_past h.rows _ _ (least_degree (column_fits es) (λ j. Between 1 (column_degree es j) 8) h.columns (λ j. decides_between 1 (column_degree es j) 8))))
      (λ i j u v. let a = u.0 in let b = v.1.0 in omega arith)

  pub least_pairs : Least (λ p. Bad h es ks (Unmatched p)) (pair_place es ks)
  least_pairs =
      least_or _ _ _ _
      (least_bad (has_edge es) (λ x. HasEdge es x.row x.column) (decides_has_edge es) ks)
      (least_last _ _ (least_when _ _ (length ks) (decides_lone_edge es ks)))
      (λ i j u v. let a = unfit_below (λ x. HasEdge es x.row x.column) ks i u in let b = v.0 in omega arith)
