-- The rules hold exactly if nothing is bad; and what they say of the places of the tables, for whoever holds a code.
use Rattle.std.proofs.Common.{◌≡◌, ℕ, zero, suc, ◌+◌, ◌-◌, ◌<◌, Bool, true, false, List, length, get_or, Decides, refl, ◌∙◌, subst, inl, inr, arith}
use Rattle.std.proofs.lemmas.Option.{slice_get-get_or}
use Rattle.std.proofs.lemmas.Bool.Decides.{not_from_Decides}
use Rattle.code.specs.declared.table.Edge.{Edge}
use Rattle.code.specs.declared.table.Entry.{Entry}
use Rattle.code.specs.declared.table.Header.{Header}
use Rattle.code.specs.declared.fault.CodeFault.{CodeFault}
use Rattle.code.specs.declared.fault.CodeFault.TheVariants.{OutOfRange, NotRising, Degree, Unmatched}
use Rattle.code.specs.Admission.{row_degree, column_degree}
use Rattle.code.specs.Places.{Bad, NumbersFit}
use Rattle.code.specs.Rules.{Rules, EdgeFits, EntryFits, EdgeBefore, EntryBefore, HasEdge, HasEntry, Stands}
use Rattle.code.proofs.Deciding.{decides_between, decides_numbers, decides_edge, decides_entry, decides_edge_before, decides_entry_before, decides_has_edge, decides_has_entry}
use Rattle.code.proofs.Told.{stands_below}

sure : (b : Bool) {P : Type 0} → Decides b P → ((P → ⊥) → ⊥) → P
sure true d n = d.0 refl
sure false d n = absurd (n (not_from_Decides false d refl))

pub stands_at : {A : Type 0} (xs : List A) (k : ℕ) (d : A) → k < length xs → Stands xs k (get_or xs k d)
stands_at xs k d lt = slice_get-get_or xs k d lt

-- where neighbours rise, any two do
module _ {A : Type 0} (Before : A → A → Type 0) (chain : (a b c : A) → Before a b → Before b c → Before a c) (xs : List A) (next : (k : ℕ) (a b : A) → Stands xs k a → Stands xs (k + 1) b → Before a b) where
  by_distance : (n i k : ℕ) (a b : A) → k ≡ i + 1 + n → Stands xs i a → Stands xs k b → Before a b
  by_distance zero i k a b e s r = let h : k ≡ i + 1 = omega arith in next i a b s (subst (λ v. Stands xs v b) h r)
  by_distance (suc n) i k a b e s r =
      let lt = stands_below xs k b r in
      let h : k ≡ i + 1 + n + 1 = omega arith in
      let c : A = get_or xs (i + 1 + n) b in
      let m : Stands xs (i + 1 + n) c = stands_at xs (i + 1 + n) b (omega arith) in
      chain a c b (by_distance n i (i + 1 + n) a c refl s m) (next (i + 1 + n) c b m (subst (λ v. Stands xs v b) h r))

  rising : (i k : ℕ) (a b : A) → i < k → Stands xs i a → Stands xs k b → Before a b
  rising i k a b lt = by_distance (k - (i + 1)) i k a b (omega arith)

pub edges_chain : (a b c : Edge) → EdgeBefore a b → EdgeBefore b c → EdgeBefore a c
edges_chain a b c (inl p) (inl q) = inl (omega arith)
edges_chain a b c (inl p) (inr q) = inl (let e = q.0 in omega arith)
edges_chain a b c (inr p) (inl q) = inl (let e = p.0 in omega arith)
edges_chain a b c (inr p) (inr q) = inr (p.0 ∙ q.0, omega arith)

pub entries_chain : (a b c : Entry) → EntryBefore a b → EntryBefore b c → EntryBefore a c
entries_chain a b c (inl p) (inl q) = inl (omega arith)
entries_chain a b c (inl p) (inr q) = inl (let e = q.0 in omega arith)
entries_chain a b c (inr p) (inl q) = inl (let e = p.0 in omega arith)
entries_chain a b c (inr p) (inr q) = inr (p.0 ∙ q.0, omega arith)

module _ (h : Header) (es : List Edge) (ks : List Entry) where
  module _ (good : (f : CodeFault) → Bad h es ks f → ⊥) where
    numbers : NumbersFit h es ks
    numbers = sure _ (decides_numbers h es ks) (λ n. good (OutOfRange 0) (inl (refl, n)))

    has_its_entry : (i j : ℕ) → HasEdge es i j → HasEntry ks i j
    has_its_entry i j (k, (e, (s, r, c))) =
        let (m, (x, (t, u, v))) = sure _ (decides_has_entry ks e) (λ n. good (Unmatched (length ks)) (inr (refl, (k, (e, (s, n)))))) in
        (m, (x, (t, u ∙ r, v ∙ c)))

    has_its_edge : (i j : ℕ) → HasEntry ks i j → HasEdge es i j
    has_its_edge i j (k, (x, (s, r, c))) =
        let (m, (e, (t, u, v))) = sure _ (decides_has_edge es x) (λ n. good (Unmatched k) (inl (x, (s, n)))) in
        (m, (e, (t, u ∙ r, v ∙ c)))

    pub rules_from : Rules h es ks
    rules_from = record {
      header = numbers.0;
      few_edges = numbers.1;
      few_entries = numbers.2;
      edges_fit = λ k e s. sure _ (decides_edge h e) (λ n. good (OutOfRange k) (inr (inl (e, (s, n)))));
      entries_fit = λ k x s. sure _ (decides_entry h x) (λ n. good (OutOfRange (length es + k)) (inr (inr (k, (refl, (x, (s, n)))))));
      edges_rise = rising EdgeBefore edges_chain es (λ k a b s r. sure _ (decides_edge_before a b) (λ n. good (NotRising (k + 1)) (inl (k, (refl, (a, (b, (s, r, n))))))));
      entries_rise = rising EntryBefore entries_chain ks (λ k a b s r. sure _ (decides_entry_before a b) (λ n. good (NotRising (length es + (k + 1))) (inr (k + 1, (refl, (k, (refl, (a, (b, (s, r, n))))))))));
      row_degrees = λ i lt. sure _ (decides_between 2 (row_degree es i) 16) (λ n. good (Degree i) (inl (lt, n)));
      column_degrees = λ j lt. sure _ (decides_between 1 (column_degree es j) 8) (λ n. good (Degree (h.rows + j)) (inr (j, (refl, (lt, n)))));
      edge_has_entry = has_its_entry;
      entry_has_edge = has_its_edge;
    }

  pub rules_good : Rules h es ks → (f : CodeFault) → Bad h es ks f → ⊥
  rules_good r (OutOfRange p) (inl (e, n)) = n (r.header, r.few_edges, r.few_entries)
  rules_good r (OutOfRange p) (inr (inl (e, (s, n)))) = n (r.edges_fit p e s)
  rules_good r (OutOfRange p) (inr (inr (k, (e, (x, (s, n)))))) = n (r.entries_fit k x s)
  rules_good r (NotRising p) (inl (k, (e, (a, (b, (s, t, n)))))) = n (r.edges_rise k p a b (omega arith) s t)
  rules_good r (NotRising p) (inr (m, (f, (k, (e, (a, (b, (s, t, n)))))))) = n (r.entries_rise k m a b (omega arith) s t)
  rules_good r (Degree p) (inl (lt, n)) = n (r.row_degrees p lt)
  rules_good r (Degree p) (inr (j, (e, (lt, n)))) = n (r.column_degrees j lt)
  rules_good r (Unmatched p) (inl (x, (s, n))) = n (r.entry_has_edge x.row x.column (p, (x, (s, refl, refl))))
  rules_good r (Unmatched p) (inr (e, (k, (x, (s, n))))) = n (r.edge_has_entry x.row x.column (k, (x, (s, refl, refl))))

-- the rules at the places of the tables, at any default
module _ {h : Header} {es : List Edge} {ks : List Entry} (r : Rules h es ks) where
  pub edge_at : (k : ℕ) (d : Edge) → k < length es → EdgeFits h (get_or es k d)
  edge_at k d lt = r.edges_fit k _ (stands_at es k d lt)

  pub entry_at : (k : ℕ) (d : Entry) → k < length ks → EntryFits h (get_or ks k d)
  entry_at k d lt = r.entries_fit k _ (stands_at ks k d lt)
