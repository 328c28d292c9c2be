-- The worked example, computed, and that it is a run. Assumes nothing.
use Rattle.std.proofs.Common.{◌≡◌, ℕ, ◌+◌, ◌<◌, ◌≤◌, Bool, true, false, not, ◌&&◌, ◌||◌, eqb, ltb, leb, ◌⊎◌, [], ◌∷◌, map, length, get_or, sym, refl, ap, ◌∙◌, subst, inl, inr, arith}
use Rattle.std.specs.List.{range_with_len}
use Rattle.std.proofs.lemmas.Option.{slice_get-get_or}
use Rattle.std.proofs.lemmas.List.FromFn.{get_or-map-range_with_len, length-map-range_with_len}
use Rattle.std.proofs.lemmas.List.{get_or_past}
use Rattle.std.proofs.lemmas.Bool.{cases_lt, leb-true, ltb-true, eqb-true, lt-ltb, and_parts}
use Rattle.field.specs.Tables.{Lawful, least}
use Rattle.field.proofs.Tested.{or_true}
use Rattle.field.proofs.Checked.{checked}
use Rattle.code.specs.declared.table.Edge.{Edge}
use Rattle.code.specs.declared.table.Entry.{Entry}
use Rattle.code.specs.Admission.{row_degree, column_degree, edge_before, entry_before, between, entry_fits}
use Rattle.code.specs.Rules.{Stands, EdgeFits, EntryFits, EdgeBefore, EntryBefore, HasEdge, HasEntry}
use Rattle.tree.specs.Over.{over, least_to, lowest_to, every}
use Rattle.tree.specs.Places.{Admitted, no_edge, edge_at, arms, others}
use Rattle.tree.specs.Columns.{no_entry, entry_at}
use Rattle.tree.specs.Tree.{lower}
use Rattle.tree.specs.Decoder.{best, from_check_cost, column_sum, less_least, round_to, round_distance}
use Rattle.tree.specs.Rows.{PairsRule, tabled, joined_at, joined, gathered, forth, back, around_at, back_pairs, forth_pairs, around_pair, around_pairs, row_pairs, first_of, rows_pairs, round_pairs}
use Rattle.tree.specs.Frame.{Frame, Words, loading, running, numbers_of, obey, same_numbers, parts_of, block, laid, stores, within, decided, row_sum, failing, told, word_of, next_parts, next_slip, outcome, Call, opens, loads, starts, rounds, reads, concludes, refused, Reply, done, slip_given, granted, round_told, column_told, word_told}
use Rattle.tree.specs.Run.{History, next_history, Brings, Run, new, obeyed}
use Rattle.tree.specs.Worked.{three, code_A, begun, started, turned, recalled, asked, full_pairs, six_joins, history_all, WorkedExample}
use Rattle.tree.proofs.Words.{nth_at}
use Rattle.tree.proofs.Outcomes.{every_is}
use Rattle.tree.proofs.Runs.{run_words}
use Rattle.tree.proofs.Follow.{effects_theorem}

-- ---- what the calls answer
not_yet : asked (concludes 4) started ≡ refused 24
unfolding three code_A obey begun started outcome same_numbers parts_of block laid stores decided row_sum failing next_parts next_slip over least_to lowest_to
not_yet = refl

one_round : asked (rounds full_pairs) started ≡ granted (round_told 1 0 54)
unfolding three code_A obey begun started outcome same_numbers parts_of block laid stores within decided row_sum failing next_parts next_slip over least_to lowest_to every lower arms others best from_check_cost column_sum less_least round_to round_distance tabled joined_at joined gathered forth back around_at back_pairs forth_pairs around_pair around_pairs row_pairs first_of rows_pairs least
one_round = refl

module _ (pairs : PairsRule) where
  round_is : asked (rounds pairs) started ≡ granted (round_told 1 0 (round_pairs pairs three code_A (parts_of code_A started.area).to_check))
  unfolding three code_A obey begun started outcome same_numbers parts_of block laid stores within decided row_sum failing next_parts next_slip over least_to lowest_to every lower arms others best from_check_cost column_sum less_least round_to round_distance tabled
  round_is = refl

  six : round_pairs pairs three code_A (parts_of code_A started.area).to_check ≡ six_joins pairs
  unfolding three code_A obey begun started parts_of block laid stores next_parts over least_to lowest_to tabled joined_at joined gathered forth back around_at back_pairs forth_pairs around_pair around_pairs row_pairs first_of rows_pairs least
  six = omega arith

  any_round : asked (rounds pairs) started ≡ granted (round_told 1 0 (six_joins pairs))
  any_round = round_is ∙ ap (λ n. granted (round_told 1 0 n)) six

  column_0 : asked (reads 0 3) (turned pairs) ≡ granted (column_told (0 ∷ 7 ∷ 5 ∷ []) 0)
  unfolding three code_A obey begun started turned outcome same_numbers parts_of block laid stores within decided next_parts next_slip over least_to lowest_to every lower arms others best from_check_cost column_sum less_least round_to round_distance tabled told
  column_0 = refl

  column_1 : asked (reads 1 3) (turned pairs) ≡ granted (column_told (0 ∷ 8 ∷ 11 ∷ []) 0)
  unfolding three code_A obey begun started turned outcome same_numbers parts_of block laid stores within decided next_parts next_slip over least_to lowest_to every lower arms others best from_check_cost column_sum less_least round_to round_distance tabled told
  column_1 = refl

  column_2 : asked (reads 2 3) (turned pairs) ≡ granted (column_told (0 ∷ 3 ∷ 3 ∷ []) 0)
  unfolding three code_A obey begun started turned outcome same_numbers parts_of block laid stores within decided next_parts next_slip over least_to lowest_to every lower arms others best from_check_cost column_sum less_least round_to round_distance tabled told
  column_2 = refl

  column_3 : asked (reads 3 3) (turned pairs) ≡ granted (column_told (0 ∷ 5 ∷ 6 ∷ []) 0)
  unfolding three code_A obey begun started turned outcome same_numbers parts_of block laid stores within decided next_parts next_slip over least_to lowest_to every lower arms others best from_check_cost column_sum less_least round_to round_distance tabled told
  column_3 = refl

  word : asked (concludes 4) (turned pairs) ≡ granted (word_told (0 ∷ 0 ∷ 0 ∷ 0 ∷ []) 1)
  unfolding three code_A obey begun started turned outcome same_numbers parts_of block laid stores within decided row_sum failing next_parts next_slip over least_to lowest_to every lower arms others best from_check_cost column_sum less_least round_to round_distance tabled word_of
  word = refl

-- ---- the field and the code keep their rules
three_lawful : Lawful three
unfolding three
three_lawful = checked (record { order = 3; sum = λ a b. three.sum a b; product = λ a b. three.product a b }) refl

edge_rules : (k : ℕ) (e : Edge) → Stands code_A.edges k e → EdgeFits code_A.header e
unfolding code_A every
edge_rules k e s =
    let w = nth_at code_A.edges k no_edge e s in
    subst (EdgeFits code_A.header) w.1 (record {
      row = ltb-true (edge_at code_A k).row 2 (every_is 6 (λ k. ltb (edge_at code_A k).row 2) refl k w.0);
      column = ltb-true (edge_at code_A k).column 4 (every_is 6 (λ k. ltb (edge_at code_A k).column 4) refl k w.0);
      coefficient = leb-true 1 (edge_at code_A k).coefficient (every_is 6 (λ k. leb 1 (edge_at code_A k).coefficient) refl k w.0);
      code = ltb-true (edge_at code_A k).coefficient 3 (every_is 6 (λ k. ltb (edge_at code_A k).coefficient 3) refl k w.0);
    })

entry_rules : (k : ℕ) (e : Entry) → Stands code_A.entries k e → EntryFits code_A.header e
unfolding code_A every
entry_rules k e s =
    let w = nth_at code_A.entries k no_entry e s in
    let t : entry_fits code_A.header (entry_at code_A k) ≡ true = every_is 6 (λ k. entry_fits code_A.header (entry_at code_A k)) refl k w.0 in
    let a = and_parts (ltb (entry_at code_A k).column 4) (ltb (entry_at code_A k).row 2) t in
    subst (EntryFits code_A.header) w.1 (record { column = ltb-true (entry_at code_A k).column 4 a.0; row = ltb-true (entry_at code_A k).row 2 a.1 })

later : (i k : ℕ) (b : Bool) → (not (ltb i k) || b) ≡ true → i < k → b ≡ true
later i k b t h = elim (or_true (not (ltb i k)) b t) [ inl e ↦ absurd (let z : ◌≡◌ {A = Bool} false true = sym (ap not (lt-ltb i k h)) ∙ e in let w : ◌≡◌ {A = ℕ} 0 1 = cc in let v : ⊥ = omega arith in v) | inr e ↦ e ]

edges_rise : (i k : ℕ) (a b : Edge) → i < k → Stands code_A.edges i a → Stands code_A.edges k b → EdgeBefore a b
unfolding code_A every
edges_rise i k a b h s r =
    let v = nth_at code_A.edges i no_edge a s in
    let w = nth_at code_A.edges k no_edge b r in
    let t : edge_before (edge_at code_A i) (edge_at code_A k) ≡ true =
    later i k (edge_before (edge_at code_A i) (edge_at code_A k))
    (every_is 6 (λ k. not (ltb i k) || edge_before (edge_at code_A i) (edge_at code_A k)) (every_is 6 (λ i. every 6 (λ k. not (ltb i k) || edge_before (edge_at code_A i) (edge_at code_A k))) refl i v.0) k w.0) h in
    subst (λ d. EdgeBefore a d) w.1 (subst (λ d. EdgeBefore d (edge_at code_A k)) v.1 (is (edge_at code_A i) (edge_at code_A k) t))
  where
    is : (x y : Edge) → edge_before x y ≡ true → EdgeBefore x y
    is x y t = elim (or_true (ltb x.row y.row) (eqb x.row y.row && ltb x.column y.column) t) [
      | inl e ↦ inl (ltb-true x.row y.row e)
      | inr e ↦ let p = and_parts (eqb x.row y.row) (ltb x.column y.column) e in inr (eqb-true x.row y.row p.0, ltb-true x.column y.column p.1)
    ]

entries_rise : (i k : ℕ) (a b : Entry) → i < k → Stands code_A.entries i a → Stands code_A.entries k b → EntryBefore a b
unfolding code_A every
entries_rise i k a b h s r =
    let v = nth_at code_A.entries i no_entry a s in
    let w = nth_at code_A.entries k no_entry b r in
    let t : entry_before (entry_at code_A i) (entry_at code_A k) ≡ true =
    later i k (entry_before (entry_at code_A i) (entry_at code_A k))
    (every_is 6 (λ k. not (ltb i k) || entry_before (entry_at code_A i) (entry_at code_A k)) (every_is 6 (λ i. every 6 (λ k. not (ltb i k) || entry_before (entry_at code_A i) (entry_at code_A k))) refl i v.0) k w.0) h in
    subst (λ d. EntryBefore a d) w.1 (subst (λ d. EntryBefore d (entry_at code_A k)) v.1 (is (entry_at code_A i) (entry_at code_A k) t))
  where
    is : (x y : Entry) → entry_before x y ≡ true → EntryBefore x y
    is x y t = elim (or_true (ltb x.column y.column) (eqb x.column y.column && ltb x.row y.row) t) [
      | inl e ↦ inl (ltb-true x.column y.column e)
      | inr e ↦ let p = and_parts (eqb x.column y.column) (ltb x.row y.row) e in inr (eqb-true x.column y.column p.0, ltb-true x.row y.row p.1)
    ]

-- where an edge's entry stands, and an entry's edge
across : ℕ → ℕ
across k = get_or (0 ∷ 1 ∷ 3 ∷ 2 ∷ 4 ∷ 5 ∷ []) k 0

same_pair : ℕ → ℕ → Bool
same_pair k l = eqb (edge_at code_A k).row (entry_at code_A l).row && eqb (edge_at code_A k).column (entry_at code_A l).column

has_entry : (i j : ℕ) → HasEdge code_A.edges i j → HasEntry code_A.entries i j
unfolding code_A every across same_pair
has_entry i j w =
    let a = nth_at code_A.edges w.0 no_edge w.1.0 w.1.1.0 in
    let l : ℕ = across w.0 in
    let lt : l < 6 = ltb-true l 6 (every_is 6 (λ k. ltb (across k) 6) refl w.0 a.0) in
    let p = and_parts (eqb (edge_at code_A w.0).row (entry_at code_A l).row) (eqb (edge_at code_A w.0).column (entry_at code_A l).column) (every_is 6 (λ k. same_pair k (across k)) refl w.0 a.0) in (
      l,
      (
        entry_at code_A l,
        (
          slice_get-get_or code_A.entries l no_entry lt,
          sym (eqb-true (edge_at code_A w.0).row (entry_at code_A l).row p.0) ∙ ap (λ d. d.row) a.1 ∙ w.1.1.1,
          sym (eqb-true (edge_at code_A w.0).column (entry_at code_A l).column p.1) ∙ ap (λ d. d.column) a.1 ∙ w.1.1.2,
        ),
      ),
    )

has_edge : (i j : ℕ) → HasEntry code_A.entries i j → HasEdge code_A.edges i j
unfolding code_A every across same_pair
has_edge i j w =
    let a = nth_at code_A.entries w.0 no_entry w.1.0 w.1.1.0 in
    let l : ℕ = across w.0 in
    let lt : l < 6 = ltb-true l 6 (every_is 6 (λ k. ltb (across k) 6) refl w.0 a.0) in
    let p = and_parts (eqb (edge_at code_A l).row (entry_at code_A w.0).row) (eqb (edge_at code_A l).column (entry_at code_A w.0).column) (every_is 6 (λ k. same_pair (across k) k) refl w.0 a.0) in (
      l,
      (
        edge_at code_A l,
        (
          slice_get-get_or code_A.edges l no_edge lt,
          eqb-true (edge_at code_A l).row (entry_at code_A w.0).row p.0 ∙ ap (λ d. d.row) a.1 ∙ w.1.1.1,
          eqb-true (edge_at code_A l).column (entry_at code_A w.0).column p.1 ∙ ap (λ d. d.column) a.1 ∙ w.1.1.2,
        ),
      ),
    )

code_A_admitted : Admitted code_A
unfolding code_A every
code_A_admitted = record {
  header = record {
    order = (leb-true 2 3 refl, leb-true 3 64 refl);
    columns = (leb-true 2 4 refl, leb-true 4 256 refl);
    rows = (leb-true 1 2 refl, leb-true 2 128 refl);
    fewer = ltb-true 2 4 refl;
    ceiling = (leb-true 1 31 refl, leb-true 31 1023 refl);
    limit = (leb-true 1 20 refl, leb-true 20 200 refl);
  };
  few_edges = leb-true 6 1024 refl;
  few_entries = leb-true 6 1024 refl;
  edges_fit = edge_rules;
  entries_fit = entry_rules;
  edges_rise = edges_rise;
  entries_rise = entries_rise;
  row_degrees = λ i h. let p = and_parts (leb 2 (row_degree code_A.edges i)) (leb (row_degree code_A.edges i) 16) (every_is 2 (λ i. between 2 (row_degree code_A.edges i) 16) refl i h) in
      (leb-true 2 (row_degree code_A.edges i) p.0, leb-true (row_degree code_A.edges i) 16 p.1);
  column_degrees = λ j h. let p = and_parts (leb 1 (column_degree code_A.edges j)) (leb (column_degree code_A.edges j) 8) (every_is 4 (λ j. between 1 (column_degree code_A.edges j) 8) refl j h) in
      (leb-true 1 (column_degree code_A.edges j) p.0, leb-true (column_degree code_A.edges j) 8 p.1);
  edge_has_entry = has_entry;
  entry_has_edge = has_edge;
}

-- ---- the run
go_on : (f : Frame) (h : History) → Run f h → (call : Call) (reply : Reply) → Brings call three code_A h → outcome three code_A call f.area f.slip ≡ granted reply →
    Run (obey three code_A call f) (next_history three code_A call h)
go_on f h r call reply b g = obeyed r three code_A call reply b g (effects_theorem three three_lawful code_A code_A_admitted call f (run_words r) reply g).effect

begun_words : Words begun.area
unfolding begun
begun_words i = go (cases_lt i 170)
  where
    go : (i < 170) ⊎ (170 ≤ i) → get_or (map (λ i. 7 + i) (range_with_len 0 170)) i 0 < 65536
    go (inl h) = omega (arith, get_or-map-range_with_len (λ i. 7 + i) 0 170 i i 0 h (omega arith))
    go (inr h) = let e : length (map (λ i. 7 + i) (range_with_len 0 170)) ≤ i = omega (arith, length-map-range_with_len (λ i. 7 + i) 0 170) in omega (arith, get_or_past (map (λ i. 7 + i) (range_with_len 0 170)) i 0 e)

module _ (h : History) where
  f1 : Frame
  f1 = obey three code_A opens begun

  h1 : History
  h1 = next_history three code_A opens h

  r1 : Run f1 h1
  unfolding f1 h1 begun Brings outcome three code_A
  r1 = go_on begun h (new begun.area h begun_words) opens (slip_given (loading (numbers_of code_A))) (three_lawful, code_A_admitted) refl

  f2 : Frame
  f2 = obey three code_A (loads 0 (0 ∷ 5 ∷ 9 ∷ [])) f1

  h2 : History
  h2 = next_history three code_A (loads 0 (0 ∷ 5 ∷ 9 ∷ [])) h1

  r2 : Run f2 h2
  unfolding f1 f2 h1 h2 begun Brings next_history outcome three code_A obey laid next_slip same_numbers
  r2 = go_on f1 h1 r1 (loads 0 (0 ∷ 5 ∷ 9 ∷ [])) done (record { field = refl; code = refl }) refl

  f3 : Frame
  f3 = obey three code_A (loads 1 (4 ∷ 0 ∷ 7 ∷ [])) f2

  h3 : History
  h3 = next_history three code_A (loads 1 (4 ∷ 0 ∷ 7 ∷ [])) h2

  r3 : Run f3 h3
  unfolding f1 f2 f3 h1 h2 h3 begun Brings next_history outcome three code_A obey laid next_slip same_numbers
  r3 = go_on f2 h2 r2 (loads 1 (4 ∷ 0 ∷ 7 ∷ [])) done (record { field = refl; code = refl }) refl

  f4 : Frame
  f4 = obey three code_A (loads 2 (0 ∷ 6 ∷ 8 ∷ [])) f3

  h4 : History
  h4 = next_history three code_A (loads 2 (0 ∷ 6 ∷ 8 ∷ [])) h3

  r4 : Run f4 h4
  unfolding f1 f2 f3 f4 h1 h2 h3 h4 begun Brings next_history outcome three code_A obey laid next_slip same_numbers
  r4 = go_on f3 h3 r3 (loads 2 (0 ∷ 6 ∷ 8 ∷ [])) done (record { field = refl; code = refl }) refl

  f5 : Frame
  f5 = obey three code_A (loads 3 (0 ∷ 3 ∷ 10 ∷ [])) f4

  h5 : History
  h5 = next_history three code_A (loads 3 (0 ∷ 3 ∷ 10 ∷ [])) h4

  r5 : Run f5 h5
  unfolding f1 f2 f3 f4 f5 h1 h2 h3 h4 h5 begun Brings next_history outcome three code_A obey laid next_slip same_numbers
  r5 = go_on f4 h4 r4 (loads 3 (0 ∷ 3 ∷ 10 ∷ [])) done (record { field = refl; code = refl }) refl

  r6 : Run started (history_all three code_A (opens ∷ loads 0 (0 ∷ 5 ∷ 9 ∷ []) ∷ loads 1 (4 ∷ 0 ∷ 7 ∷ []) ∷ loads 2 (0 ∷ 6 ∷ 8 ∷ []) ∷ loads 3 (0 ∷ 3 ∷ 10 ∷ []) ∷ starts ∷ []) h)
  unfolding f1 f2 f3 f4 f5 h1 h2 h3 h4 h5 started begun Brings next_history outcome three code_A obey laid next_slip same_numbers within every parts_of block next_parts stores least_to
  r6 = go_on f5 h5 r5 starts (slip_given (running (numbers_of code_A) 0)) (record { field = refl; code = refl }) refl

  r7 : (pairs : PairsRule) → Run (turned pairs) (recalled pairs h)
  unfolding started turned recalled begun Brings next_history outcome three code_A obey laid next_slip same_numbers within every parts_of block next_parts stores least_to
  r7 pairs = go_on started _ r6 (rounds pairs) _ (record { field = refl; code = refl }) refl

pub worked : WorkedExample
unfolding turned started recalled obey next_slip next_history
worked = record {
  lawful = three_lawful;
  admitted = code_A_admitted;
  not_yet = not_yet;
  any_round = any_round;
  one_round = one_round;
  column_0 = column_0;
  column_1 = column_1;
  column_2 = column_2;
  column_3 = column_3;
  word = word;
  run = λ pairs h. r7 h pairs;
  slip = λ pairs. refl;
  rounds_made = λ pairs h. refl;
}
