-- The five steps of a round one after another: what each finds, and what the last one leaves. Assumes nothing.
use Rattle.std.proofs.Common.{◌≡◌, ℕ, zero, suc, pred, ◌+◌, ◌-◌, ◌*◌, ◌/◌, ◌%◌, ◌<◌, ◌≤◌, min, eqb, ◌⊎◌, List, length, get_or, drop, replicate, sym, refl, ap, ◌∙◌, subst, ap₂, inl, inr, mod-lt, add-mul, arith, length-drop}
use Rattle.std.proofs.lemmas.List.{ext_get_or, get_or-replicate, get_or_past, get_or-take, get_or-drop}
use Rattle.std.proofs.lemmas.Nat.{mul-le, le-div, div-add-mod'}
use Rattle.std.proofs.lemmas.Bool.{cases_lt}
use Rattle.field.specs.Tables.{Tables, Lawful, opposite_of, inverse_of}
use Rattle.code.specs.Views.{View}
use Rattle.joiner.specs.Costs.{Low}
use Rattle.tree.specs.Over.{least_to}
use Rattle.tree.specs.Places.{width, row_of, column_of, coefficient_of, at_column, at_edge}
use Rattle.tree.specs.Tree.{lower}
use Rattle.tree.specs.Decoder.{from_check_cost, column_sum, less_least, round_to, round_distance}
use Rattle.tree.specs.Columns.{height}
use Rattle.tree.specs.Rows.{PairsRule, tabled, gathered, code_in, read_by, around, first_of, round_pairs}
use Rattle.tree.specs.Rows as tree
use Rattle.tree.specs.Columns as entries
use Rattle.tree.specs.Frame.{held_words, area_words, parts_of, rounds, next_parts}
use Rattle.tree.proofs.Facts.{Facts, facts}
use Rattle.tree.proofs.Laws.{laws_of}
use Rattle.tree.proofs.Folds.{over_same}
use Rattle.tree.proofs.Columns.{entry_edge, only_edge, column_total}
use Rattle.tree.proofs.Rows.{length_tabled, at_tabled, tabled_block, row_in, row_two, rows_theorem}
use Rattle.tree.proofs.Bounds.{from_low, column_low, edge_sum}
use Rattle.tree.proofs.Follow.{held_is}
use Rattle.frame.specs.Blocks.{block, blocks, Filled}
use Rattle.frame.proofs.Summed.{least_same}
use Rattle.frame.specs.Columns.{column_at, entry_at, edge_of, word, rests, lowered, SummedTo}
use Rattle.frame.specs.AllRows.{starts, last_of, vectors_of, read_of, rows_pairs, RowsTo}
use Rattle.frame.specs.Round.{Ready, Moved}
use Rattle.frame.proofs.Written.{room}
use Rattle.frame.proofs.AllRows.{all_same, row_pairs_same}
use Rattle.frame.proofs.Places.{position_stands}

-- ---- words of blocks
pub word_at : (q j a : ℕ) (area : List ℕ) → a < q → word q area j a ≡ get_or area (j * q + a) 0
unfolding block
word_at q j a area h = get_or-take q (drop (j * q) area) a 0 h ∙ get_or-drop (j * q) area a 0

lowered_is : (q top : ℕ) (v w : List ℕ) (f : ℕ → ℕ) (a : ℕ) → a < q → ((b : ℕ) → b < q → rests v w b ≡ f b) → get_or (lowered q top v w) a 0 ≡ min (f a - least_to (pred q) f) top
unfolding lowered
lowered_is q top v w f a h e =
    at_tabled q (λ a. min (rests v w a - least_to (pred q) (rests v w)) top) a h
    ∙ ap₂ (λ x y. min (x - y) top) (e a h) (least_same (pred q) (rests v w) f (λ b l. e b (omega arith)))

low_below : (q : ℕ) (f : ℕ → ℕ) (top : ℕ) → ((a : ℕ) → a < q → f a ≤ top) → Low top (tabled q f)
low_below q f top h a = go (cases_lt a q)
  where
    go : (a < q) ⊎ (q ≤ a) → get_or (tabled q f) a 0 ≤ top
    go (inl l) = omega (arith, at_tabled q f a l, h a l)
    go (inr l) = let s : length (tabled q f) ≤ a = omega (arith, length_tabled q f) in omega (arith, get_or_past (tabled q f) a 0 s)

-- areas whose blocks from s on are the same are the same from there on
pub past_same : (q s : ℕ) (xs ys : List ℕ) → 1 ≤ q → length xs ≡ length ys → ((j : ℕ) → s ≤ j → block q j xs ≡ block q j ys) → drop (s * q) xs ≡ drop (s * q) ys
past_same q s xs ys one long same = ext_get_or 0 (drop (s * q) xs) (drop (s * q) ys) (simp length-drop (ap (λ n. n - s * q) long)) each
  where
    each : (i : ℕ) → i < length (drop (s * q) xs) → get_or (drop (s * q) xs) i 0 ≡ get_or (drop (s * q) ys) i 0
    each i h =
        let m : i % q < q = mod-lt i (omega arith) in
        let e : s * q + i ≡ (s + i / q) * q + i % q = let d = div-add-mod' i q in let t = add-mul s (i / q) q in omega arith in
        let j : ℕ = s + i / q in
        get_or-drop (s * q) xs i 0 ∙ ap (λ n. get_or xs n 0) e ∙ sym (word_at q j (i % q) xs m)
        ∙ ap (λ v. get_or v (i % q) 0) (same j (omega arith))
        ∙ word_at q j (i % q) ys m ∙ ap (λ n. get_or ys n 0) (sym e) ∙ sym (get_or-drop (s * q) ys i 0)

module _ (F : Tables) (L : Lawful F) (K : View) (orders : F.order ≡ K.header.order) (a0 : List ℕ) (R : Ready K a0) where
  abbrev q : ℕ
  q = K.header.order

  abbrev N : ℕ
  N = K.header.columns

  abbrev W : ℕ
  W = width K

  abbrev C : ℕ
  C = K.header.ceiling

  abbrev channel : ℕ → ℕ → ℕ
  channel = (parts_of K a0).channel

  abbrev costs : ℕ → ℕ → ℕ
  costs = (parts_of K a0).to_check

  pub A : Facts K
  A = facts K R.admitted

  -- ---- the area before the round
  pub room_blocks : N + N + W + W + 36 ≤ blocks q a0
  room_blocks = let z = A.order_low in let r = R.room in let d = le-div (2 * N + 2 * W + 36) (length a0) q (omega arith) r in omega arith

  -- a block is the table of its words
  block_tabled : (j : ℕ) → j < N + N + W + W + 36 → block q j a0 ≡ tabled q (λ a. get_or a0 (j * q + a) 0)
  unfolding block
  block_tabled j h = tabled_block q j a0 (room q j (length a0) (let r = room_blocks in omega arith))

  -- the vectors of the edges, as blocks and as costs
  cost_block : (e : ℕ) → e < W → block q (N + N + e) a0 ≡ tabled q (costs e)
  unfolding parts_of
  cost_block e h = block_tabled (N + N + e) (omega arith) ∙ ap (λ n. tabled q (λ a. get_or a0 (n * q + a) 0)) (let z : N + N + e ≡ 2 * N + e = omega arith in z)

  pub low_costs : (e : ℕ) → e < W → Low C (block q (N + N + e) a0)
  low_costs e h = subst (Low C) (sym (cost_block e h)) (low_below q (costs e) C (λ a l. R.to_check e a h l))

  channel_block : (c : ℕ) → c < N → block q c a0 ≡ tabled q (channel c)
  unfolding parts_of
  channel_block c h = block_tabled c (omega arith)

  pub low_channel : (c : ℕ) → c < N → Low C (block q c a0)
  low_channel c h = subst (Low C) (sym (channel_block c h)) (low_below q (channel c) C (λ a l. R.channel c a h l))

  -- ---- rows
  same_start : (r : ℕ) → starts K.edges r ≡ first_of K r
  unfolding starts first_of
  same_start r = refl

  pub wide : (r : ℕ) → r < K.header.rows → (starts K.edges r + 2 ≤ starts K.edges (suc r)) × (starts K.edges (suc r) ≤ starts K.edges r + 16)
  wide r h = let w = row_two K A r h in let a = same_start r in let b = same_start (suc r) in (omega (arith, w.0, w.3), omega (arith, w.1, w.3))

  same_last : (r : ℕ) → last_of K.edges r ≡ tree.last_of K r
  same_last r = ap₂ (λ x y. x - y - 1) (same_start (suc r)) (same_start r)

  same_vectors : (r : ℕ) → r < K.header.rows → (i : ℕ) → i ≤ last_of K.edges r → vectors_of F K.edges (N + N) a0 r i ≡ tree.vectors_of F K costs r i
  same_vectors r h i l =
      let w = row_two K A r h in
      let e = same_last r in
      let s = same_start r in
      ap₂ (gathered F) (ap (λ f. code_in (inverse_of F (coefficient_of K (f + i)))) s)
      (ap₂ (λ n f. block n (N + N + f + i) a0) orders s
      ∙ ap (λ n. block q n a0) (let z : N + N + first_of K r + i ≡ N + N + (first_of K r + i) = omega arith in z)
      ∙ cost_block (first_of K r + i) (omega (arith, w.2)))

  same_read : (r : ℕ) → r < K.header.rows → (i : ℕ) → i ≤ last_of K.edges r → read_of F K.edges (N + N) a0 r i ≡ tree.read_of F K costs r i
  unfolding read_of tree.read_of
  same_read r h i l =
      let w = row_two K A r h in
      let e = same_last r in
      ap₂ (gathered F) (ap (λ f. code_in (opposite_of F (coefficient_of K (f + i)))) (same_start r))
      (all_same (λ a b c d. 0) F C (last_of K.edges r) (omega (arith, w.0)) (vectors_of F K.edges (N + N) a0 r) (tree.vectors_of F K costs r) (same_vectors r h) i l
      ∙ ap (λ n. around F (tree.vectors_of F K costs r) n i) e)

  pub same_pairs : (pairs : PairsRule) (m : ℕ) → m ≤ K.header.rows → rows_pairs pairs F C K.edges (N + N) a0 m ≡ tree.rows_pairs pairs F K costs m
  unfolding rows_pairs tree.rows_pairs
  same_pairs pairs zero h = refl
  same_pairs pairs (suc m) h =
      let w = row_two K A m (omega arith) in
      let e = same_last m in
      ap₂ ◌+◌ (same_pairs pairs m (omega arith))
      (row_pairs_same pairs F C (last_of K.edges m) (omega (arith, w.0)) (vectors_of F K.edges (N + N) a0 m) (tree.vectors_of F K costs m) (same_vectors m (omega arith))
      ∙ ap (tree.row_pairs pairs F C (tree.vectors_of F K costs m)) e)

  module _ (a1 : List ℕ) (S1 : RowsTo F K.edges (N + N) (N + N + W) (N + N + W + W) K.header.rows a0 a1) where
    -- the from-check costs after the rows
    from_one : (x : ℕ) → x < W → block q (N + N + W + x) a1 ≡ tabled q (from_check_cost F K costs x)
    from_one x h =
        let r : ℕ = row_of K x in
        let below = A.row_below x h in
        let w = row_two K A r below in
        let u = row_in K A x h in
        let s = same_start r in
        let i : ℕ = x - first_of K r in
        let back : first_of K r + i ≡ x = omega (arith, u.0) in
        let at : i ≤ last_of K.edges r = omega (arith, same_last r, u.1, w.3) in
        ap (λ n. block n (N + N + W + x) a1) (sym orders)
        ∙ S1.there x h below
        ∙ ap (λ f. read_of F K.edges (N + N) a0 r (x - f)) s
        ∙ same_read r below i at
        ∙ ((rows_theorem F L).1 K R.admitted orders costs R.to_check).reads r i below (omega (arith, same_last r))
        ∙ ap (λ n. tabled q (from_check_cost F K costs n)) back

    kept_one : (j : ℕ) → (j < N + N + W) ⊎ (N + N + W + W + 36 ≤ j) → block q j a1 ≡ block q j a0
    kept_one j (inl h) = ap (λ n. block n j a1) (sym orders) ∙ S1.kept j (inl h) (inl (omega arith)) ∙ ap (λ n. block n j a0) orders
    kept_one j (inr h) = ap (λ n. block n j a1) (sym orders) ∙ S1.kept j (inr (omega arith)) (inr h) ∙ ap (λ n. block n j a0) orders

    low_from : (x : ℕ) → x < W → Low C (tabled q (from_check_cost F K costs x))
    low_from x h = low_below q (from_check_cost F K costs x) C (λ a l. from_low F K (laws_of F L q orders) A costs R.to_check x a h l)

    -- ---- columns
    module _ (a2 : List ℕ) (S2 : Filled q N N (λ c. block q c a1) a1 a2) where
      begun : (c : ℕ) → c < N → block q (N + c) a2 ≡ block q c a0
      begun c h = S2.there c h ∙ kept_one c (inl (omega arith))

      pub low_begun : (c : ℕ) → c < N → Low C (block q (N + c) a2)
      low_begun c h = subst (Low C) (sym (begun c h)) (low_channel c h)

      from_two : (x : ℕ) → x < W → block q (N + N + W + x) a2 ≡ tabled q (from_check_cost F K costs x)
      from_two x h = S2.kept (N + N + W + x) (inr (omega arith)) ∙ from_one x h

      pub low_two : (x : ℕ) → x < W → Low C (block q (N + N + W + x) a2)
      low_two x h = subst (Low C) (sym (from_two x h)) (low_from x h)

      module _ (a3 : List ℕ) (S3 : SummedTo q N N (N + N + W) (height K) K.edges K.entries a2 a3) where
        from_three : (x : ℕ) → x < W → block q (N + N + W + x) a3 ≡ tabled q (from_check_cost F K costs x)
        from_three x h = S3.kept (N + N + W + x) (inr (omega arith)) ∙ from_two x h

        from_word : (x a : ℕ) → x < W → a < q → word q a3 (N + N + W + x) a ≡ from_check_cost F K costs x a
        from_word x a h l = ap (λ v. get_or v a 0) (from_three x h) ∙ at_tabled q (from_check_cost F K costs x) a l

        -- an entry's edge, found in either way
        same_edge : (k : ℕ) → k < height K → edge_of K.edges K.entries k ≡ entries.edge_of K k
        same_edge k h =
            let w = entry_edge K R.admitted k h in
            let P = position_stands K.edges (entry_at K.entries k).row (entry_at K.entries k).column (entries.edge_of K k, record { within = w.0; row = w.1; column = w.2 }) in
            only_edge K R.admitted k (edge_of K.edges K.entries k) h P.within P.row P.column

        sum_word : (c a : ℕ) → c < N → a < q → word q a3 (N + c) a ≡ column_sum K channel (from_check_cost F K costs) (at_column c) a
        unfolding column_sum
        sum_word c a h l =
            S3.there c a h l
            ∙ ap₂ ◌+◌
            (ap (λ v. get_or v a 0) (begun c h ∙ channel_block c h) ∙ at_tabled q (channel c) a l)
            (over_same ◌+◌ 0 (height K) (λ k. eqb (entry_at K.entries k).column c) (λ k. word q a2 (N + N + W + edge_of K.edges K.entries k) a) (λ k. from_check_cost F K costs (entries.edge_of K k) a)
            (λ k j t. let e = same_edge k j in let w = entry_edge K R.admitted k j in
            ap (λ n. word q a2 (N + N + W + n) a) e ∙ ap (λ v. get_or v a 0) (from_two (entries.edge_of K k) w.0) ∙ at_tabled q (from_check_cost F K costs (entries.edge_of K k)) a l)
            ∙ sym (column_total K R.admitted c (λ e. from_check_cost F K costs e a)))

        -- an edge's cost is part of its column's sum
        less_word : (x a : ℕ) → x < W → a < q → word q a3 (N + column_of K x) a - word q a3 (N + N + W + x) a ≡ column_sum K channel (from_check_cost F K costs) (at_edge x) a
        less_word x a h l =
            let e = edge_sum F K (laws_of F L q orders) A costs R.to_check channel R.channel x a h in
            omega (arith, from_word x a h l, sum_word (column_of K x) a (A.column_below x h) l)

        module _ (pairs : PairsRule) (a4 a5 : List ℕ) (long : length a5 ≡ length a0)
            (S4 : Filled q (N + N) W (λ x. lowered q C (block q (N + column_at K.edges x) a3) (block q (N + N + W + x) a3)) a3 a4)
            (S5 : Filled q N N (λ c. lowered q 65535 (block q (N + c) a4) (replicate q 0)) a4 a5) where
          to_word : (x a : ℕ) → x < W → a < q → word q a5 (N + N + x) a ≡ round_to F K channel costs x a
          unfolding round_to less_least lower
          to_word x a h l =
              ap (λ v. get_or v a 0) (S5.kept (N + N + x) (inr (omega arith)) ∙ S4.there x h)
              ∙ lowered_is q C (block q (N + column_of K x) a3) (block q (N + N + W + x) a3) (column_sum K channel (from_check_cost F K costs) (at_edge x)) a l (λ b k. less_word x b h k)

          distance_word : (c a : ℕ) → c < N → a < q → word q a5 (N + c) a ≡ round_distance F K channel costs c a
          unfolding round_distance less_least
          distance_word c a h l =
              ap (λ v. get_or v a 0) (S5.there c h)
              ∙ lowered_is q 65535 (block q (N + c) a4) (replicate q 0) (column_sum K channel (from_check_cost F K costs) (at_column c)) a l less
              ∙ (let u = column_low F K (laws_of F L q orders) A costs R.to_check channel R.channel c a h l in
              let s : ℕ = column_sum K channel (from_check_cost F K costs) (at_column c) a in
              let m : ℕ = least_to (pred q) (column_sum K channel (from_check_cost F K costs) (at_column c)) in
              let z : min (s - m) 65535 ≡ s - m = omega arith in z)
            where
              less : (b : ℕ) → b < q → rests (block q (N + c) a4) (replicate q 0) b ≡ column_sum K channel (from_check_cost F K costs) (at_column c) b
              less b k =
                  let s : word q a4 (N + c) b ≡ column_sum K channel (from_check_cost F K costs) (at_column c) b = ap (λ v. get_or v b 0) (S4.kept (N + c) (inl (omega arith))) ∙ sum_word c b h k in
                  let z : get_or (replicate {A = ℕ} q 0) b 0 ≡ 0 = get_or-replicate q b 0 0 k in
                  omega arith

          channel_kept : (c : ℕ) → c < N → block q c a5 ≡ block q c a0
          channel_kept c h = S5.kept c (inl h) ∙ S4.kept c (inl (omega arith)) ∙ S3.kept c (inl h) ∙ S2.kept c (inl h) ∙ kept_one c (inl (omega arith))

          from_kept : (x a : ℕ) → x < W → a < q → word q a5 (N + N + W + x) a ≡ from_check_cost F K costs x a
          from_kept x a h l = ap (λ v. get_or v a 0) (S5.kept (N + N + W + x) (inr (omega arith)) ∙ S4.kept (N + N + W + x) (inr (omega arith))) ∙ from_word x a h l

          surplus_kept : (j : ℕ) → N + N + W + W + 36 ≤ j → block q j a5 ≡ block q j a0
          surplus_kept j h = S5.kept j (inr (omega arith)) ∙ S4.kept j (inr (omega arith)) ∙ S3.kept j (inr (omega arith)) ∙ S2.kept j (inr (omega arith)) ∙ kept_one j (inr h)

          at : (j a : ℕ) → a < q → get_or a5 (j * q + a) 0 ≡ word q a5 j a
          at j a h = sym (word_at q j a a5 h)

          pub moved : Moved F K pairs a0 a5
          unfolding parts_of next_parts
          moved = record {
            held = held_is K a5 (next_parts F K (rounds pairs) (parts_of K a0)) (let z = A.order_low in omega arith) (let r = R.room in let z = A.order_low in held_room r long)
                (record {
                  channel = λ c a h l. at c a l ∙ ap (λ v. get_or v a 0) (channel_kept c h) ∙ word_at q c a a0 l;
                  distances = λ c a h l. at (N + c) a l ∙ distance_word c a h l;
                  to_check = λ x a h l. ap (λ n. get_or a5 (n * q + a) 0) (let z : 2 * N + x ≡ N + N + x = omega arith in z) ∙ at (N + N + x) a l ∙ to_word x a h l;
                  from_check = λ x a h l. ap (λ n. get_or a5 (n * q + a) 0) (let z : 2 * N + W + x ≡ N + N + W + x = omega arith in z) ∙ at (N + N + W + x) a l ∙ from_kept x a h l;
                });
            surplus = past_same q (2 * N + 2 * W + 36) a5 a0 (let z = A.order_low in omega arith) long (λ j h. surplus_kept j (omega arith));
          }
            where
              held_room : area_words K ≤ length a0 → length a5 ≡ length a0 → held_words K ≤ length a5
              held_room r e = let m = mul-le (2 * N + 2 * W) q (2 * N + 2 * W + 36) q (omega arith) (omega arith) in omega arith
