-- Blocks added to the blocks of their columns. Assumes nothing.
use Rattle.std.proofs.Common.{◌≡◌, ℕ, zero, suc, pred, ◌+◌, ◌-◌, ◌*◌, ◌<◌, ◌≤◌, min, Bool, true, false, cond, eqb, ◌⊎◌, List, length, get_or, refl, ap, ap₂, ◌∙◌, subst, inl, inr, add-one, arith}
use Rattle.std.proofs.lemmas.Bool.{cases_eq, eq-eqb, ne_eqb, cond_both}
use Rattle.tree.specs.Over.{over, total, count, least_to}
use Rattle.joiner.specs.Costs.{Low}
use Rattle.frame.specs.Blocks.{block, blocks, put, Wrote}
use Rattle.tree.specs.Rows.{tabled}
use Rattle.tree.proofs.Rows.{tabled_same, length_tabled, at_tabled}
use Rattle.frame.specs.Words.{store_at}
use Rattle.frame.specs.Columns.{word, entry_at, edge_of, added, rests, lowered, SummedTo}
use Rattle.code.specs.declared.table.Edge.{Edge}
use Rattle.code.specs.declared.table.Entry.{Entry}
use Rattle.frame.proofs.Turns.{wrote}

pub length_added : (q : ℕ) (v w : List ℕ) → length (added q v w) ≡ q
unfolding added
length_added q v w = length_tabled q (λ a. get_or v a 0 + get_or w a 0)

pub at_added : (q : ℕ) (v w : List ℕ) (a : ℕ) → a < q → get_or (added q v w) a 0 ≡ get_or v a 0 + get_or w a 0
unfolding added
at_added q v w a h = at_tabled q (λ a. get_or v a 0 + get_or w a 0) a h

pub length_lowered : (q top : ℕ) (v w : List ℕ) → length (lowered q top v w) ≡ q
unfolding lowered
length_lowered q top v w = length_tabled q (λ a. min (rests v w a - least_to (pred q) (rests v w)) top)

pub least_same : (n : ℕ) (f g : ℕ → ℕ) → ((b : ℕ) → b ≤ n → f b ≡ g b) → least_to n f ≡ least_to n g
unfolding least_to
least_same zero f g h = h 0 (omega arith)
least_same (suc n) f g h = ap₂ min (least_same n f g (λ b l. h b (omega arith))) (h (suc n) (omega arith))

-- what is left of v without w, less the least and lowered
pub lowered_from : (n top : ℕ) (v w out : List ℕ) → 1 ≤ n → length out ≡ n → ((a : ℕ) → a < n → get_or out a 0 ≡ rests v w a) → tabled (length out) (store_at out top) ≡ lowered n top v w
unfolding lowered
lowered_from n top v w out one l e =
    ap (λ k. tabled k (store_at out top)) l
    ∙ tabled_same n (store_at out top) (λ a. min (rests v w a - least_to (pred n) (rests v w)) top)
    (λ a h. ap₂ (λ x y. min (x - y) top) (e a h) (ap (λ k. least_to (pred k) (λ b. get_or out b 0)) l ∙ least_same (pred n) _ (rests v w) (λ b k. e b (omega arith))))

-- ---- totals
pub total_yes : (n : ℕ) (test : ℕ → Bool) (f : ℕ → ℕ) → test n ≡ true → total (n + 1) test f ≡ f n + total n test f
unfolding over
total_yes n test f e = rw (add-one n, e)

pub total_no : (n : ℕ) (test : ℕ → Bool) (f : ℕ → ℕ) → test n ≡ false → total (n + 1) test f ≡ total n test f
unfolding over
total_no n test f e = rw (add-one n, e)

pub total_low : (n : ℕ) (test : ℕ → Bool) (f : ℕ → ℕ) → ((x : ℕ) → x < n → f x ≤ 1023) → total n test f ≤ 1023 * count n test
unfolding over
total_low zero test f h = omega arith
total_low (suc n) test f h = go (total_low n test f (λ x l. h x (omega arith))) (test n)
  where
    go : total n test f ≤ 1023 * count n test → (b : Bool) → cond b (f n + total n test f) (total n test f) ≤ 1023 * cond b (1 + count n test) (count n test)
    go ih true = omega (arith, h n (omega arith))
    go ih false = ih

pub count_up : (m n : ℕ) (test : ℕ → Bool) → count n test ≤ count (n + m) test
unfolding over
count_up zero n test = let z : n ≡ n + 0 = omega arith in subst (λ x. count n test ≤ count x test) z (omega arith)
count_up (suc m) n test =
    let z : suc (n + m) ≡ n + suc m = omega arith in
    let ih = count_up m n test in
    subst (λ x. count n test ≤ count x test) z (cond_both (test (n + m)) (1 + count (n + m) test) (count (n + m) test) (λ x. count n test ≤ x) (λ e. omega arith) (λ e. ih))

module _ (q columns N from : ℕ) (edges : List Edge) (entries : List Entry) (before : List ℕ) where
  pub summed_none : SummedTo q columns N from 0 edges entries before before
  unfolding over
  summed_none = record { there = λ c a h l. omega arith; kept = λ j h. refl }

  abbrev column_of : ℕ → ℕ
  column_of x = (entry_at entries x).column

  module _ (k e : ℕ) (is : e ≡ edge_of edges entries k) (area : List ℕ) (B : SummedTo q columns N from k edges entries before area) (apart : columns + N ≤ from) where
    -- what the next entry adds fits
    pub summed_fits : (top : ℕ) → top ≤ 1023 → (K W : ℕ) → k < K → e < W → ((x : ℕ) → x < K → edge_of edges entries x < W) → column_of k < N → ((c : ℕ) → c < N → count K (λ x. eqb (column_of x) c) ≤ 8) →
        ((c : ℕ) → c < N → Low top (block q (columns + c) before)) → ((x : ℕ) → x < W → Low top (block q (from + x) before)) →
        (a : ℕ) → a < q → word q area (columns + column_of k) a + word q area (from + e) a < 65536
    summed_fits top ht K W hk he hs hc few lowc lowe a l =
        let c : ℕ = column_of k in
        let test : ℕ → Bool = λ x. eqb (column_of x) c in
        let f : ℕ → ℕ = λ x. word q before (from + edge_of edges entries x) a in
        let z : k + (K - k) ≡ K = omega arith in
        let up : count k test ≤ count K test = subst (λ n. count k test ≤ count n test) z (count_up (K - k) k test) in
        let tl : total k test f ≤ 1023 * count k test = total_low k test f (λ x j. omega (arith, lowe (edge_of edges entries x) (hs x (omega arith)) a)) in
        let sum : word q area (columns + c) a ≡ word q before (columns + c) a + total k test f = B.there c a hc l in
        let own : word q area (from + e) a ≡ word q before (from + e) a = ap (λ v. get_or v a 0) (B.kept (from + e) (inr (omega arith))) in
        omega (arith, few c hc, lowc c hc a, lowe e he a)

    pub summed_more : (after : List ℕ) → column_of k < N → columns + column_of k < blocks q area →
        after ≡ put q (columns + column_of k) (added q (block q (columns + column_of k) area) (block q (from + e) area)) area →
        SummedTo q columns N from (k + 1) edges entries before after
    summed_more after hc hk eq = record { there = there; kept = kept }
      where
        W : Wrote q (columns + column_of k) (added q (block q (columns + column_of k) area) (block q (from + e) area)) area after
        W = wrote q (columns + column_of k) _ area after (length_added q _ _) hk eq

        f : ℕ → ℕ → ℕ
        f a x = word q before (from + edge_of edges entries x) a

        there : (c a : ℕ) → c < N → a < q → word q after (columns + c) a ≡ word q before (columns + c) a + total (k + 1) (λ x. eqb (column_of x) c) (λ x. word q before (from + edge_of edges entries x) a)
        there c a h l = go (cases_eq (column_of k) c)
          where
            old : word q area (columns + c) a ≡ word q before (columns + c) a + total k (λ x. eqb (column_of x) c) (λ x. word q before (from + edge_of edges entries x) a)
            old = B.there c a h l

            go : (column_of k ≡ c) ⊎ (column_of k ≡ c → ⊥) → word q after (columns + c) a ≡ word q before (columns + c) a + total (k + 1) (λ x. eqb (column_of x) c) (λ x. word q before (from + edge_of edges entries x) a)
            go (inl s) =
                let new : word q after (columns + column_of k) a ≡ word q area (columns + column_of k) a + word q area (from + e) a = ap (λ v. get_or v a 0) W.here ∙ at_added q _ _ a l in
                let new' : word q after (columns + c) a ≡ word q area (columns + c) a + word q area (from + e) a = subst (λ z. word q after (columns + z) a ≡ word q area (columns + z) a + word q area (from + e) a) s new in
                let own : word q area (from + e) a ≡ word q before (from + e) a = ap (λ v. get_or v a 0) (B.kept (from + e) (inr (omega arith))) in
                let same : word q before (from + e) a ≡ word q before (from + edge_of edges entries k) a = ap (λ n. word q before (from + n) a) is in
                let t = total_yes k (λ x. eqb (column_of x) c) (λ x. word q before (from + edge_of edges entries x) a) (eq-eqb (column_of k) c s) in
                omega arith
            go (inr n) =
                let same : word q after (columns + c) a ≡ word q area (columns + c) a = ap (λ v. get_or v a 0) (W.other (columns + c) (λ z. n (omega arith))) in
                let t = total_no k (λ x. eqb (column_of x) c) (λ x. word q before (from + edge_of edges entries x) a) (ne_eqb (column_of k) c n) in
                omega arith

        kept : (j : ℕ) → (j < columns) ⊎ (columns + N ≤ j) → block q j after ≡ block q j before
        kept j (inl h) = W.other j (λ z. absurd (let y : ⊥ = omega arith in y)) ∙ B.kept j (inl h)
        kept j (inr h) = W.other j (λ z. absurd (let y : ⊥ = omega arith in y)) ∙ B.kept j (inr h)
