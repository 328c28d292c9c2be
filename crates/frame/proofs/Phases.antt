-- A row's five steps one after another. Assumes nothing.
use Rattle.std.proofs.Common.{◌≡◌, ℕ, suc, ◌+◌, ◌-◌, ◌<◌, ◌≤◌, ◌≢◌, ◌⊎◌, List, sym, ap, ◌∙◌, subst, ap₂, inl, inr, arith}
use Rattle.field.specs.Tables.{Tables, Lawful}
use Rattle.frame.specs.Vectors.{minus, over_one}
use Rattle.tree.specs.Rows.{gathered, forth, back, forth_pairs, back_pairs, around_at, around_pairs, row_pairs}
use Rattle.joiner.specs.Costs.{Low}
use Rattle.frame.specs.Blocks.{block, from_on, Wrote, Filled}
use Rattle.frame.specs.Row.{read_at, row_vectors, RowDone}
use Rattle.frame.proofs.Vectors.{low_gathered}
use Rattle.frame.proofs.Turns.{around_same, pairs_same, forth_same, back_same, forth_pairs_same, back_pairs_same, low_forth, low_back}

module _ (pairs : ℕ → ℕ → List ℕ → List ℕ → ℕ) (t : Tables) (L : Lawful t) (top : ℕ) (h : ℕ → ℕ) (to from s d last : ℕ) (a0 : List ℕ)
    (count : d ≡ suc last) (two : 1 ≤ last) (sixteen : last < 16) (apart : to + d ≤ s) (clear : from + d ≤ s)
    (low : (i : ℕ) → i < d → Low top (block t.order (to + i) a0)) where
  abbrev P : ℕ → List ℕ
  P = row_vectors t h to a0

  pub low_P : (i : ℕ) → i ≤ last → Low top (row_vectors t h to a0 i)
  low_P i l = low_gathered t (over_one t (h i)) (block t.order (to + i) a0) top (low i (omega arith))

  module _ (a1 a2 : List ℕ) (k : ℕ) (S : Filled t.order s d (row_vectors t h to a0) a0 a1) (W : Wrote t.order (s + 16) (gathered t k (block t.order (to + last) a1)) a1 a2) (ek : k ≡ over_one t (h last)) where
    pub spread_P : (i : ℕ) → i ≤ last → block t.order (s + i) a2 ≡ row_vectors t h to a0 i
    spread_P i l = W.other (s + i) (let ne : s + i ≢ s + 16 = omega arith in ne) ∙ S.there i (omega arith)

    pub begun : block t.order (s + 16) a2 ≡ block t.order (s + last) a2
    begun = W.here ∙ ap₂ (gathered t) ek (S.kept (to + last) (inl (omega arith))) ∙ sym (spread_P last (omega arith))

    pub low_spread : (i : ℕ) → i ≤ last → Low top (block t.order (s + i) a2)
    low_spread i l = subst (Low top) (sym (spread_P i l)) (low_P i l)

    module _ (a3 : List ℕ) (B : Filled t.order (s + 16) last (back t (from_on t.order s a2) last) a2 a3) where
      pub kept_P : (i : ℕ) → i ≤ last → block t.order (s + i) a3 ≡ row_vectors t h to a0 i
      kept_P i l = B.kept (s + i) (inl (omega arith)) ∙ spread_P i l

      pub low_kept : (i : ℕ) → i ≤ last → Low top (block t.order (s + i) a3)
      low_kept i l = subst (Low top) (sym (kept_P i l)) (low_P i l)

      module _ (a4 : List ℕ) (G : Filled t.order s last (forth t (from_on t.order s a3)) a3 a4) where
        pub forths : (i : ℕ) → i < last → block t.order (s + i) a4 ≡ forth t (row_vectors t h to a0) i
        forths i l = G.there i l ∙ forth_same pairs t top last (from_on t.order s a3) P kept_P i (omega arith)

        pub backs : (m : ℕ) → m < last → block t.order (s + 16 + m) a4 ≡ back t (row_vectors t h to a0) last m
        backs m l = G.kept (s + 16 + m) (inr (omega arith)) ∙ B.there m l ∙ back_same pairs t top last (from_on t.order s a2) P spread_P m

        pub low_around : (x : ℕ) → x + 1 < d → Low top (block t.order (s + x) a4) × Low top (block t.order (s + 16 + x) a4)
        low_around x l = (
          subst (Low top) (sym (forths x (omega arith))) (low_forth t L top P last low_P x (omega arith)),
          subst (Low top) (sym (backs x (omega arith))) (low_back t L top P last low_P x),
        )

        module _ (a5 : List ℕ) (A : Filled t.order from d (read_at t h (around_at t (from_on t.order s a4) (from_on t.order (s + 16) a4) last)) a4 a5) where
          pub row_done : RowDone t h to from s last a0 a5
          row_done = record {
            there = λ x l. A.there x (omega arith) ∙ ap (gathered t (minus t (h x))) (around_same pairs t top last (from_on t.order s a4) (forth t P) (from_on t.order (s + 16) a4) (back t P last) x two l forths backs);
            kept = λ j o i. A.kept j (out j o) ∙ G.kept j (scratch_forth j i) ∙ B.kept j (scratch_back j i) ∙ W.other j (off j i) ∙ S.kept j (scratch_spread j i);
          }
            where
              out : (j : ℕ) → (j < from) ⊎ (from + last < j) → (j < from) ⊎ (from + d ≤ j)
              out j (inl l) = inl l
              out j (inr l) = inr (omega arith)

              scratch_forth : (j : ℕ) → (j < s) ⊎ (s + 36 ≤ j) → (j < s) ⊎ (s + last ≤ j)
              scratch_forth j (inl l) = inl l
              scratch_forth j (inr l) = inr (omega arith)

              scratch_spread : (j : ℕ) → (j < s) ⊎ (s + 36 ≤ j) → (j < s) ⊎ (s + d ≤ j)
              scratch_spread j (inl l) = inl l
              scratch_spread j (inr l) = inr (omega arith)

              scratch_back : (j : ℕ) → (j < s) ⊎ (s + 36 ≤ j) → (j < s + 16) ⊎ (s + 16 + last ≤ j)
              scratch_back j (inl l) = inl (omega arith)
              scratch_back j (inr l) = inr (omega arith)

              off : (j : ℕ) → (j < s) ⊎ (s + 36 ≤ j) → j ≢ s + 16
              off j (inl l) = let ne : j ≢ s + 16 = omega arith in ne
              off j (inr l) = let ne : j ≢ s + 16 = omega arith in ne

          pub row_pairs_is : (x y z : ℕ) → x ≡ back_pairs pairs t top (from_on t.order s a2) last (last - 1) → y ≡ forth_pairs pairs t top (from_on t.order s a3) (last - 1) →
              z ≡ around_pairs pairs t top (from_on t.order s a4) (from_on t.order (s + 16) a4) last d → x + y + z ≡ row_pairs pairs t top (row_vectors t h to a0) last
          unfolding row_pairs
          row_pairs_is x y z ex ey ez =
              ap₂ ◌+◌ (ap₂ ◌+◌ (ex ∙ back_pairs_same pairs t top last (from_on t.order s a2) P spread_P (last - 1)) (ey ∙ forth_pairs_same pairs t top last (from_on t.order s a3) P kept_P (last - 1) (omega arith)))
              (ez ∙ pairs_same pairs t top last (from_on t.order s a4) (forth t P) (from_on t.order (s + 16) a4) (back t P last) two forths backs d (omega arith) ∙ ap (around_pairs pairs t top (forth t P) (back t P last) last) count)
