-- One turn of each loop over a row's vectors. Assumes nothing.
use Rattle.std.proofs.Common.{◌≡◌, ℕ, zero, suc, ◌+◌, ◌-◌, ◌*◌, ◌/◌, ◌<◌, ◌≤◌, cond, eqb, ◌≢◌, ◌⊎◌, List, ◌++◌, length, take, drop, sym, refl, ap, ◌∙◌, subst, ap₂, inl, inr, add-one, arith}
use Rattle.std.proofs.lemmas.Bool.{cases_lt, eq-eqb, ne_eqb, cond_both}
use Rattle.std.proofs.Math.Nat.{suc-mul, add-mul}
use Rattle.std.proofs.lemmas.Nat.{mul-le, div-add-mod'}
use Rattle.field.specs.Tables.{Tables, Lawful}
use Rattle.tree.specs.Rows.{gathered, forth, back, forth_pairs, back_pairs, around_at, around_pair, around_pairs}
use Rattle.joiner.specs.Costs.{Low}
use Rattle.frame.specs.Blocks.{block, blocks, put, Wrote, Filled}
use Rattle.frame.specs.Joins.{turned, stepped}
use Rattle.frame.proofs.Written.{room, block_put_same, block_put_other, copied_there, copied_under, copied_over}
use Rattle.tree.specs.Rows.{joined}
use Rattle.frame.proofs.Joined.{length_joined, low_joined}
use Rattle.frame.proofs.Vectors.{length_gathered}

-- ---- blocks written one after another
pub wrote : (q k : ℕ) (v before after : List ℕ) → length v ≡ q → k < blocks q before → after ≡ put q k v before → Wrote q k v before after
wrote q k v before after long h e =
    let r = room q k (length before) h in
    record {
      here = ap (block q k) e ∙ block_put_same q k v before long r;
      other = λ j ne. ap (block q j) e ∙ block_put_other q k v before long r j ne;
    }

pub stepped_wrote : (t : Tables) (i j k : ℕ) (before after : List ℕ) → k < blocks t.order before → after ≡ stepped t i j k before →
    Wrote t.order k (joined t (block t.order i before) (block t.order j before)) before after
stepped_wrote t i j k before after h e = wrote t.order k _ before after (length_joined t _ _) h e

pub turned_wrote : (t : Tables) (k i j : ℕ) (before after : List ℕ) → j < blocks t.order before → after ≡ turned t k i j before →
    Wrote t.order j (gathered t k (block t.order i before)) before after
turned_wrote t k i j before after h e = wrote t.order j _ before after (length_gathered t k _) h e

pub wrote_again : (q k : ℕ) (v w a b c : List ℕ) → Wrote q k v a b → Wrote q k w b c → Wrote q k w a c
wrote_again q k v w a b c A B = record { here = B.here; other = λ j ne. B.other j ne ∙ A.other j ne }

pub same_blocks : (q : ℕ) (before after : List ℕ) → length after ≡ length before → (n : ℕ) → n ≤ blocks q before → n ≤ blocks q after
same_blocks q before after e n h = subst (λ x. n ≤ x / q) (sym e) h

pub front_fits : (q n size : ℕ) → n + n ≤ size / q → n * q + n * q ≤ size
front_fits q n size h = omega (arith, add-mul n n q, mul-le (n + n) q (size / q) q h (omega arith), div-add-mod' size q)

-- the first n blocks, copied to the n after them
pub filled_front : (q n : ℕ) (area after : List ℕ) → n + n ≤ blocks q area → after ≡ take (n * q) area ++ (take (n * q) area ++ drop (n * q + n * q) area) →
    Filled q n n (λ c. block q c area) area after
unfolding block
filled_front q n area after h e = record { there = there; kept = kept }
  where
    fits : n * q + n * q ≤ length area
    fits = front_fits q n (length area) h

    there : (x : ℕ) → x < n → take q (drop ((n + x) * q) after) ≡ take q (drop (x * q) area)
    there x l =
        ap (λ a. take q (drop ((n + x) * q) a)) e ∙ ap (λ p. take q (drop p (take (n * q) area ++ (take (n * q) area ++ drop (n * q + n * q) area)))) (add-mul n x q)
        ∙ copied_there (x * q) (n * q) q area fits (omega (arith, suc-mul x q, mul-le (suc x) q n q l (omega arith)))

    kept : (j : ℕ) → (j < n) ⊎ (n + n ≤ j) → take q (drop (j * q) after) ≡ take q (drop (j * q) area)
    kept j (inl l) = ap (λ a. take q (drop (j * q) a)) e ∙ copied_under (j * q) (n * q) q area fits (omega (arith, suc-mul j q, mul-le (suc j) q n q l (omega arith)))
    kept j (inr l) = ap (λ a. take q (drop (j * q) a)) e ∙ copied_over (j * q) (n * q) q area fits (omega (arith, add-mul n n q, mul-le (n + n) q j q l (omega arith)))

module _ (q s : ℕ) (f : ℕ → List ℕ) (before : List ℕ) where
  pub filled_none : Filled q s 0 f before before
  filled_none = record { there = λ x h. absurd (omega arith); kept = λ j h. refl }

  pub filled_one : block q s before ≡ f 0 → Filled q s 1 f before before
  filled_one e = record {
    there = λ x h. let z : 0 ≡ x = omega arith in subst (λ y. block q (s + y) before ≡ f y) z (ap (λ y. block q y before) (let w : s + 0 ≡ s = omega arith in w) ∙ e);
    kept = λ j h. refl;
  }

  pub filled_more : (n k : ℕ) (v area after : List ℕ) → Filled q s n f before area → Wrote q k v area after → k ≡ s + n → v ≡ f n → Filled q s (n + 1) f before after
  filled_more n k v area after B W ek ev = record { there = there; kept = kept }
    where
      there : (x : ℕ) → x < n + 1 → block q (s + x) after ≡ f x
      there x l = go (cases_lt x n)
        where
          go : (x < n) ⊎ (n ≤ x) → block q (s + x) after ≡ f x
          go (inl g) = W.other (s + x) (let ne : s + x ≢ k = omega arith in ne) ∙ B.there x g
          go (inr g) = let z : n ≡ x = omega arith in subst (λ y. block q (s + y) after ≡ f y) z (ap (λ y. block q y after) (sym ek) ∙ W.here ∙ ev)

      kept : (x : ℕ) → (x < s) ⊎ (s + (n + 1) ≤ x) → block q x after ≡ block q x before
      kept x (inl l) = W.other x (let ne : x ≢ k = omega arith in ne) ∙ B.kept x (inl l)
      kept x (inr l) = W.other x (let ne : x ≢ k = omega arith in ne) ∙ B.kept x (inr (omega arith))

  -- blocks that stand and blocks that were kept, under other names
  pub at_there : (n i x : ℕ) (area : List ℕ) → Filled q s n f before area → i ≡ s + x → x < n → block q i area ≡ f x
  at_there n i x area B e h = ap (λ y. block q y area) e ∙ B.there x h

  pub at_kept : (n i j : ℕ) (area : List ℕ) → Filled q s n f before area → i ≡ j → (j < s) ⊎ (s + n ≤ j) → block q i area ≡ block q j before
  at_kept n i j area B e h = ap (λ y. block q y area) e ∙ B.kept j h

-- ---- no join exceeds the ceiling
module _ (t : Tables) (L : Lawful t) (top : ℕ) (P : ℕ → List ℕ) (last : ℕ) (low : (i : ℕ) → i ≤ last → Low top (P i)) where
  pub low_forth : (i : ℕ) → i ≤ last → Low top (forth t P i)
  unfolding forth
  low_forth zero h = low 0 h
  low_forth (suc i) h = low_joined t (forth t P i) (P (suc i)) L top (low_forth i (omega arith)) (low (suc i) h)

  pub low_back : (m : ℕ) → Low top (back t P last m)
  unfolding back
  low_back zero = low last (omega arith)
  low_back (suc m) = low_joined t (P (last - suc m)) (back t P last m) L top (low (last - suc m) (omega arith)) (low_back m)

-- ---- the next join
module _ (pairs : ℕ → ℕ → List ℕ → List ℕ → ℕ) (t : Tables) (top : ℕ) (P : ℕ → List ℕ) (last : ℕ) where
  pub next_forth : (i : ℕ) (l r : List ℕ) → l ≡ forth t P i → r ≡ P (suc i) → joined t l r ≡ forth t P (i + 1)
  unfolding forth
  next_forth i l r el er = ap₂ (joined t) el er ∙ ap (forth t P) (sym (add-one i))

  pub next_back : (m : ℕ) (l r : List ℕ) → l ≡ P (last - suc m) → r ≡ back t P last m → joined t l r ≡ back t P last (m + 1)
  unfolding back
  next_back m l r el er = ap₂ (joined t) el er ∙ ap (back t P last) (sym (add-one m))

  pub count_forth : (i n c : ℕ) (l r : List ℕ) → l ≡ forth t P i → r ≡ P (suc i) → n ≡ forth_pairs pairs t top P i → c ≡ pairs t.order top l r → n + c ≡ forth_pairs pairs t top P (i + 1)
  unfolding forth_pairs
  count_forth i n c l r el er en ec = ap₂ ◌+◌ en (ec ∙ ap₂ (pairs t.order top) el er) ∙ ap (forth_pairs pairs t top P) (sym (add-one i))

  pub count_back : (m n c : ℕ) (l r : List ℕ) → l ≡ P (last - suc m) → r ≡ back t P last m → n ≡ back_pairs pairs t top P last m → c ≡ pairs t.order top l r → n + c ≡ back_pairs pairs t top P last (m + 1)
  unfolding back_pairs
  count_back m n c l r el er en ec = ap₂ ◌+◌ en (ec ∙ ap₂ (pairs t.order top) el er) ∙ ap (back_pairs pairs t top P last) (sym (add-one m))

pub few_pairs : (q n r p m : ℕ) → q ≤ 64 → r ≡ p → p ≤ q * q → n ≤ 4096 * m → n + r ≤ 4096 * (m + 1)
few_pairs q n r p m h e l k = omega (arith, mul-le q q 64 64 h h)

-- ---- around an edge
pub wrote_as : (q k : ℕ) (v w a b : List ℕ) → Wrote q k v a b → v ≡ w → Wrote q k w a b
wrote_as q k v w a b W e = record { here = W.here ∙ e; other = W.other }

module _ (pairs : ℕ → ℕ → List ℕ → List ℕ → ℕ) (t : Tables) (top : ℕ) (F B : ℕ → List ℕ) (last i : ℕ) where
  pub around_first : i ≡ 0 → around_at t F B last i ≡ B (last - 1)
  unfolding around_at
  around_first e = rw (eq-eqb i 0 e)

  pub pair_first : i ≡ 0 → around_pair pairs t top F B last i ≡ 0
  unfolding around_pair
  pair_first e = rw (eq-eqb i 0 e)

  pub around_last : (i ≡ 0 → ⊥) → i ≡ last → around_at t F B last i ≡ F (last - 1)
  unfolding around_at
  around_last n e = rw (ne_eqb i 0 n, eq-eqb i last e)

  pub pair_last : (i ≡ 0 → ⊥) → i ≡ last → around_pair pairs t top F B last i ≡ 0
  unfolding around_pair
  pair_last n e = rw (ne_eqb i 0 n, eq-eqb i last e)

  pub around_between : (i ≡ 0 → ⊥) → (i ≡ last → ⊥) → around_at t F B last i ≡ joined t (F (i - 1)) (B (last - 1 - i))
  unfolding around_at
  around_between n e = rw (ne_eqb i 0 n, ne_eqb i last e)

  pub pair_between : (i ≡ 0 → ⊥) → (i ≡ last → ⊥) → around_pair pairs t top F B last i ≡ pairs t.order top (F (i - 1)) (B (last - 1 - i))
  unfolding around_pair
  pair_between n e = rw (ne_eqb i 0 n, ne_eqb i last e)

pub few_around : (pairs : ℕ → ℕ → List ℕ → List ℕ → ℕ) (t : Tables) (top : ℕ) (F B : ℕ → List ℕ) (last i : ℕ) → ((l r : List ℕ) → pairs t.order top l r ≤ t.order * t.order) → around_pair pairs t top F B last i ≤ t.order * t.order
unfolding around_pair
few_around pairs t top F B last i few =
    cond_both (eqb i 0) 0 (cond (eqb i last) 0 (pairs t.order top (F (i - 1)) (B (last - 1 - i)))) (λ x. x ≤ t.order * t.order) (λ e. omega arith)
    (λ e. cond_both (eqb i last) 0 (pairs t.order top (F (i - 1)) (B (last - 1 - i))) (λ x. x ≤ t.order * t.order) (λ k. omega arith) (λ k. few (F (i - 1)) (B (last - 1 - i))))

-- ---- vectors that agree up to the last
module _ (pairs : ℕ → ℕ → List ℕ → List ℕ → ℕ) (t : Tables) (top last : ℕ) where
  module _ (F G B C : ℕ → List ℕ) (i : ℕ) (one : 1 ≤ last) (most : i ≤ last) (f : (x : ℕ) → x < last → F x ≡ G x) (b : (x : ℕ) → x < last → B x ≡ C x) where
    pub around_same : around_at t F B last i ≡ around_at t G C last i
    unfolding around_at
    around_same =
        let e1 = f (last - 1) (omega arith) in let e2 = f (i - 1) (omega arith) in let e3 = b (last - 1) (omega arith) in let e4 = b (last - 1 - i) (omega arith) in
        λ x. cond (eqb i 0) (e3 x) (cond (eqb i last) (e1 x) (joined t (e2 x) (e4 x)))

    pub pair_same : around_pair pairs t top F B last i ≡ around_pair pairs t top G C last i
    unfolding around_pair
    pair_same =
        let e2 = f (i - 1) (omega arith) in let e4 = b (last - 1 - i) (omega arith) in
        λ x. cond (eqb i 0) 0 (cond (eqb i last) 0 (pairs t.order top (e2 x) (e4 x)))

  pub pairs_same : (F G B C : ℕ → List ℕ) → 1 ≤ last → ((x : ℕ) → x < last → F x ≡ G x) → ((x : ℕ) → x < last → B x ≡ C x) → (n : ℕ) → n ≤ suc last →
      around_pairs pairs t top F B last n ≡ around_pairs pairs t top G C last n
  unfolding around_pairs
  pairs_same F G B C one f b zero h = refl
  pairs_same F G B C one f b (suc n) h = ap₂ ◌+◌ (pairs_same F G B C one f b n (omega arith)) (pair_same F G B C n one (omega arith) f b)

  module _ (P Q : ℕ → List ℕ) (same : (i : ℕ) → i ≤ last → P i ≡ Q i) where
    pub forth_same : (i : ℕ) → i ≤ last → forth t P i ≡ forth t Q i
    unfolding forth
    forth_same zero h = same 0 h
    forth_same (suc i) h = ap₂ (joined t) (forth_same i (omega arith)) (same (suc i) h)

    pub back_same : (m : ℕ) → back t P last m ≡ back t Q last m
    unfolding back
    back_same zero = same last (omega arith)
    back_same (suc m) = ap₂ (joined t) (same (last - suc m) (omega arith)) (back_same m)

    pub forth_pairs_same : (i : ℕ) → i ≤ last → forth_pairs pairs t top P i ≡ forth_pairs pairs t top Q i
    unfolding forth_pairs
    forth_pairs_same zero h = refl
    forth_pairs_same (suc i) h = ap₂ ◌+◌ (forth_pairs_same i (omega arith)) (ap₂ (pairs t.order top) (forth_same i (omega arith)) (same (suc i) h))

    pub back_pairs_same : (m : ℕ) → back_pairs pairs t top P last m ≡ back_pairs pairs t top Q last m
    unfolding back_pairs
    back_pairs_same zero = refl
    back_pairs_same (suc m) = ap₂ ◌+◌ (back_pairs_same m) (ap₂ (pairs t.order top) (same (last - suc m) (omega arith)) (back_same m))
