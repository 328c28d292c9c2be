-- The words of an area by its parts, and that every granted call can be followed in words of 16 bits. Assumes nothing.
use Rattle.std.proofs.Common.{◌≡◌, ℕ, suc, ◌+◌, ◌-◌, ◌*◌, ◌/◌, ◌%◌, ◌<◌, ◌≤◌, Bool, true, false, cond, ◌&&◌, eqb, ltb, leb, ◌⊎◌, List, ◌++◌, length, get_or, take, drop, sym, refl, ap, ◌∙◌, subst, ap₂, inl, inr, mod-lt, div-lt_iff_lt-mul, div-add-mod', arith, length-append, length-drop, length-take, get_or-drop, get_or-take, drop-drop}
use lib.Seq.{take-append_seam, drop-append-add}
use Rattle.std.proofs.lemmas.List.FromFn.{length-map-range_with_len, get_or-map-range_with_len}
use Rattle.std.proofs.lemmas.List.{ext_get_or, get_or_past, get_or_append_left, get_or-append_right}
use Rattle.std.proofs.lemmas.Bool.{cases_lt, cond_both, and_parts, ltb-true, ltb-false, leb-true, eqb-true}
use Rattle.field.specs.Tables.{Tables, Lawful}
use Rattle.code.specs.Views.{View}
use Rattle.tree.specs.Places.{Admitted, width, column_of}
use Rattle.tree.specs.Frame.{numbers_of, same_numbers, Slip, no_slip, loading, running, Frame, Words, held_words, area_words, Parts, parts_of, block, laid, Call, opens, loads, starts, rounds, reads, concludes, stores, within, decided, failing, next_parts, Reply, slip_given, round_told, Outcome, granted, want, want_numbers, want_area, outcome, Effect, obey}
use Rattle.tree.specs.Areas.{Holds}
use Rattle.tree.specs.Effects.{Followed, EffectsStand}
use Rattle.tree.specs.Rows.{round_pairs}
use Rattle.tree.proofs.Laws.{laws_of}
use Rattle.tree.proofs.Facts.{facts}
use Rattle.tree.proofs.Outcomes.{want_is, never, within_is}
use Rattle.tree.proofs.Bounds.{from_low, distance_low, to_low}

-- ---- a word stands in a block of q words
pub record Cell (K : View) (i : ℕ) : Type 0 where
  pub block_low : i / K.header.order < 2 * K.header.columns + 2 * width K
  pub symbol_low : i % K.header.order < K.header.order
  pub is : i / K.header.order * K.header.order + i % K.header.order ≡ i

pub cell : (K : View) → 1 ≤ K.header.order → (i : ℕ) → i < held_words K → Cell K i
cell K one i h = record {
  block_low = (div-lt_iff_lt-mul {k = K.header.order} {x = i} {y = 2 * K.header.columns + 2 * width K} one).1 h;
  symbol_low = mod-lt i one;
  is = div-add-mod' i K.header.order;
}

-- what holds of each part's words holds of each block's
pub block_has : (K : View) (P : Parts) (Q : ℕ → Type 0) (j a : ℕ) → j < 2 * K.header.columns + 2 * width K →
    ((c : ℕ) → c < K.header.columns → Q (P.channel c a)) → ((c : ℕ) → c < K.header.columns → Q (P.distances c a)) →
    ((e : ℕ) → e < width K → Q (P.to_check e a)) → ((e : ℕ) → e < width K → Q (P.from_check e a)) → Q (block K P j a)
unfolding block
block_has K P Q j a h one two three four =
    let N : ℕ = K.header.columns in
    cond_both (ltb j K.header.columns) _ _ Q (λ t. one j (ltb-true j K.header.columns t)) (λ t. let z = ltb-false j K.header.columns t in
    cond_both (ltb j (2 * K.header.columns)) _ _ Q (λ u. let w = ltb-true j (2 * K.header.columns) u in two (j - K.header.columns) (omega arith)) (λ u. let w = ltb-false j (2 * K.header.columns) u in
    cond_both (ltb j (2 * K.header.columns + width K)) _ _ Q (λ v. let x = ltb-true j (2 * K.header.columns + width K) v in three (j - 2 * K.header.columns) (omega arith))
    (λ v. let x = ltb-false j (2 * K.header.columns + width K) v in four (j - (2 * K.header.columns + width K)) (omega arith))))

pub length_laid : (K : View) (P : Parts) → length (laid K P) ≡ held_words K
unfolding laid
length_laid K P = length-map-range_with_len (λ i. block K P (i / K.header.order) (i % K.header.order)) 0 (held_words K)

pub at_laid : (K : View) (P : Parts) (i : ℕ) → i < held_words K → get_or (laid K P) i 0 ≡ block K P (i / K.header.order) (i % K.header.order)
unfolding laid
at_laid K P i h = get_or-map-range_with_len (λ i. block K P (i / K.header.order) (i % K.header.order)) 0 (held_words K) i i 0 h (omega arith)

-- ---- an area whose parts are P holds P's words
-- a block of an area
block_at : (K : View) (area : List ℕ) (j a : ℕ) → j < 2 * K.header.columns + 2 * width K → block K (parts_of K area) j a ≡ get_or area (j * K.header.order + a) 0
unfolding block parts_of
block_at K area j a h =
    let N : ℕ = K.header.columns in
    let W : ℕ = width K in
    let q : ℕ = K.header.order in
    let Q : ℕ → Type 0 = λ v. v ≡ get_or area (j * K.header.order + a) 0 in
    cond_both (ltb j K.header.columns) _ _ Q (λ t. refl) (λ t. let z = ltb-false j K.header.columns t in
    cond_both (ltb j (2 * K.header.columns)) _ _ Q (λ u. ap (λ k. get_or area (k * q + a) 0) (let e : N + (j - N) ≡ j = omega arith in e)) (λ u. let w = ltb-false j (2 * K.header.columns) u in
    cond_both (ltb j (2 * K.header.columns + width K)) _ _ Q (λ v. ap (λ k. get_or area (k * q + a) 0) (let e : 2 * N + (j - 2 * N) ≡ j = omega arith in e))
    (λ v. let x = ltb-false j (2 * K.header.columns + width K) v in ap (λ k. get_or area (k * q + a) 0) (let e : 2 * N + W + (j - (2 * N + W)) ≡ j = omega arith in e))))

block_same : (K : View) (P Q : Parts) (j a : ℕ) → j < 2 * K.header.columns + 2 * width K →
    ((c : ℕ) → c < K.header.columns → P.channel c a ≡ Q.channel c a) → ((c : ℕ) → c < K.header.columns → P.distances c a ≡ Q.distances c a) →
    ((e : ℕ) → e < width K → P.to_check e a ≡ Q.to_check e a) → ((e : ℕ) → e < width K → P.from_check e a ≡ Q.from_check e a) → block K P j a ≡ block K Q j a
unfolding block
block_same K P Q j a h one two three four = go (ltb j K.header.columns) refl (ltb j (2 * K.header.columns)) refl (ltb j (2 * K.header.columns + width K)) refl
  where
    go : (x : Bool) → ltb j K.header.columns ≡ x → (y : Bool) → ltb j (2 * K.header.columns) ≡ y → (z : Bool) → ltb j (2 * K.header.columns + width K) ≡ z →
        cond x (P.channel j a) (cond y (P.distances (j - K.header.columns) a) (cond z (P.to_check (j - 2 * K.header.columns) a) (P.from_check (j - (2 * K.header.columns + width K)) a)))
        ≡ cond x (Q.channel j a) (cond y (Q.distances (j - K.header.columns) a) (cond z (Q.to_check (j - 2 * K.header.columns) a) (Q.from_check (j - (2 * K.header.columns + width K)) a)))
    go true e y f z g = one j (ltb-true j K.header.columns e)
    go false e true f z g = let u = ltb-false j K.header.columns e in let v = ltb-true j (2 * K.header.columns) f in two (j - K.header.columns) (omega arith)
    go false e false f true g = let u = ltb-false j (2 * K.header.columns) f in let v = ltb-true j (2 * K.header.columns + width K) g in three (j - 2 * K.header.columns) (omega arith)
    go false e false f false g = let u = ltb-false j (2 * K.header.columns + width K) g in four (j - (2 * K.header.columns + width K)) (omega arith)

pub held_is : (K : View) (area : List ℕ) (P : Parts) → 1 ≤ K.header.order → held_words K ≤ length area → Holds K area P → take (held_words K) area ≡ laid K P
held_is K area P one room H = ext_get_or 0 (take (held_words K) area) (laid K P) long each
  where
    front : length (take (held_words K) area) ≡ held_words K
    front = simp length-take (omega arith)

    long : length (take (held_words K) area) ≡ length (laid K P)
    long = front ∙ sym (length_laid K P)

    each : (i : ℕ) → i < length (take (held_words K) area) → get_or (take (held_words K) area) i 0 ≡ get_or (laid K P) i 0
    each i h =
        let l : i < held_words K = omega (arith, front) in
        let c = cell K one i l in
        get_or-take (held_words K) area i 0 l
        ∙ ap (λ k. get_or area k 0) (sym c.is)
        ∙ sym (block_at K area (i / K.header.order) (i % K.header.order) c.block_low)
        ∙ block_same K (parts_of K area) P (i / K.header.order) (i % K.header.order) c.block_low
        (λ x k. H.channel x (i % K.header.order) k c.symbol_low) (λ x k. H.distances x (i % K.header.order) k c.symbol_low)
        (λ x k. H.to_check x (i % K.header.order) k c.symbol_low) (λ x k. H.from_check x (i % K.header.order) k c.symbol_low)
        ∙ sym (at_laid K P i l)

-- ---- what is laid down
pub record Sixteen (K : View) (P : Parts) : Type 0 where
  pub channel : (c a : ℕ) → c < K.header.columns → a < K.header.order → P.channel c a < 65536
  pub distances : (c a : ℕ) → c < K.header.columns → a < K.header.order → P.distances c a < 65536
  pub to_check : (e a : ℕ) → e < width K → a < K.header.order → P.to_check e a < 65536
  pub from_check : (e a : ℕ) → e < width K → a < K.header.order → P.from_check e a < 65536

laid_words : (K : View) (P : Parts) → 1 ≤ K.header.order → Sixteen K P → Words (laid K P)
laid_words K P one S i = go (cases_lt i (held_words K))
  where
    go : (i < held_words K) ⊎ (held_words K ≤ i) → get_or (laid K P) i 0 < 65536
    go (inl h) =
        let c = cell K one i h in
        let b = block_has K P (λ v. v < 65536) (i / K.header.order) (i % K.header.order) c.block_low
        (λ x k. S.channel x (i % K.header.order) k c.symbol_low) (λ x k. S.distances x (i % K.header.order) k c.symbol_low)
        (λ x k. S.to_check x (i % K.header.order) k c.symbol_low) (λ x k. S.from_check x (i % K.header.order) k c.symbol_low) in
        omega (arith, at_laid K P i h)
    go (inr h) = let e : length (laid K P) ≤ i = omega (arith, length_laid K P) in omega (arith, get_or_past (laid K P) i 0 e)

-- what an obeyed call leaves begins with the words laid down, is as long as before, and keeps its surplus
pub record LaidDown (K : View) (P : Parts) (before after : List ℕ) : Type 0 where
  pub as_long : length after ≡ length before
  pub held : take (held_words K) after ≡ laid K P
  pub surplus : drop (area_words K) after ≡ drop (area_words K) before

pub laid_down : (K : View) (P : Parts) (area : List ℕ) → area_words K ≤ length area → LaidDown K P area (laid K P ++ drop (held_words K) area)
laid_down K P area room = record { as_long = long; held = held; surplus = surplus }
  where
    l : length (laid K P) ≡ held_words K
    l = length_laid K P

    more : held_words K + 36 * K.header.order ≡ area_words K
    more = omega arith

    long : length (laid K P ++ drop (held_words K) area) ≡ length area
    long = length-append (laid K P) (drop (held_words K) area) ∙ ap₂ ◌+◌ l (length-drop (held_words K) area) ∙ (let z : held_words K + (length area - held_words K) ≡ length area = omega arith in z)

    held : take (held_words K) (laid K P ++ drop (held_words K) area) ≡ laid K P
    held = subst (λ n. take n (laid K P ++ drop (held_words K) area) ≡ laid K P) l (take-append_seam (laid K P) (drop (held_words K) area))

    surplus : drop (area_words K) (laid K P ++ drop (held_words K) area) ≡ drop (area_words K) area
    surplus =
        subst (λ n. drop n (laid K P ++ drop (held_words K) area) ≡ drop (area_words K) area) (ap (λ n. n + 36 * K.header.order) l ∙ more)
        (drop-append-add (laid K P) (drop (held_words K) area) (36 * K.header.order) ∙ drop-drop (36 * K.header.order) (held_words K) area ∙ ap (λ n. drop n area) more)

-- laying the words down is an effect
follows : (F : Tables) (K : View) (call : Call) (f : Frame) → area_words K ≤ length f.area → Words f.area → Words (laid K (next_parts F K call (parts_of K f.area))) → Effect F K call f (obey F K call f)
unfolding obey
follows F K call f room w lw =
    let d = laid_down K P f.area room in
    record { slip = refl; as_long = d.as_long; held = d.held; surplus = d.surplus; words = words }
  where
    P : Parts
    P = next_parts F K call (parts_of K f.area)

    l : length (laid K P) ≡ held_words K
    l = length_laid K P

    words : Words (laid K P ++ drop (held_words K) f.area)
    words i = go (cases_lt i (held_words K))
      where
        go : (i < held_words K) ⊎ (held_words K ≤ i) → get_or (laid K P ++ drop (held_words K) f.area) i 0 < 65536
        go (inl h) = let k : i < length (laid K P) = omega (arith, l) in omega (arith, get_or_append_left (laid K P) (drop (held_words K) f.area) 0 i k, lw i)
        go (inr h) = omega (arith, get_or-append_right (laid K P) (drop (held_words K) f.area) (held_words K) i 0 l h, get_or-drop (held_words K) f.area (i - held_words K) 0, w (held_words K + (i - held_words K)))

-- ---- each granted call
room_of : (K : View) (area : List ℕ) (o : Outcome) (x : Reply) → want_area K area o ≡ granted x → area_words K ≤ length area
room_of K area o x g = leb-true (area_words K) (length area) (want_is (leb (area_words K) (length area)) 20 o x g).0

module _ (F : Tables) (L : Lawful F) (K : View) (R : Admitted K) (f : Frame) (w : Words f.area) where
  one : 1 ≤ K.header.order
  one = omega (arith, (facts K R).order_low)

  abbrev P : Parts
  P = parts_of K f.area

  was : Sixteen K (parts_of K f.area)
  unfolding parts_of
  was = record { channel = λ c a h l. w _; distances = λ c a h l. w _; to_check = λ c a h l. w _; from_check = λ c a h l. w _ }

  follow : (call : Call) → area_words K ≤ length f.area → Sixteen K (next_parts F K call (parts_of K f.area)) → Followed F K call f
  follow call room S =
      let lw = laid_words K (next_parts F K call (parts_of K f.area)) one S in
      record { laid_words = lw; effect = follows F K call f room w lw }

  by_call : (call : Call) (s : Slip) (x : Reply) → outcome F K call f.area s ≡ granted x → Followed F K call f
  unfolding outcome next_parts stores
  by_call opens s x g =
      let v = want_is (eqb F.order K.header.order) 18 (want_area K f.area (granted (slip_given (loading (numbers_of K))))) x g in
      follow opens (room_of K f.area _ x v.1) (record { channel = λ c a h l. omega arith; distances = λ c a h l. omega arith; to_check = λ e a h l. omega arith; from_check = λ e a h l. omega arith })
  by_call (loads c values) no_slip x g = absurd (never x g)
  by_call (loads c values) (running n r) x g = absurd (never x g)
  by_call (loads c values) (loading n) x g =
      let v = want_is (same_numbers n (numbers_of K)) 19 _ x g in
      follow (loads c values) (room_of K f.area _ x v.1) (record {
        channel = λ y a h l. cond_both (eqb y c) (stores K values a) (P.channel y a) (λ z. z < 65536) (λ t. omega (arith, (facts K R).ceiling_high)) (λ t. was.channel y a h l);
        distances = was.distances;
        to_check = was.to_check;
        from_check = was.from_check;
      })
  by_call starts no_slip x g = absurd (never x g)
  by_call starts (running n r) x g = absurd (never x g)
  by_call starts (loading n) x g =
      let v = want_is (same_numbers n (numbers_of K)) 19 _ x g in
      follow starts (room_of K f.area _ x v.1) (record {
        channel = was.channel;
        distances = was.channel;
        to_check = λ e a h l. was.channel (column_of K e) a ((facts K R).column_below e h) l;
        from_check = was.from_check;
      })
  by_call (rounds pairs) no_slip x g = absurd (never x g)
  by_call (rounds pairs) (loading n) x g = absurd (never x g)
  by_call (rounds pairs) (running n r) x g =
      let told : Outcome = granted (round_told (suc r) (failing F K (decided K (next_parts F K (rounds pairs) P))) (round_pairs pairs F K P.to_check)) in
      let low : Bool = within K K.header.columns P.channel && within K (width K) P.to_check in
      let v1 = want_is (eqb F.order K.header.order) 18 (want_numbers K n (want_area K f.area (want low 22 (want (ltb r K.header.limit) 23 told)))) x g in
      let v2 = want_is (same_numbers n (numbers_of K)) 19 (want_area K f.area (want low 22 (want (ltb r K.header.limit) 23 told))) x v1.1 in
      let v3 = want_is (leb (area_words K) (length f.area)) 20 (want low 22 (want (ltb r K.header.limit) 23 told)) x v2.1 in
      let v4 = want_is low 22 (want (ltb r K.header.limit) 23 told) x v3.1 in
      let both = and_parts (within K K.header.columns P.channel) (within K (width K) P.to_check) v4.0 in
      let A = facts K R in
      let Q = laws_of F L K.header.order (eqb-true F.order K.header.order v1.0) in
      let ch = within_is K K.header.columns P.channel both.0 in
      let to = within_is K (width K) P.to_check both.1 in
      follow (rounds pairs) (leb-true (area_words K) (length f.area) v3.0) (record {
        channel = was.channel;
        distances = λ c a h l. omega (arith, distance_low F K Q A P.to_check to P.channel ch c a h l);
        to_check = λ e a h l. omega (arith, to_low F K Q A P.to_check to P.channel ch e a, A.ceiling_high);
        from_check = λ e a h l. omega (arith, from_low F K Q A P.to_check to e a h l, A.ceiling_high);
      })
  by_call (reads c size) no_slip x g = absurd (never x g)
  by_call (reads c size) (loading n) x g = absurd (never x g)
  by_call (reads c size) (running n r) x g =
      let v = want_is (same_numbers n (numbers_of K)) 19 _ x g in
      follow (reads c size) (room_of K f.area _ x v.1) was
  by_call (concludes size) no_slip x g = absurd (never x g)
  by_call (concludes size) (loading n) x g = absurd (never x g)
  by_call (concludes size) (running n r) x g =
      let v = want_is (eqb F.order K.header.order) 18 _ x g in
      let u = want_is (same_numbers n (numbers_of K)) 19 _ x v.1 in
      follow (concludes size) (room_of K f.area _ x u.1) was

pub effects_theorem : EffectsStand
effects_theorem F L K R call f w x g = by_call F L K R f w call f.slip x g
