-- What a granted call has passed, and what its writes lay down. Assumes nothing.
use Rattle.std.proofs.Common.{◌≡◌, ℕ, suc, pred, ◌+◌, ◌-◌, ◌*◌, ◌<◌, ◌≤◌, min, cond, eqb, ◌⊎◌, List, length, get_or, take, drop, sym, ap, ◌∙◌, subst, inl, inr, arith, length-drop}
use Rattle.std.proofs.lemmas.Nat.{mul-le, le-div}
use Rattle.std.proofs.lemmas.List.{ext_get_or, get_or-drop}
use Rattle.std.proofs.lemmas.Bool.{and_parts, leb-true, eqb-true, ltb-true, eq-eqb, ne_eqb, cases_eq, cases_lt}
use Rattle.field.specs.Tables.{Tables}
use Rattle.code.specs.Views.{View}
use Rattle.tree.specs.Over.{least_to}
use Rattle.tree.specs.Places.{Admitted, width, column_of}
use Rattle.tree.specs.Statement.{Loaded, Within}
use Rattle.tree.specs.Rows.{PairsRule}
use Rattle.tree.specs.Frame.{Numbers, numbers_of, Slip, loading, running, opens, loads, starts, rounds, reads, Reply, granted, outcome, held_words, area_words, parts_of, laid, next_parts, stores}
use Rattle.tree.proofs.Facts.{Facts, facts}
use Rattle.tree.proofs.Outcomes.{want_is, within_is}
use Rattle.tree.proofs.Areas.{numbers_are}
use Rattle.tree.proofs.Follow.{held_is}
use Rattle.frame.specs.Blocks.{block, blocks, Filled}
use Rattle.frame.specs.Columns.{column_at, word}
use Rattle.frame.specs.Words.{Written, store_at}
use Rattle.frame.proofs.Bodies.{word_at, past_same}
use Rattle.frame.proofs.Scans.{block_room}

-- ---- the tests
pub open_passed : (F : Tables) (K : View) (area : List ℕ) (s : Slip) (x : Reply) → outcome F K opens area s ≡ granted x → (F.order ≡ K.header.order) × (area_words K ≤ length area)
unfolding outcome
open_passed F K area s x e =
    let a = want_is _ 18 _ x e in let b = want_is _ 20 _ x a.1 in
    (eqb-true _ _ a.0, leb-true _ _ b.0)

pub record Loadable (K : View) (area : List ℕ) (c size : ℕ) : Type 0 where
  pub room : area_words K ≤ length area
  pub column : c < K.header.columns
  pub long : size ≡ K.header.order

pub load_passed : (F : Tables) (K : View) (area : List ℕ) (n : Numbers) (column : ℕ) (values : List ℕ) (x : Reply) → outcome F K (loads column values) area (loading n) ≡ granted x → Loadable K area column (length values)
unfolding outcome
load_passed F K area n column values x e =
    let a = want_is _ 19 _ x e in let b = want_is _ 20 _ x a.1 in let c = want_is _ 21 _ x b.1 in let d = want_is _ 7 _ x c.1 in
    record { room = leb-true _ _ b.0; column = ltb-true _ _ c.0; long = eqb-true _ _ d.0 }

pub read_passed : (F : Tables) (K : View) (area : List ℕ) (n : Numbers) (made column size : ℕ) (x : Reply) → outcome F K (reads column size) area (running n made) ≡ granted x → Loadable K area column size
unfolding outcome
read_passed F K area n made column size x e =
    let a = want_is _ 19 _ x e in let b = want_is _ 20 _ x a.1 in let c = want_is _ 21 _ x b.1 in let d = want_is _ 7 _ x c.1 in
    record { room = leb-true _ _ b.0; column = ltb-true _ _ c.0; long = eqb-true _ _ d.0 }

pub start_passed : (F : Tables) (K : View) (area : List ℕ) (n : Numbers) (x : Reply) → outcome F K starts area (loading n) ≡ granted x → (n ≡ numbers_of K) × (area_words K ≤ length area)
unfolding outcome
start_passed F K area n x e =
    let a = want_is _ 19 _ x e in let b = want_is _ 20 _ x a.1 in
    (numbers_are n (numbers_of K) a.0, leb-true _ _ b.0)

pub record Roundable (F : Tables) (K : View) (area : List ℕ) (made : ℕ) : Type 0 where
  pub order : F.order ≡ K.header.order
  pub room : area_words K ≤ length area
  pub channel : Loaded K (parts_of K area).channel
  pub to_check : Within K (parts_of K area).to_check
  pub left : made < K.header.limit

pub round_passed : (F : Tables) (K : View) (area : List ℕ) (n : Numbers) (made : ℕ) (pairs : PairsRule) (x : Reply) → outcome F K (rounds pairs) area (running n made) ≡ granted x → Roundable F K area made
unfolding outcome
round_passed F K area n made pairs x e =
    let a = want_is _ 18 _ x e in let b = want_is _ 19 _ x a.1 in let c = want_is _ 20 _ x b.1 in let d = want_is _ 22 _ x c.1 in let f = want_is _ 23 _ x d.1 in
    let w = and_parts _ _ d.0 in
    record { order = eqb-true _ _ a.0; room = leb-true _ _ c.0; channel = within_is K K.header.columns (parts_of K area).channel w.0; to_check = within_is K (width K) (parts_of K area).to_check w.1; left = ltb-true _ _ f.0 }

-- ---- the surplus
pub surplus_same : (n : ℕ) (before after : List ℕ) → length after ≡ length before → ((k : ℕ) → n ≤ k → get_or after k 0 ≡ get_or before k 0) → drop n after ≡ drop n before
surplus_same n before after long same =
    ext_get_or 0 (drop n after) (drop n before) (simp length-drop (ap (λ m. m - n) long))
    (λ i h. get_or-drop n after i 0 ∙ same (n + i) (omega arith) ∙ sym (get_or-drop n before i 0))

module _ (K : View) (R : Admitted K) (before after : List ℕ) (room : area_words K ≤ length before) (long : length after ≡ length before) where
  abbrev q : ℕ
  q = K.header.order

  abbrev N : ℕ
  N = K.header.columns

  abbrev W : ℕ
  W = width K

  A : Facts K
  A = facts K R

  held_room : held_words K ≤ length after
  held_room = let m = mul-le (2 * N + 2 * W) q (2 * N + 2 * W + 36) q (omega arith) (omega arith) in omega arith

  held_area : held_words K ≤ area_words K
  held_area = mul-le (2 * N + 2 * W) q (2 * N + 2 * W + 36) q (omega arith) (omega arith)

  -- word a of block j is among the words held
  in_held : (j a : ℕ) → j < 2 * N + 2 * W → a < q → j * q + a < held_words K
  in_held j a h l = let r = block_room j (2 * N + 2 * W) q (held_words K) h (omega arith) in omega arith

  -- ---- open
  module _ (F : Tables) (Z : Written 0 (held_words K) (λ k. 0) before after) where
    none : (j a : ℕ) → j < 2 * N + 2 * W → a < q → get_or after (j * q + a) 0 ≡ 0
    none j a h l = let z : 0 + (j * q + a) ≡ j * q + a = omega arith in let i = in_held j a h l in subst (λ n. get_or after n 0 ≡ 0) z (Z.there (j * q + a) (omega arith))

    pub opened_held : take (held_words K) after ≡ laid K (next_parts F K opens (parts_of K before))
    unfolding next_parts parts_of
    opened_held = held_is K after (next_parts F K opens (parts_of K before)) (let o = A.order_low in omega arith) held_room
        (record {
          channel = λ c a h l. none c a (omega arith) l;
          distances = λ c a h l. none (N + c) a (omega arith) l;
          to_check = λ e a h l. none (2 * N + e) a (omega arith) l;
          from_check = λ e a h l. none (2 * N + W + e) a (omega arith) l;
        })

    pub opened_surplus : drop (area_words K) after ≡ drop (area_words K) before
    opened_surplus = let h = held_area in surplus_same (area_words K) before after long (λ k l. Z.kept k (inr (omega arith)))

  -- ---- load
  module _ (F : Tables) (column : ℕ) (values : List ℕ) (there : column < N) (whole : length values ≡ q) (Z : Written (column * q) (column * q + length values) (store_at values K.header.ceiling) before after) where
    outside : (j a : ℕ) → (j ≡ column → ⊥) → a < q → get_or after (j * q + a) 0 ≡ get_or before (j * q + a) 0
    outside j a ne l = go (cases_lt j column)
      where
        go : (j < column) ⊎ (column ≤ j) → get_or after (j * q + a) 0 ≡ get_or before (j * q + a) 0
        go (inl h) = let m = mul-le (suc j) q column q h (omega arith) in Z.kept (j * q + a) (inl (omega arith))
        go (inr h) = let d : column < j = more ne h in let m = mul-le (suc column) q j q d (omega arith) in Z.kept (j * q + a) (inr (omega arith))
          where
            more : (j ≡ column → ⊥) → column ≤ j → column < j
            more ne h = pick (cases_lt column j)
              where
                pick : (column < j) ⊎ (j ≤ column) → column < j
                pick (inl k) = k
                pick (inr k) = absurd (ne (let z : j ≡ column = omega arith in z))

    stored : (a : ℕ) → a < q → get_or after (column * q + a) 0 ≡ stores K values a
    unfolding stores
    stored a l = Z.there a (omega arith) ∙ ap (λ n. min (get_or values a 0 - least_to (pred n) (λ b. get_or values b 0)) K.header.ceiling) whole

    channel_at : (x a : ℕ) → a < q → get_or after (x * q + a) 0 ≡ cond (eqb x column) (stores K values a) (get_or before (x * q + a) 0)
    channel_at x a l = go (cases_eq x column)
      where
        go : (x ≡ column) ⊎ (x ≡ column → ⊥) → get_or after (x * q + a) 0 ≡ cond (eqb x column) (stores K values a) (get_or before (x * q + a) 0)
        go (inl e) = ap (λ n. get_or after (n * q + a) 0) e ∙ stored a l ∙ sym (ap (λ b. cond b (stores K values a) (get_or before (x * q + a) 0)) (eq-eqb x column e))
        go (inr ne) = outside x a ne l ∙ sym (ap (λ b. cond b (stores K values a) (get_or before (x * q + a) 0)) (ne_eqb x column ne))

    pub loaded_held : take (held_words K) after ≡ laid K (next_parts F K (loads column values) (parts_of K before))
    unfolding next_parts parts_of
    loaded_held = held_is K after (next_parts F K (loads column values) (parts_of K before)) (let o = A.order_low in omega arith) held_room
        (record {
          channel = λ c a h l. channel_at c a l;
          distances = λ c a h l. outside (N + c) a (λ z. let w : ⊥ = omega arith in w) l;
          to_check = λ e a h l. outside (2 * N + e) a (λ z. let w : ⊥ = omega arith in w) l;
          from_check = λ e a h l. outside (2 * N + W + e) a (λ z. let w : ⊥ = omega arith in w) l;
        })

    pub loaded_surplus : drop (area_words K) after ≡ drop (area_words K) before
    loaded_surplus =
        let m = mul-le (suc column) q (2 * N + 2 * W + 36) q (omega arith) (omega arith) in
        surplus_same (area_words K) before after long (λ k l. Z.kept k (inr (omega arith)))

  -- ---- start
  module _ (F : Tables) (middle : List ℕ) (S1 : Filled q N N (λ c. block q c before) before middle) (S2 : Filled q (N + N) W (λ x. block q (column_at K.edges x) middle) middle after) where
    at : (j a : ℕ) → a < q → get_or after (j * q + a) 0 ≡ word q after j a
    at j a h = sym (word_at q j a after h)

    channel_kept : (c : ℕ) → c < N → block q c after ≡ block q c before
    channel_kept c h = S2.kept c (inl (omega arith)) ∙ S1.kept c (inl h)

    pub started_held : take (held_words K) after ≡ laid K (next_parts F K starts (parts_of K before))
    unfolding next_parts parts_of
    started_held = held_is K after (next_parts F K starts (parts_of K before)) (let o = A.order_low in omega arith) held_room
        (record {
          channel = λ c a h l. at c a l ∙ ap (λ v. get_or v a 0) (channel_kept c h) ∙ word_at q c a before l;
          distances = λ c a h l. at (N + c) a l ∙ ap (λ v. get_or v a 0) (S2.kept (N + c) (inl (omega arith)) ∙ S1.there c h) ∙ word_at q c a before l;
          to_check = λ e a h l. ap (λ n. get_or after (n * q + a) 0) (let z : 2 * N + e ≡ N + N + e = omega arith in z) ∙ at (N + N + e) a l
              ∙ ap (λ v. get_or v a 0) (S2.there e h ∙ S1.kept (column_of K e) (inl (A.column_below e h))) ∙ word_at q (column_of K e) a before l;
          from_check = λ e a h l. ap (λ n. get_or after (n * q + a) 0) (let z : 2 * N + W + e ≡ N + N + W + e = omega arith in z) ∙ at (N + N + W + e) a l
              ∙ ap (λ v. get_or v a 0) (S2.kept (N + N + W + e) (inr (omega arith)) ∙ S1.kept (N + N + W + e) (inr (omega arith)))
              ∙ word_at q (N + N + W + e) a before l ∙ ap (λ n. get_or before (n * q + a) 0) (let z : N + N + W + e ≡ 2 * N + W + e = omega arith in z);
        })

    pub started_surplus : drop (area_words K) after ≡ drop (area_words K) before
    started_surplus = past_same q (2 * N + 2 * W + 36) after before (let o = A.order_low in omega arith) long
        (λ j h. S2.kept j (inr (omega arith)) ∙ S1.kept j (inr (omega arith)))

  pub room_blocks : N + N + W ≤ blocks q before
  room_blocks = let o = A.order_low in let d = le-div (2 * N + 2 * W + 36) (length before) q (omega arith) room in omega arith
