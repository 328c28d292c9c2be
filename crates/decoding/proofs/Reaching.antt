-- How far the rounds that are due have come: one more of them, and their end. Assumes nothing.
use Rattle.std.proofs.Common.{◌≡◌, ℕ, zero, suc, ◌+◌, ◌-◌, ◌≤◌, Bool, true, false, cond, not, ◌&&◌, eqb, ltb, leb, List, ◌++◌, length, take, drop, Some, None, Ok, Err, Option, Result, sym, refl, ap, ◌∙◌, subst, ap₂, arith}
use Rattle.std.specs.Result.{MatchResult, IsErrAnd}
use Rattle.std.proofs.lemmas.Result.{err_from_is_err_and}
use Rattle.std.proofs.lemmas.Bool.{and_parts, eq-eqb, ne_eqb, eqb-true, eqb-false, leb-true}
use Rattle.due.specs.declared.refusal.FrameRefusal.{FrameRefusal}
use Rattle.due.specs.Refusals.{number_of}
use Rattle.field.specs.Tables.{Tables}
use Rattle.code.specs.Views.{View}
use Rattle.tree.specs.Places.{Admitted, width}
use Rattle.tree.specs.Rows.{PairsRule, round_pairs}
use Rattle.tree.specs.Frame.{Numbers, numbers_of, same_numbers, Slip, running, Frame, Words, held_words, area_words, parts_of, laid, within, decided, failing, word_of, rounds, concludes, next_parts, next_slip, round_told, word_told, Outcome, granted, refused, no_call, grants, want, want_numbers, want_area, want_length, outcome, held_after, obey}
use Rattle.tree.specs.Decoding.{Alike, fails, round_on, conclude_on, is_due, settled, rounds_due, at_end, rounds_to, stopped, ended, decoding}
use Rattle.tree.proofs.Outcomes.{want_is, grants_want}
use Rattle.tree.proofs.Areas.{holds_is}
use Rattle.tree.proofs.Follow.{LaidDown, laid_down}
use Rattle.tree.proofs.Alike.{failing_same, alike_fails, alike_round, alike_laid}
use Rattle.tree.proofs.Decodings.{RoundPassed, round_passed}
use Rattle.frame.specs.Calls.{AreaAfter}
use Rattle.decoding.specs.Ends.{last_failing, Settled}

-- ---- what an answer under another error comes from
pub before_ok : {T E D : Type 0} (P : E → D → Type 0) (r : Result T E) (m : Result T D) (x : T) → MatchResult r (λ y. m ≡ Ok y) (λ e. IsErrAnd m (P e)) → m ≡ Ok x → r ≡ Ok x
before_ok P (Ok y) m x h w = cc
before_ok P (Err e) m x h w = let p = err_from_is_err_and m h in let q = p.1 in absurd (cc)

pub before_err : {T E D : Type 0} (P : E → D → Type 0) (r : Result T E) (m : Result T D) (d : D) → MatchResult r (λ y. m ≡ Ok y) (λ e. IsErrAnd m (P e)) → m ≡ Err d → (e : E) × (r ≡ Err e) × P e d
before_err P (Ok y) m d h w = absurd (cc)
before_err P (Err e) m d h w = let p = err_from_is_err_and m h in let q : m ≡ Err p.0 = p.1 in let z : p.0 ≡ d = cc in (e, refl, subst (P e) z p.2)

-- ---- the tests of conclude before the rows
pub record Opened (F : Tables) (K : View) (size : ℕ) (area : List ℕ) (n : Numbers) : Type 0 where
  pub order : eqb F.order K.header.order ≡ true
  pub numbers : same_numbers n (numbers_of K) ≡ true
  pub room : leb (area_words K) (length area) ≡ true
  pub long : eqb size K.header.columns ≡ true

want_refused : (b : Bool) (m n : ℕ) (o : Outcome) → (m ≡ n → ⊥) → want b m o ≡ refused n → (b ≡ true) × (o ≡ refused n)
want_refused true m n o other e = (refl, e)
want_refused false m n o other e = absurd (other (cc))

-- conclude on an opened frame turns on its rows
pub conclude_opened : (F : Tables) (K : View) (size : ℕ) (area : List ℕ) (n : Numbers) (r : ℕ) → Opened F K size area n →
    outcome F K (concludes size) area (running n r) ≡ want (eqb (failing F K (decided K (parts_of K area))) 0) 24 (granted (word_told (word_of K (parts_of K area)) r))
unfolding outcome
conclude_opened F K size area n r o =
    let last : Outcome = want (eqb (failing F K (decided K (parts_of K area))) 0) 24 (granted (word_told (word_of K (parts_of K area)) r)) in
    ap (λ b. want b 18 (want_numbers K n (want_area K area (want_length size K.header.columns last)))) o.order
    ∙ ap (λ b. want b 19 (want_area K area (want_length size K.header.columns last))) o.numbers
    ∙ ap (λ b. want b 20 (want_length size K.header.columns last)) o.room
    ∙ ap (λ b. want b 7 last) o.long

-- where conclude tells a row that fails, it was opened, and a row fails
pub row_told : (F : Tables) (K : View) (size : ℕ) (area : List ℕ) (n : Numbers) (r : ℕ) → outcome F K (concludes size) area (running n r) ≡ refused 24 →
    Opened F K size area n × (failing F K (decided K (parts_of K area)) ≡ 0 → ⊥)
unfolding outcome
row_told F K size area n r e =
    let x : Bool = eqb (failing F K (decided K (parts_of K area))) 0 in
    let last : Outcome = want x 24 (granted (word_told (word_of K (parts_of K area)) r)) in
    let a = want_refused (eqb F.order K.header.order) 18 24 (want_numbers K n (want_area K area (want_length size K.header.columns last))) (λ z. omega arith) e in
    let b = want_refused (same_numbers n (numbers_of K)) 19 24 (want_area K area (want_length size K.header.columns last)) (λ z. omega arith) a.1 in
    let c = want_refused (leb (area_words K) (length area)) 20 24 (want_length size K.header.columns last) (λ z. omega arith) b.1 in
    let d = want_refused (eqb size K.header.columns) 7 24 last (λ z. omega arith) c.1 in (
      record { order = a.0; numbers = b.0; room = c.0; long = d.0 },
      λ none.
          let y : last ≡ granted (word_told (word_of K (parts_of K area)) r) = ap (λ b. want b 24 (granted (word_told (word_of K (parts_of K area)) r))) (eq-eqb (failing F K (decided K (parts_of K area))) 0 none) in
          let w = d.1 in
          let z : ◌≡◌ {A = ℕ} 0 1 = cc in omega arith,
    )

-- what a granted round tells of the rows
pub rows_told : (F : Tables) (K : View) (pairs : PairsRule) (area : List ℕ) (n : Numbers) (r m x p : ℕ) → outcome F K (rounds pairs) area (running n r) ≡ granted (round_told m x p) →
    x ≡ failing F K (decided K (next_parts F K (rounds pairs) (parts_of K area)))
unfolding outcome
rows_told F K pairs area n r m x p e =
    let P = parts_of K area in
    let told : Outcome = granted (round_told (suc r) (failing F K (decided K (next_parts F K (rounds pairs) P))) (round_pairs pairs F K P.to_check)) in
    let low : Bool = within K K.header.columns P.channel && within K (width K) P.to_check in
    let a = want_is (eqb F.order K.header.order) 18 (want_numbers K n (want_area K area (want low 22 (want (ltb r K.header.limit) 23 told)))) (round_told m x p) e in
    let b = want_is (same_numbers n (numbers_of K)) 19 (want_area K area (want low 22 (want (ltb r K.header.limit) 23 told))) (round_told m x p) a.1 in
    let c = want_is (leb (area_words K) (length area)) 20 (want low 22 (want (ltb r K.header.limit) 23 told)) (round_told m x p) b.1 in
    let d = want_is low 22 (want (ltb r K.header.limit) 23 told) (round_told m x p) c.1 in
    let l = want_is (ltb r K.header.limit) 23 told (round_told m x p) d.1 in
    let w = l.1 in cc

-- a due round has passed what conclude tests before the rows
due_opened : (F : Tables) (K : View) (pairs : PairsRule) (size : ℕ) (area : List ℕ) (n : Numbers) (r : ℕ) → eqb size K.header.columns ≡ true → grants (outcome F K (rounds pairs) area (running n r)) ≡ true → Opened F K size area n
unfolding outcome
due_opened F K pairs size area n r long g =
    let P = parts_of K area in
    let told : Outcome = granted (round_told (suc r) (failing F K (decided K (next_parts F K (rounds pairs) P))) (round_pairs pairs F K P.to_check)) in
    let low : Bool = within K K.header.columns P.channel && within K (width K) P.to_check in
    let a = grants_want (eqb F.order K.header.order) 18 (want_numbers K n (want_area K area (want low 22 (want (ltb r K.header.limit) 23 told)))) g in
    let b = grants_want (same_numbers n (numbers_of K)) 19 (want_area K area (want low 22 (want (ltb r K.header.limit) 23 told))) a.1 in
    let c = grants_want (leb (area_words K) (length area)) 20 (want low 22 (want (ltb r K.header.limit) 23 told)) b.1 in
    record { order = a.0; numbers = b.0; room = c.0; long = long }

not-true : (b : Bool) → not b ≡ true → b ≡ false
not-true true e = absurd (let z : ◌≡◌ {A = ℕ} 0 1 = cc in let y : ⊥ = omega arith in y)
not-true false e = refl

eqb_no : (n : ℕ) → (n ≡ 0 → ⊥) → not (eqb n 0) ≡ true
eqb_no n h = ap not (ne_eqb n 0 h)

-- ---- no round is due
module _ (F : Tables) (K : View) (pairs : PairsRule) (size : ℕ) where
  pub stays : (m : ℕ) (f : Frame) → is_due F K pairs size f ≡ false → (settled F K pairs size m f ≡ f) × (rounds_due F K pairs size m f ≡ 0)
  unfolding settled rounds_due
  stays zero f e = (refl, refl)
  stays (suc m) f e =
      (ap (λ b. cond b (settled F K pairs size m (obey F K (rounds pairs) f)) f) e, ap (λ b. cond b (suc (rounds_due F K pairs size m (obey F K (rounds pairs) f))) 0) e)

  -- a due round is one where conclude tells a row
  due_told : (area : List ℕ) (n : Numbers) (r : ℕ) → is_due F K pairs size (record { area = area; slip = running n r }) ≡ true → outcome F K (concludes size) area (running n r) ≡ refused 24
  unfolding is_due fails
  due_told area n r e =
      let f : Frame = record { area = area; slip = running n r } in
      let a = and_parts (eqb size K.header.columns) (not (eqb (fails F K f) 0) && grants (round_on F K pairs f)) e in
      let b = and_parts (not (eqb (fails F K f) 0)) (grants (round_on F K pairs f)) a.1 in
      conclude_opened F K size area n r (due_opened F K pairs size area n r a.0 b.1)
      ∙ ap (λ t. want t 24 (granted (word_told (word_of K (parts_of K area)) r))) (not-true (eqb (failing F K (decided K (parts_of K area))) 0) b.0)

  pub record AtOnce (f : Frame) (o : Outcome) : Type 0 where
    pub end : at_end F K pairs size f ≡ f
    pub none : rounds_to F K pairs size f ≡ 0
    pub answer : decoding F K pairs size f ≡ o

  ended_is : (o round : Outcome) → (o ≡ refused 24 → ⊥) → ended o round ≡ o
  ended_is (granted x) round other = refl
  ended_is (refused n) round other = ap (λ b. cond b (stopped round) (refused n)) (ne_eqb n 24 (λ e. other (ap refused e)))
  ended_is no_call round other = refl

  -- where conclude does not tell a row, it is the answer at once
  pub at_once : (area : List ℕ) (n : Numbers) (r : ℕ) (o : Outcome) → o ≡ outcome F K (concludes size) area (running n r) → (o ≡ refused 24 → ⊥) → AtOnce (record { area = area; slip = running n r }) o
  unfolding decoding
  at_once area n r o e other = record { end = s.0; none = s.1; answer = ap₂ ended (ap (conclude_on F K size) s.0 ∙ sym e) (ap (round_on F K pairs) s.0) ∙ ended_is o _ other }
    where
      f : Frame
      f = record { area = area; slip = running n r }

      idle : (b : Bool) → is_due F K pairs size f ≡ b → is_due F K pairs size f ≡ false
      idle true d = absurd (other (e ∙ due_told area n r d))
      idle false d = d

      s : (settled F K pairs size K.header.limit f ≡ f) × (rounds_due F K pairs size K.header.limit f ≡ 0)
      s = stays K.header.limit f (idle (is_due F K pairs size f) refl)

-- ---- the rounds
module _ (F : Tables) (K : View) (pairs : PairsRule) (f : Frame) where
  -- some rounds were made, and led to an area and a slip at r rounds; the rest of the rounds goes on from there
  pub record At (area : List ℕ) (n : Numbers) (r : ℕ) : Type 0 where
    pub made : ℕ
    pub model : Frame
    pub few : made ≤ r
    pub low : made ≤ K.header.limit
    pub rest : at_end F K pairs K.header.columns f ≡ settled F K pairs K.header.columns (K.header.limit - made) model
    pub count : rounds_to F K pairs K.header.columns f ≡ made + rounds_due F K pairs K.header.columns (K.header.limit - made) model
    pub alike : Alike K area model.area
    pub slip : model.slip ≡ running n r
    pub kept : made ≡ 0 → area ≡ f.area
    pub opened : Opened F K K.header.columns model.area n

  unfoldable begun : (area : List ℕ) (n : Numbers) (r : ℕ) → f ≡ record { area = area; slip = running n r } → Opened F K K.header.columns area n → At area n r
  begun area n r e o = record {
    made = 0;
    model = record { area = area; slip = running n r };
    few = omega arith;
    low = omega arith;
    rest = ap (λ g. settled F K pairs K.header.columns K.header.limit g) e ∙ ap (λ k. settled F K pairs K.header.columns k (record { area = area; slip = running n r })) (let z : K.header.limit ≡ K.header.limit - 0 = omega arith in z);
    count = ap (λ g. rounds_due F K pairs K.header.columns K.header.limit g) e ∙ ap (λ k. rounds_due F K pairs K.header.columns k (record { area = area; slip = running n r })) (let z : K.header.limit ≡ K.header.limit - 0 = omega arith in z)
        ∙ (let d : ℕ = rounds_due F K pairs K.header.columns (K.header.limit - 0) (record { area = area; slip = running n r }) in let z : d ≡ 0 + d = omega arith in z);
    alike = record { as_long = refl; held = refl; surplus = refl };
    slip = refl;
    kept = λ z. sym (ap (λ g. g.area) e);
    opened = o;
  }

  -- a row fails there, and how many was told after the last round
  pub record Reached (area : List ℕ) (n : Numbers) (r : ℕ) (last : Option ℕ) : Type 0 where
    pub at : At area n r
    pub fail : fails F K at.model ≡ 0 → ⊥
    pub told : last ≡ last_failing at.made (fails F K at.model)

  pub first : (area : List ℕ) (n : Numbers) (r : ℕ) → f ≡ record { area = area; slip = running n r } → outcome F K (concludes K.header.columns) area (running n r) ≡ refused 24 → Reached area n r None
  unfolding fails begun
  first area n r e o =
      let t = row_told F K K.header.columns area n r o in
      record { at = begun area n r e t.0; fail = t.1; told = refl }

  pub carried : (area : List ℕ) (n m : Numbers) (r q : ℕ) (last : Option ℕ) → running n r ≡ running m q → Reached area n r last → Reached area m q last
  carried area n m r q last e t =
      let same : n ≡ m = cc in
      let equal : r ≡ q = cc in
      subst (λ k. Reached area k q last) same (subst (λ k. Reached area n k last) equal t)

module _ (F : Tables) (K : View) (R : Admitted K) (pairs : PairsRule) (f : Frame) where
  -- the round is granted on the model exactly if it is granted on the area
  grants_alike : (area : List ℕ) (n : Numbers) (r : ℕ) (t : At F K pairs f area n r) → grants (outcome F K (rounds pairs) area (running n r)) ≡ grants (round_on F K pairs t.model)
  grants_alike area n r t = alike_round K R area t.model.area t.alike grants (λ x y. refl) F pairs (running n r) ∙ ap (λ s. grants (outcome F K (rounds pairs) t.model.area s)) (sym t.slip)

  pub record More (area : List ℕ) (n : Numbers) (r x : ℕ) : Type 0 where
    pub now_at : At F K pairs f area n (suc r)
    pub some : now_at.made ≡ 0 → ⊥
    pub rows : x ≡ fails F K now_at.model

  -- one round more
  pub more : (area after : List ℕ) (n : Numbers) (r m x p : ℕ) (t : At F K pairs f area n r) → (fails F K t.model ≡ 0 → ⊥) → outcome F K (rounds pairs) area (running n r) ≡ granted (round_told m x p) →
      AreaAfter F K (rounds pairs) (running n r) area after → length after ≡ length area → More after n r x
  unfolding settled rounds_due is_due fails obey next_slip held_after
  more area after n r m x p t fail g a long =
      record {
        now_at = record {
          made = suc t.made;
          model = next;
          few = omega (arith, t.few);
          low = omega (arith, passed.left, t.few);
          rest = t.rest ∙ ap (λ k. settled F K pairs N k old) left ∙ ap (λ b. cond b (settled F K pairs N (L - suc t.made) next) old) due;
          count = t.count ∙ ap (λ k. t.made + rounds_due F K pairs N k old) left ∙ ap (λ b. t.made + cond b (suc (rounds_due F K pairs N (L - suc t.made) next)) 0) due
              ∙ (let z : t.made + suc (rounds_due F K pairs N (L - suc t.made) next) ≡ suc t.made + rounds_due F K pairs N (L - suc t.made) next = omega arith in z);
          alike = same;
          slip = ap (next_slip K (rounds pairs)) t.slip;
          kept = λ z. absurd (let y : ⊥ = omega arith in y);
          opened = record { order = t.opened.order; numbers = t.opened.numbers; room = ap (leb (area_words K)) down.as_long ∙ t.opened.room; long = t.opened.long };
        };
        some = λ z. omega arith;
        rows = rows_told F K pairs area n r m x p g
            ∙ sym (failing_same F K R (parts_of K after) (next_parts F K (rounds pairs) (parts_of K area)) (holds_is K after (next_parts F K (rounds pairs) (parts_of K area)) laid_there).distances)
            ∙ alike_fails K R after next.area same F (subst (λ k. area_words K ≤ k) (sym down.as_long) room);
      }
    where
      N : ℕ
      N = K.header.columns

      L : ℕ
      L = K.header.limit

      old : Frame
      old = t.model

      next : Frame
      next = obey F K (rounds pairs) old

      yes_granted : grants (outcome F K (rounds pairs) area (running n r)) ≡ true
      yes_granted = ap grants g

      passed : RoundPassed F K area r
      passed = round_passed F K pairs area n r yes_granted

      left : L - t.made ≡ suc (L - suc t.made)
      left = omega (arith, passed.left, t.few)

      due : (eqb N K.header.columns && (not (eqb (failing F K (decided K (parts_of K old.area))) 0) && grants (round_on F K pairs old))) ≡ true
      due = ap₂ ◌&&◌ t.opened.long (ap₂ ◌&&◌ (eqb_no (failing F K (decided K (parts_of K old.area))) fail) (sym (grants_alike area n r t) ∙ yes_granted))

      room : area_words K ≤ length old.area
      room = leb-true (area_words K) (length old.area) t.opened.room

      down : LaidDown K (next_parts F K (rounds pairs) (parts_of K old.area)) old.area (laid K (next_parts F K (rounds pairs) (parts_of K old.area)) ++ drop (held_words K) old.area)
      down = laid_down K (next_parts F K (rounds pairs) (parts_of K old.area)) old.area room

      laid_there : take (held_words K) after ≡ laid K (next_parts F K (rounds pairs) (parts_of K area))
      laid_there = a.held ∙ ap (λ o. cond (grants o) (laid K (next_parts F K (rounds pairs) (parts_of K area))) (take (held_words K) area)) g

      same : Alike K after next.area
      same = record {
        as_long = long ∙ t.alike.as_long ∙ sym down.as_long;
        held = alike_laid K R area old.area t.alike F pairs after room long laid_there ∙ sym down.held;
        surplus = a.surplus ∙ t.alike.surplus ∙ sym down.surplus;
      }

  -- no further round is due
  pub record Ends (g : Frame) (k : ℕ) : Type 0 where
    pub end : at_end F K pairs K.header.columns f ≡ g
    pub rounds_made : rounds_to F K pairs K.header.columns f ≡ k

  ends : (area : List ℕ) (n : Numbers) (r : ℕ) (t : At F K pairs f area n r) → is_due F K pairs K.header.columns t.model ≡ false → Ends t.model t.made
  ends area n r t idle =
      let s = stays F K pairs K.header.columns (K.header.limit - t.made) t.model idle in
      record { end = t.rest ∙ s.0; rounds_made = t.count ∙ ap (λ k. t.made + k) s.1 ∙ (let z : t.made + 0 ≡ t.made = omega arith in z) }

  -- because no row fails
  pub ends_whole : (area : List ℕ) (n : Numbers) (r : ℕ) (t : At F K pairs f area n r) → fails F K t.model ≡ 0 → Ends t.model t.made × (grants (conclude_on F K K.header.columns t.model) ≡ true)
  unfolding is_due fails
  ends_whole area n r t none =
      let N = K.header.columns in let g = t.model in
      let zero-fails : eqb (failing F K (decided K (parts_of K g.area))) 0 ≡ true = eq-eqb (failing F K (decided K (parts_of K g.area))) 0 none in (
        ends area n r t (ap₂ (λ x y. x && (not y && grants (round_on F K pairs g))) t.opened.long zero-fails),
        ap (λ s. grants (outcome F K (concludes N) g.area s)) t.slip
            ∙ ap grants (conclude_opened F K N g.area n r t.opened ∙ ap (λ b. want b 24 (granted (word_told (word_of K (parts_of K g.area)) r))) zero-fails),
      )

  -- because the next round is refused
  pub ends_refused : (area : List ℕ) (n : Numbers) (r e : ℕ) (t : At F K pairs f area n r) → (fails F K t.model ≡ 0 → ⊥) → outcome F K (rounds pairs) area (running n r) ≡ refused e →
      Ends t.model t.made × (conclude_on F K K.header.columns t.model ≡ refused 24) × (stopped (round_on F K pairs t.model) ≡ stopped (refused e))
  unfolding is_due fails
  ends_refused area n r e t fail o =
      let N = K.header.columns in let g = t.model in
      let no-grant : grants (round_on F K pairs g) ≡ false = sym (grants_alike area n r t) ∙ ap grants o in (
        ends area n r t (ap₂ (λ x y. x && (y && grants (round_on F K pairs g))) t.opened.long (eqb_no (failing F K (decided K (parts_of K g.area))) fail) ∙ no-grant),
        ap (λ s. outcome F K (concludes N) g.area s) t.slip
            ∙ conclude_opened F K N g.area n r t.opened ∙ ap (λ b. want b 24 (granted (word_told (word_of K (parts_of K g.area)) r))) (ne_eqb (failing F K (decided K (parts_of K g.area))) 0 fail),
        ap (λ s. stopped (outcome F K (rounds pairs) g.area s)) t.slip
            ∙ sym (alike_round K R area g.area t.alike stopped (λ x y. refl) F pairs (running n r)) ∙ ap stopped o,
      )

  -- ---- the loop
  pub again : (area after : List ℕ) (n : Numbers) (r m x p : ℕ) (last : Option ℕ) → Reached F K pairs f area n r last → outcome F K (rounds pairs) area (running n r) ≡ granted (round_told m x p) →
      AreaAfter F K (rounds pairs) (running n r) area after → length after ≡ length area → eqb x 0 ≡ false → Reached F K pairs f after n (suc r) (Some x)
  again area after n r m x p last t g a long some =
      let u = more area after n r m x p t.at t.fail g a long in
      record {
        at = u.now_at;
        fail = λ none. eqb-false x 0 some (u.rows ∙ none);
        told = ap Some u.rows ∙ sym (ap (λ b. cond b None (Some (fails F K u.now_at.model))) (ne_eqb u.now_at.made 0 u.some));
      }

  pub settled_whole : (area after : List ℕ) (n : Numbers) (r m x p : ℕ) (last : Option ℕ) (left : Slip) → Reached F K pairs f area n r last → outcome F K (rounds pairs) area (running n r) ≡ granted (round_told m x p) →
      AreaAfter F K (rounds pairs) (running n r) area after → length after ≡ length area → left ≡ running n (suc r) → Words after → eqb x 0 ≡ true → Settled F K pairs f after left (Ok tt)
  settled_whole area after n r m x p last left t g a long is typed none =
      let N = K.header.columns in
      let u = more area after n r m x p t.at t.fail g a long in
      let model = u.now_at.model in
      let w = ends_whole after n (suc r) u.now_at (sym u.rows ∙ eqb-true x 0 none) in
      let end : model ≡ at_end F K pairs N f = sym w.0.end in
      let k : u.now_at.made ≡ rounds_to F K pairs N f = sym w.0.rounds_made in
      record {
        area = record {
          alike = subst (λ h. Alike K after h.area) end u.now_at.alike;
          kept = λ z. absurd (u.some (k ∙ z));
        };
        slip = is ∙ sym u.now_at.slip ∙ ap (λ h. h.slip) end;
        failing = ap Some (sym (eqb-true x 0 none) ∙ u.rows) ∙ sym (ap (λ b. cond b None (Some (fails F K model))) (ne_eqb u.now_at.made 0 u.some)) ∙ ap₂ (λ j h. last_failing j (fails F K h)) k end;
        words = typed;
        why = ap (λ h. grants (conclude_on F K N h)) w.0.end ∙ w.1;
      }

  pub settled_refused : (area after : List ℕ) (n : Numbers) (r : ℕ) (last : Option ℕ) (left : Slip) (e : FrameRefusal) → Reached F K pairs f area n r last → outcome F K (rounds pairs) area (running n r) ≡ refused (number_of e) →
      after ≡ area → left ≡ running n r → Words after → Settled F K pairs f after left (Err (record { refusal = e; failing = last }))
  settled_refused area after n r last left e t o same is typed =
      let N = K.header.columns in
      let model = t.at.model in
      let w = ends_refused area n r (number_of e) t.at t.fail o in
      let end : model ≡ at_end F K pairs N f = sym w.0.end in
      let k : t.at.made ≡ rounds_to F K pairs N f = sym w.0.rounds_made in
      record {
        area = record {
          alike = subst (λ h. Alike K after h.area) end (subst (λ b. Alike K b model.area) (sym same) t.at.alike);
          kept = λ z. same ∙ t.at.kept (k ∙ z);
        };
        slip = is ∙ sym t.at.slip ∙ ap (λ h. h.slip) end;
        failing = t.told ∙ ap₂ (λ j h. last_failing j (fails F K h)) k end;
        words = typed;
        why = (ap (conclude_on F K N) w.0.end ∙ w.1, ap (λ h. stopped (round_on F K pairs h)) w.0.end ∙ w.2);
      }
