-- Decoding ends within L rounds, and its rounds are a run. Assumes nothing.
use Rattle.std.proofs.Common.{◌≡◌, ℕ, zero, suc, ◌+◌, ◌<◌, ◌≤◌, Bool, true, false, cond, not, ◌&&◌, eqb, ltb, leb, List, length, sym, refl, ap, ◌∙◌, subst, arith}
use Rattle.std.proofs.lemmas.Bool.{and_parts, ltb-true, leb-true}
use Rattle.field.specs.Tables.{Tables, Lawful}
use Rattle.code.specs.Views.{View}
use Rattle.tree.specs.Places.{Admitted, width}
use Rattle.tree.specs.Rows.{PairsRule, round_pairs}
use Rattle.tree.specs.Frame.{Numbers, numbers_of, same_numbers, Slip, no_slip, loading, running, Frame, Words, area_words, parts_of, within, decided, failing, rounds, next_parts, next_slip, Reply, round_told, Outcome, granted, refused, no_call, grants, want, want_numbers, want_area, outcome, obey}
use Rattle.tree.specs.Run.{History, next_history, Same, Brings, Run, obeyed}
use Rattle.tree.specs.Decoding.{fails, round_on, is_due, settled, rounds_due, at_end, rounds_to, later, Alike, OwnRun, DecodingStands}
use Rattle.tree.proofs.Outcomes.{grants_want}
use Rattle.tree.proofs.Follow.{effects_theorem}
use Rattle.tree.proofs.Runs.{run_words, runs_theorem}
use Rattle.tree.proofs.Scratch.{scratch_free}

-- a granted outcome tells something
pub reply_of : (o : Outcome) → grants o ≡ true → (x : Reply) × (o ≡ granted x)
reply_of (granted x) e = (x, refl)
reply_of (refused n) e = absurd (let z : ◌≡◌ {A = ℕ} 0 1 = cc in let y : ⊥ = omega arith in y)
reply_of no_call e = absurd (let z : ◌≡◌ {A = ℕ} 0 1 = cc in let y : ⊥ = omega arith in y)

-- what a granted round had to pass
pub record RoundPassed (F : Tables) (K : View) (area : List ℕ) (r : ℕ) : Type 0 where
  pub room : area_words K ≤ length area
  pub left : r < K.header.limit

pub round_passed : (F : Tables) (K : View) (pairs : PairsRule) (area : List ℕ) (n : Numbers) (r : ℕ) → grants (outcome F K (rounds pairs) area (running n r)) ≡ true → RoundPassed F K area r
unfolding outcome
round_passed F K pairs area n r g =
    let P = parts_of K area in
    let told : Outcome = granted (round_told (suc r) (failing F K (decided K (next_parts F K (rounds pairs) P))) (round_pairs pairs F K P.to_check)) in
    let low : Bool = within K K.header.columns P.channel && within K (width K) P.to_check in
    let v1 = grants_want (eqb F.order K.header.order) 18 (want_numbers K n (want_area K area (want low 22 (want (ltb r K.header.limit) 23 told)))) g in
    let v2 = grants_want (same_numbers n (numbers_of K)) 19 (want_area K area (want low 22 (want (ltb r K.header.limit) 23 told))) v1.1 in
    let v3 = grants_want (leb (area_words K) (length area)) 20 (want low 22 (want (ltb r K.header.limit) 23 told)) v2.1 in
    let v4 = grants_want low 22 (want (ltb r K.header.limit) 23 told) v3.1 in
    let v5 = grants_want (ltb r K.header.limit) 23 told v4.1 in
    record { room = leb-true (area_words K) (length area) v3.0; left = ltb-true r K.header.limit v5.0 }

-- a round can only be made with a running slip
running_of_is : (F : Tables) (K : View) (pairs : PairsRule) (area : List ℕ) (s : Slip) → grants (outcome F K (rounds pairs) area s) ≡ true → (n : Numbers) × (r : ℕ) × (s ≡ running n r)
unfolding outcome
running_of_is F K pairs area no_slip e = absurd (let z : ◌≡◌ {A = ℕ} 0 1 = cc in let y : ⊥ = omega arith in y)
running_of_is F K pairs area (loading n) e = absurd (let z : ◌≡◌ {A = ℕ} 0 1 = cc in let y : ⊥ = omega arith in y)
running_of_is F K pairs area (running n r) e = (n, r, refl)

module _ (F : Tables) (K : View) (pairs : PairsRule) (size : ℕ) where
  due_grants : (f : Frame) → is_due F K pairs size f ≡ true → grants (round_on F K pairs f) ≡ true
  unfolding is_due
  due_grants f e = (and_parts (not (eqb (fails F K f) 0)) (grants (round_on F K pairs f)) (and_parts (eqb size K.header.columns) (not (eqb (fails F K f) 0) && grants (round_on F K pairs f)) e).1).1

  due_left : (f : Frame) (n : Numbers) (r : ℕ) → f.slip ≡ running n r → is_due F K pairs size f ≡ true → r < K.header.limit
  due_left f n r s e = (round_passed F K pairs f.area n r (subst (λ x. grants (outcome F K (rounds pairs) f.area x) ≡ true) s (due_grants f e))).left

  obey_slip : (f : Frame) (n : Numbers) (r : ℕ) → f.slip ≡ running n r → (obey F K (rounds pairs) f).slip ≡ running n (suc r)
  unfolding obey next_slip
  obey_slip f n r s = ap (next_slip K (rounds pairs)) s

  pub few_rounds : (n : ℕ) (f : Frame) → rounds_due F K pairs size n f ≤ n
  unfolding rounds_due
  few_rounds zero f = omega arith
  few_rounds (suc n) f = go (rounds_due F K pairs size n (obey F K (rounds pairs) f)) (few_rounds n (obey F K (rounds pairs) f)) (is_due F K pairs size f)
    where
      go : (k : ℕ) → k ≤ n → (b : Bool) → cond b (suc k) 0 ≤ suc n
      go k h true = omega arith
      go k h false = omega arith

  -- with a running slip, each round is one step nearer to the limit
  over_running : (n : ℕ) (f : Frame) (m : Numbers) (r : ℕ) → f.slip ≡ running m r → K.header.limit ≤ r + n → is_due F K pairs size (settled F K pairs size n f) ≡ false
  unfolding settled
  over_running zero f m r s h = go (is_due F K pairs size f) refl
    where
      go : (b : Bool) → is_due F K pairs size f ≡ b → is_due F K pairs size f ≡ false
      go true e = absurd (let x = due_left f m r s e in let y : ⊥ = omega arith in y)
      go false e = e
  over_running (suc n) f m r s h =
      go (over_running n (obey F K (rounds pairs) f) m (suc r) (obey_slip f m r s) (omega arith)) (is_due F K pairs size f) refl
    where
      next : Frame
      next = obey F K (rounds pairs) f

      go : is_due F K pairs size (settled F K pairs size n next) ≡ false → (b : Bool) → is_due F K pairs size f ≡ b → is_due F K pairs size (cond b (settled F K pairs size n next) f) ≡ false
      go ih true e = ih
      go ih false e = e

  stay : (n : ℕ) (f : Frame) → is_due F K pairs size f ≡ false → settled F K pairs size n f ≡ f
  unfolding settled
  stay zero f e = refl
  stay (suc n) f e = ap (λ b. cond b (settled F K pairs size n (obey F K (rounds pairs) f)) f) e

  over_at : (f : Frame) → is_due F K pairs size (settled F K pairs size K.header.limit f) ≡ false
  over_at f = go (is_due F K pairs size f) refl
    where
      go : (b : Bool) → is_due F K pairs size f ≡ b → is_due F K pairs size (settled F K pairs size K.header.limit f) ≡ false
      go true e = let x = running_of_is F K pairs f.area f.slip (due_grants f e) in over_running K.header.limit f x.0 x.1 x.2 (omega arith)
      go false e = ap (is_due F K pairs size) (stay K.header.limit f e) ∙ e

  -- rounds leave a running slip
  settled_slip : (n : ℕ) (f : Frame) (m : Numbers) (r : ℕ) → f.slip ≡ running m r → (q : ℕ) × ((settled F K pairs size n f).slip ≡ running m q)
  unfolding settled
  settled_slip zero f m r s = (r, s)
  settled_slip (suc n) f m r s = go (settled_slip n (obey F K (rounds pairs) f) m (suc r) (obey_slip f m r s)) (is_due F K pairs size f)
    where
      go : ((q : ℕ) × ((settled F K pairs size n (obey F K (rounds pairs) f)).slip ≡ running m q)) → (b : Bool) →
          (q : ℕ) × ((cond b (settled F K pairs size n (obey F K (rounds pairs) f)) f).slip ≡ running m q)
      go ih true = ih
      go ih false = (r, s)

  module _ (L : Lawful F) (A : Admitted K) where
    runs : (n : ℕ) (f : Frame) (h : History) → Run f h → Same F K h → Run (settled F K pairs size n f) (later F K pairs (rounds_due F K pairs size n f) h)
    unfolding settled rounds_due later Brings next_history
    runs zero f h run same = run
    runs (suc n) f h run same =
        go (λ on. runs n (obey F K (rounds pairs) f) (next_history F K (rounds pairs) h) on (record { field = same.field; code = same.code })) (is_due F K pairs size f) refl
      where
        next : Frame
        next = obey F K (rounds pairs) f

        go : (Run next (next_history F K (rounds pairs) h) → Run (settled F K pairs size n next) (later F K pairs (rounds_due F K pairs size n next) (next_history F K (rounds pairs) h))) →
            (b : Bool) → is_due F K pairs size f ≡ b → Run (cond b (settled F K pairs size n next) f) (later F K pairs (cond b (suc (rounds_due F K pairs size n next)) 0) h)
        go ih true e =
            let x = reply_of (round_on F K pairs f) (due_grants f e) in
            let effect = (effects_theorem F L K A (rounds pairs) f (run_words run) x.0 x.1).effect in
            ih (obeyed run F K (rounds pairs) x.0 same x.1 effect)
        go ih false e = run

pub decoding_theorem : DecodingStands
decoding_theorem F L K A pairs size f = (
  record { few = few_rounds F K pairs size K.header.limit f; over = over_at F K pairs size f },
  λ h n r s run same.
      let on = runs F K pairs size L A K.header.limit f h run same in
      let q = settled_slip F K pairs size K.header.limit f n r s in
      let t = runs_theorem (at_end F K pairs size f) (later F K pairs (rounds_to F K pairs size f) h) on n q.0 q.1 in
      record { run = on; reads = t.0; concludes = t.1 },
)

-- rounds keep the code
later_code : (F : Tables) (K : View) (pairs : PairsRule) (k : ℕ) (h : History) → (later F K pairs k h).code ≡ h.code
unfolding later next_history
later_code F K pairs zero h = refl
later_code F K pairs (suc k) h = later_code F K pairs k (next_history F K (rounds pairs) h)

pub own_run : (F : Tables) → Lawful F → (K : View) → Admitted K → (pairs : PairsRule) (size : ℕ) (f : Frame) (after : List ℕ) → Alike K after (at_end F K pairs size f).area → Words after → OwnRun F K pairs size f after
own_run F L K A pairs size f after same w h n r s run own =
    let k = rounds_to F K pairs size f in
    let on = runs F K pairs size L A K.header.limit f h run own in
    let q = settled_slip F K pairs size K.header.limit f n r s in
    let code : K ≡ (later F K pairs k h).code = own.code ∙ sym (later_code F K pairs k h) in
    scratch_free on n q.0 q.1 after (subst (λ c. Alike c after (at_end F K pairs size f).area) code same) w
