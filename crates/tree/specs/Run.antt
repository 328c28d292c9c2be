-- Runs of calls on one frame, and what holds of them all. Assumes nothing.
use Rattle.std.specs.Prelude.{◌≡◌, ℕ, suc, ◌<◌, ◌≤◌, true, cond, ◌↔◌, List, length, ◌==◌, slice_index}
use Rattle.field.specs.Tables.{Tables, Lawful}
use Rattle.code.specs.Views.{View}
use Rattle.tree.specs.Places.{Admitted, at_column}
use Rattle.tree.specs.Rows.{PairsRule}
use Rattle.tree.specs.Tree.{Filling, symbol, Valid, Cost, Cheapest}
use Rattle.tree.specs.Frame.{Numbers, Slip, no_slip, loading, running, Frame, Words, Call, opens, loads, starts, rounds, reads, concludes, column_told, round_told, word_told, Reply, granted, refused, grants, outcome, stores, Effect, row_sum, failing}

-- what the granted calls since the last granted open have been: its field and code, what the loads stored, how many rounds
pub record History : Type 0 where
  pub field : Tables
  pub code : View
  pub stored : ℕ → ℕ → ℕ
  pub rounds_made : ℕ

-- the history once a call is granted that is made with the field F and the code K
unfoldable pub next_history : Tables → View → Call → History → History
next_history F K opens h = record { field = F; code = K; stored = λ c a. 0; rounds_made = 0 }
next_history F K (loads c values) h = record { field = h.field; code = h.code; stored = λ x a. cond (x == c) (stores K values a) (h.stored x a); rounds_made = h.rounds_made }
next_history F K starts h = h
next_history F K (rounds pairs) h = record { field = h.field; code = h.code; stored = h.stored; rounds_made = suc h.rounds_made }
next_history F K (reads c size) h = h
next_history F K (concludes size) h = h

-- the field and the code are those of the last granted open
pub record Same (F : Tables) (K : View) (h : History) : Type 0 where
  pub field : F ≡ h.field
  pub code : K ≡ h.code

-- a call that is obeyed brings the field and the code of the last granted open; an open brings a lawful field and an admitted code of its own
unfoldable pub Brings : Call → Tables → View → History → Type 0
Brings opens F K h = Lawful F × Admitted K
Brings (loads c values) F K h = Same F K h
Brings starts F K h = Same F K h
Brings (rounds pairs) F K h = Same F K h
Brings (reads c size) F K h = Same F K h
Brings (concludes size) F K h = Same F K h

-- A frame begins as an area of any words without a slip. A call that is obeyed is made on the frame's area and slip, and has its effect.
-- A call that is refused may bring any field, code, area and slip, and changes nothing.
pub data Run : Frame → History → Type 0 where
  new : (area : List ℕ) (h : History) → Words area → Run (record { area = area; slip = no_slip }) h
  obeyed : {before after : Frame} {h : History} → Run before h → (F : Tables) (K : View) (call : Call) (reply : Reply) → Brings call F K h →
      outcome F K call before.area before.slip ≡ granted reply → Effect F K call before after → Run after (next_history F K call h)
  turned_down : {f : Frame} {h : History} → Run f h → (F : Tables) (K : View) (call : Call) (area : List ℕ) (slip : Slip) (n : ℕ) →
      outcome F K call area slip ≡ refused n → Run f h

-- the symbol at the root of a cheapest filling of the column, the lowest where several tie
pub record Decided (F : Tables) (K : View) (channel : ℕ → ℕ → ℕ) (k c d : ℕ) : Type 0 where
  pub filling : Filling k
  pub root : symbol filling ≡ d
  pub valid : Valid F K k (at_column c) filling
  pub amount : ℕ
  pub cost : Cost F K channel k (at_column c) filling amount
  pub under : (f : Filling k) → Valid F K k (at_column c) f → (v : ℕ) → Cost F K channel k (at_column c) f v → amount ≤ v
  pub lowest : (f : Filling k) → Valid F K k (at_column c) f → Cost F K channel k (at_column c) f amount → d ≤ symbol f

-- on each row, coefficients times symbols sum to 0
abbrev pub EveryCheck : Tables → View → (ℕ → ℕ) → Type 0
EveryCheck F K word = (r : ℕ) → r < K.header.rows → row_sum F K word r ≡ 0

-- what read tells of a column: distances that are what the cheapest fillings cost, as deep as rounds were made, and the decided symbol
pub record ColumnRight (h : History) (c : ℕ) (distances : List ℕ) (d : ℕ) : Type 0 where
  pub long : length distances ≡ h.code.header.order
  pub cheapest : (a : ℕ) → a < h.code.header.order → Cheapest h.field h.code h.stored h.rounds_made c a (slice_index distances a)
  pub symbol : Decided h.field h.code h.stored h.rounds_made c d

pub record ReadsRight (f : Frame) (h : History) : Type 0 where
  pub tells : (c size : ℕ) (distances : List ℕ) (d : ℕ) → outcome h.field h.code (reads c size) f.area f.slip ≡ granted (column_told distances d) → ColumnRight h c distances d
  pub grant : (c : ℕ) → c < h.code.header.columns → grants (outcome h.field h.code (reads c h.code.header.order) f.area f.slip) ≡ true

-- conclude grants exactly when the decided symbols satisfy every check; the word is those symbols, and the rounds are those made
pub record ConcludesRight (f : Frame) (h : History) : Type 0 where
  pub some : (c : ℕ) → c < h.code.header.columns → (d : ℕ) × Decided h.field h.code h.stored h.rounds_made c d
  pub once : (c d e : ℕ) → Decided h.field h.code h.stored h.rounds_made c d → Decided h.field h.code h.stored h.rounds_made c e → d ≡ e
  pub grant : (s : ℕ → ℕ) → ((c : ℕ) → c < h.code.header.columns → Decided h.field h.code h.stored h.rounds_made c (s c)) →
      (grants (outcome h.field h.code (concludes h.code.header.columns) f.area f.slip) ≡ true) ↔ EveryCheck h.field h.code s
  pub long : (size : ℕ) (word : List ℕ) (made : ℕ) → outcome h.field h.code (concludes size) f.area f.slip ≡ granted (word_told word made) → length word ≡ h.code.header.columns
  pub symbols : (size : ℕ) (word : List ℕ) (made : ℕ) → outcome h.field h.code (concludes size) f.area f.slip ≡ granted (word_told word made) →
      (c : ℕ) → c < h.code.header.columns → Decided h.field h.code h.stored h.rounds_made c (slice_index word c)
  pub made : (size : ℕ) (word : List ℕ) (made : ℕ) → outcome h.field h.code (concludes size) f.area f.slip ≡ granted (word_told word made) → made ≡ h.rounds_made

-- the law: after every run that leaves a running slip, read tells and conclude grants as the unrolled tree says
abbrev pub RunsStand : Type 0
RunsStand = (f : Frame) (h : History) → Run f h → (n : Numbers) (r : ℕ) → f.slip ≡ running n r → ReadsRight f h × ConcludesRight f h

-- a load of a column below N with q values is granted, and so is start
pub record LoadsOn (f : Frame) (h : History) : Type 0 where
  pub load : (c : ℕ) (values : List ℕ) → c < h.code.header.columns → length values ≡ h.code.header.order → grants (outcome h.field h.code (loads c values) f.area f.slip) ≡ true
  pub start : grants (outcome h.field h.code starts f.area f.slip) ≡ true

-- a round is granted exactly while fewer than L are made; it tells one more than were made, and how many checks its decided symbols fail
pub record RoundsOn (f : Frame) (h : History) : Type 0 where
  pub grant : (pairs : PairsRule) → (grants (outcome h.field h.code (rounds pairs) f.area f.slip) ≡ true) ↔ (h.rounds_made < h.code.header.limit)
  pub made : (pairs : PairsRule) (m fails p : ℕ) → outcome h.field h.code (rounds pairs) f.area f.slip ≡ granted (round_told m fails p) → m ≡ suc h.rounds_made
  pub fails : (pairs : PairsRule) (m fails p : ℕ) → outcome h.field h.code (rounds pairs) f.area f.slip ≡ granted (round_told m fails p) →
      (s : ℕ → ℕ) → ((c : ℕ) → c < h.code.header.columns → Decided h.field h.code h.stored (suc h.rounds_made) c (s c)) → fails ≡ failing h.field h.code s

-- no run is stuck: what may be asked of a frame next is granted
abbrev pub GoesOn : Type 0
GoesOn = (f : Frame) (h : History) → Run f h →
    ((n : Numbers) → f.slip ≡ loading n → LoadsOn f h) × ((n : Numbers) (r : ℕ) → f.slip ≡ running n r → RoundsOn f h)
