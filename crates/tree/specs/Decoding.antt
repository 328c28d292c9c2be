-- Decoding a frame that has begun: rounds until no row fails or the limit is reached, and then conclude. Assumes nothing.
use Rattle.std.specs.Prelude.{◌≡◌, ℕ, zero, suc, ◌≤◌, Bool, false, cond, not, ◌&&◌, List, length, take, drop, ◌==◌}
use Rattle.field.specs.Tables.{Tables, Lawful}
use Rattle.code.specs.Views.{View}
use Rattle.tree.specs.Places.{Admitted}
use Rattle.tree.specs.Rows.{PairsRule}
use Rattle.tree.specs.Frame.{Frame, Numbers, running, held_words, area_words, parts_of, decided, failing, rounds, concludes, Outcome, granted, refused, no_call, grants, outcome, obey}
use Rattle.tree.specs.Run.{History, next_history, Same, Run, ReadsRight, ConcludesRight}

-- how many rows the decided symbols of a frame fail
unfoldable pub fails : Tables → View → Frame → ℕ
fails F K f = failing F K (decided K (parts_of K f.area))

-- what a round and a conclude answer on a frame
abbrev pub round_on : Tables → View → PairsRule → Frame → Outcome
round_on F K pairs f = outcome F K (rounds pairs) f.area f.slip

abbrev pub conclude_on : Tables → View → ℕ → Frame → Outcome
conclude_on F K size f = outcome F K (concludes size) f.area f.slip

-- a round is due: the word to be written has N places, a row fails, and the round is granted
unfoldable pub is_due : Tables → View → PairsRule → ℕ → Frame → Bool
is_due F K pairs size f = size == K.header.columns && (not (fails F K f == 0) && grants (round_on F K pairs f))

-- the frame after the rounds that are due, n of them at most, and how many they are
unfoldable pub settled : Tables → View → PairsRule → ℕ → ℕ → Frame → Frame
settled F K pairs size zero f = f
settled F K pairs size (suc n) f = cond (is_due F K pairs size f) (settled F K pairs size n (obey F K (rounds pairs) f)) f

unfoldable pub rounds_due : Tables → View → PairsRule → ℕ → ℕ → Frame → ℕ
rounds_due F K pairs size zero f = 0
rounds_due F K pairs size (suc n) f = cond (is_due F K pairs size f) (suc (rounds_due F K pairs size n (obey F K (rounds pairs) f))) 0

-- no more than L rounds are ever due, so the frame at the end is the one after L of them at most
abbrev pub at_end : Tables → View → PairsRule → ℕ → Frame → Frame
at_end F K pairs size f = settled F K pairs size K.header.limit f

abbrev pub rounds_to : Tables → View → PairsRule → ℕ → Frame → ℕ
rounds_to F K pairs size f = rounds_due F K pairs size K.header.limit f

-- why no further round was made while a row fails: at the limit the row is told, else the refusal of the round
abbrev pub stopped : Outcome → Outcome
stopped (granted reply) = refused 24
stopped (refused n) = cond (n == 23) (refused 24) (refused n)
stopped no_call = no_call

-- what conclude answers; where a row fails, why no further round was made
abbrev pub ended : Outcome → Outcome → Outcome
ended (granted reply) round = granted reply
ended (refused n) round = cond (n == 24) (stopped round) (refused n)
ended no_call round = no_call

-- what decoding answers: what conclude and a further round answer at the end
unfoldable pub decoding : Tables → View → PairsRule → ℕ → Frame → Outcome
decoding F K pairs size f = ended (conclude_on F K size (at_end F K pairs size f)) (round_on F K pairs (at_end F K pairs size f))

-- two areas that differ in scratch alone
pub record Alike (K : View) (a b : List ℕ) : Type 0 where
  pub as_long : length a ≡ length b
  pub held : take (held_words K) a ≡ take (held_words K) b
  pub surplus : drop (area_words K) a ≡ drop (area_words K) b

-- the history once k more rounds are made
unfoldable pub later : Tables → View → PairsRule → ℕ → History → History
later F K pairs zero h = h
later F K pairs (suc k) h = later F K pairs k (next_history F K (rounds pairs) h)

-- decoding ends within L rounds, and then no round is due
pub record EndsInTime (F : Tables) (K : View) (pairs : PairsRule) (size : ℕ) (f : Frame) : Type 0 where
  pub few : rounds_to F K pairs size f ≤ K.header.limit
  pub over : is_due F K pairs size (at_end F K pairs size f) ≡ false

-- its rounds are a run that goes on from the frame's own, and at its end read and conclude answer as the unrolled tree says, so deep as rounds were made
pub record RunsOn (F : Tables) (K : View) (pairs : PairsRule) (size : ℕ) (f : Frame) (h : History) : Type 0 where
  pub run : Run (at_end F K pairs size f) (later F K pairs (rounds_to F K pairs size f) h)
  pub reads : ReadsRight (at_end F K pairs size f) (later F K pairs (rounds_to F K pairs size f) h)
  pub concludes : ConcludesRight (at_end F K pairs size f) (later F K pairs (rounds_to F K pairs size f) h)

-- the frame that is really left, whatever its scratch holds, is such a run's end too
abbrev pub OwnRun : Tables → View → PairsRule → ℕ → Frame → List ℕ → Type 0
OwnRun F K pairs size f after =
    (h : History) (n : Numbers) (r : ℕ) → f.slip ≡ running n r → Run f h → Same F K h → Run (record { area = after; slip = (at_end F K pairs size f).slip }) (later F K pairs (rounds_to F K pairs size f) h)

abbrev pub DecodingStands : Type 0
DecodingStands =
    (F : Tables) → Lawful F → (K : View) → Admitted K → (pairs : PairsRule) (size : ℕ) (f : Frame) →
    EndsInTime F K pairs size f × ((h : History) (n : Numbers) (r : ℕ) → f.slip ≡ running n r → Run f h → Same F K h → RunsOn F K pairs size f h)
