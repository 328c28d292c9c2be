-- What a call answers by its tests, and what it leaves in the area. Assumes nothing.
use Rattle.std.specs.Prelude.{◌≡◌, ℕ, suc, ◌≤◌, false, List, length, take, drop, Ok, Err, Result, ◌==◌}
use Rattle.field.specs.Tables.{Tables}
use Rattle.code.specs.Views.{View}
use Rattle.tree.specs.Rows.{PairsRule, round_pairs}
use Rattle.tree.specs.Frame.{Numbers, Slip, running, Call, rounds, concludes, Reply, round_told, word_told, Outcome, granted, refused, want, grants, outcome, held_words, area_words, held_after, parts_of, next_parts, decided, failing, word_of}
use Rattle.tree.specs.Frame as Frame
use Rattle.due.specs.declared.refusal.FrameRefusal.{FrameRefusal}
use Rattle.due.specs.Refusals.{number_of}

-- a call that nothing refuses is granted
abbrev pub verdict_of : Result (Unit {0}) FrameRefusal → Reply → Outcome
verdict_of (Ok x) reply = granted reply
verdict_of (Err e) reply = refused (number_of e)

-- the four parts and the surplus; a refused call leaves every word as it was
pub record AreaAfter (F : Tables) (K : View) (call : Call) (slip : Slip) (before after : List ℕ) : Type 0 where
  pub held : take (held_words K) after ≡ held_after F K call before slip
  pub surplus : drop (area_words K) after ≡ drop (area_words K) before
  pub kept : grants (outcome F K call before slip) ≡ false → after ≡ before

-- what a round tells
abbrev pub round_reply : Tables → View → PairsRule → List ℕ → ℕ → Reply
round_reply F K pairs area made =
    round_told (suc made) (failing F K (decided K (next_parts F K (rounds pairs) (parts_of K area)))) (round_pairs pairs F K (parts_of K area).to_check)

-- the outcome of conclude, by its first four tests and then by the rows
pub record ConcludeRows (F : Tables) (K : View) (numbers : Numbers) (area : List ℕ) (size : ℕ) : Type 0 where
  pub outcome : (made : ℕ) → Frame.outcome F K (concludes size) area (running numbers made) ≡
      want (failing F K (decided K (parts_of K area)) == 0) 24 (granted (word_told (word_of K (parts_of K area)) made))
  pub order : F.order ≡ K.header.order
  pub room : area_words K ≤ length area
  pub long : size ≡ K.header.columns

abbrev pub conclude_tests : Result (Unit {0}) FrameRefusal → Tables → View → Numbers → List ℕ → ℕ → Type 0
conclude_tests (Err e) F K numbers area size = (made : ℕ) → Frame.outcome F K (concludes size) area (running numbers made) ≡ refused (number_of e)
conclude_tests (Ok x) F K numbers area size = ConcludeRows F K numbers area size
