-- What decoding answers, and what it leaves in the area. Assumes nothing.
use Rattle.std.specs.Prelude.{◌≡◌, ℕ, true, cond, List, Some, None, Ok, Err, Option, Result, ◌==◌}
use Rattle.field.specs.Tables.{Tables}
use Rattle.code.specs.Views.{View}
use Rattle.due.specs.Refusals.{number_of}
use Rattle.tree.specs.Rows.{PairsRule}
use Rattle.tree.specs.Frame.{Slip, Frame, Words, Outcome, granted, refused, grants, word_told}
use Rattle.tree.specs.Decoding.{Alike, fails, round_on, conclude_on, at_end, rounds_to, stopped}
use Rattle.frame.specs.declared.slip.RunningSlip.{RunningSlip}
use Rattle.frame.specs.Slips.{running_of}
use Rattle.decoding.specs.declared.settling.Stop.{Stop}
use Rattle.decoding.specs.declared.decoded.NotDecoded.{NotDecoded}

-- the frame of an area and a running slip
abbrev pub frame_of : List ℕ → RunningSlip → Frame
frame_of area slip = record { area = area; slip = running_of slip }

-- how many rows fail after the last of k rounds, if there is one
abbrev pub last_failing : ℕ → ℕ → Option ℕ
last_failing k n = cond (k == 0) None (Some n)

-- decoding answers the rounds made and writes the word
abbrev pub decoded : Result ℕ NotDecoded → List ℕ → Outcome
decoded (Ok made) word = granted (word_told word made)
decoded (Err e) word = refused (number_of e.refusal)

-- what a refusal gives back
abbrev pub slip_back : Result ℕ NotDecoded → Option Slip
slip_back (Ok made) = None
slip_back (Err e) = Some (running_of e.slip)

abbrev pub failing_back : Result ℕ NotDecoded → Option ℕ
failing_back (Ok made) = None
failing_back (Err e) = e.failing

-- the area at the end differs from the defined one in scratch alone; where no round was made, nothing was written
pub record AreaAtEnd (F : Tables) (K : View) (pairs : PairsRule) (size : ℕ) (f : Frame) (after : List ℕ) : Type 0 where
  pub alike : Alike K after (at_end F K pairs size f).area
  pub kept : rounds_to F K pairs size f ≡ 0 → after ≡ f.area

-- why the rounds stopped: conclude is granted, or a row fails and the next round is refused
abbrev pub Why : Tables → View → PairsRule → Result (Unit {0}) Stop → Frame → Type 0
Why F K pairs (Ok x) g = grants (conclude_on F K K.header.columns g) ≡ true
Why F K pairs (Err stop) g = (conclude_on F K K.header.columns g ≡ refused 24) × (stopped (round_on F K pairs g) ≡ stopped (refused (number_of stop.refusal)))

-- how many rows fail after the last round, as it is told: none after a round that leaves none
abbrev pub failing_told : Result (Unit {0}) Stop → Option ℕ
failing_told (Ok x) = Some 0
failing_told (Err stop) = stop.failing

pub record Settled (F : Tables) (K : View) (pairs : PairsRule) (f : Frame) (after : List ℕ) (left : Slip) (end : Result (Unit {0}) Stop) : Type 0 where
  pub area : AreaAtEnd F K pairs K.header.columns f after
  pub slip : left ≡ (at_end F K pairs K.header.columns f).slip
  pub failing : failing_told end ≡ last_failing (rounds_to F K pairs K.header.columns f) (fails F K (at_end F K pairs K.header.columns f))
  pub words : Words after
  pub why : Why F K pairs end (at_end F K pairs K.header.columns f)
