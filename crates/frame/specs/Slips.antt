-- Slips, refusals and answers as the values that the law over runs speaks of. Assumes nothing.
use Rattle.std.specs.Prelude.{ℕ, List, Some, None, Ok, Err, Option, Result}
use Rattle.tree.specs.Frame.{Slip, loading, running, Outcome, granted, refused, done, slip_given, round_told, column_told, word_told}
use Rattle.due.specs.declared.refusal.FrameRefusal.{FrameRefusal}
use Rattle.due.specs.Refusals.{number_of}
use Rattle.due.specs.Numbers.{numbers_in}
use Rattle.frame.specs.declared.slip.LoadingSlip.{LoadingSlip}
use Rattle.frame.specs.declared.slip.RunningSlip.{RunningSlip}
use Rattle.frame.specs.declared.slip.NotStarted.{NotStarted}
use Rattle.frame.specs.declared.slip.NotConcluded.{NotConcluded}
use Rattle.due.specs.declared.Told.{Told}

abbrev pub loading_of : LoadingSlip → Slip
loading_of s = loading (numbers_in s.numbers)

abbrev pub running_of : RunningSlip → Slip
running_of s = running (numbers_in s.numbers) s.made

-- what each call answers
abbrev pub opened : Result LoadingSlip FrameRefusal → Outcome
opened (Ok s) = granted (slip_given (loading_of s))
opened (Err e) = refused (number_of e)

abbrev pub loaded : Result (Unit {0}) FrameRefusal → Outcome
loaded (Ok x) = granted done
loaded (Err e) = refused (number_of e)

abbrev pub started : Result RunningSlip NotStarted → Outcome
started (Ok s) = granted (slip_given (running_of s))
started (Err e) = refused (number_of e.refusal)

abbrev pub rounded : Result Told FrameRefusal → Outcome
rounded (Ok t) = granted (round_told t.rounds t.failing t.pairs)
rounded (Err e) = refused (number_of e)

-- read answers the decided symbol and writes the distances to its target
abbrev pub read_out : Result ℕ FrameRefusal → List ℕ → Outcome
read_out (Ok d) target = granted (column_told target d)
read_out (Err e) target = refused (number_of e)

-- conclude answers the rounds made and writes the word
abbrev pub concluded : Result ℕ NotConcluded → List ℕ → Outcome
concluded (Ok made) word = granted (word_told word made)
concluded (Err e) word = refused (number_of e.refusal)

-- the slip that a refusal gives back
abbrev pub start_back : Result RunningSlip NotStarted → Option Slip
start_back (Ok s) = None
start_back (Err e) = Some (loading_of e.slip)

abbrev pub conclude_back : Result ℕ NotConcluded → Option Slip
conclude_back (Ok made) = None
conclude_back (Err e) = Some (running_of e.slip)
