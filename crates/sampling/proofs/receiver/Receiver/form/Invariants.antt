use Rattle.std.proofs.Common.{◌≡◌, ℕ, ◌^◌, ◌<◌, get_or, take}
use Rattle.sampling.specs.Costs.{cost_of}
use Rattle.sampling.proofs.receiver.Receiver.form.Given as goal

-- the codes over the bits so far cost what the samples so far say
abbrev pub invariant-loop-i : goal.invariant-loop-i
invariant-loop-i l = (a : ℕ) → a < 2 ^ l.i → get_or l.costs a 0 ≡ cost_of l.self.settings l.self.ceiling (take l.i l.samples) a
