use Rattle.code.specs.Admission.{admission}
use Rattle.code.proofs.code.admit.fault_of.Goals as goal

pub returns : goal.returns
unfolding admission
returns c = record { answer = c.first_fault.ensures }
