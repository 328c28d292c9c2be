use Rattle.std.proofs.Common.{refl}
use Rattle.code.specs.Admission.{admission}
use Rattle.code.proofs.code.Code.builtin.Goals as goal

pub invariant_of-result : goal.invariant_of-result
unfolding admission
invariant_of-result c = record { admitted = refl }
