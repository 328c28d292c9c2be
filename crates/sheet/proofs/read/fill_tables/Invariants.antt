use Rattle.std.proofs.Common.{◌-◌, length}
use Rattle.sheet.proofs.Walks.{Reached}
use Rattle.sheet.proofs.read.fill_tables.Given as goal

abbrev pub invariant-loop-end : goal.invariant-loop-end
invariant-loop-end l = Reached l.text l.header l.initial.place l.initial.edges l.initial.entries l.due l.place l.w l.k l.edges l.entries

abbrev pub decreases-loop-end : goal.decreases-loop-end
decreases-loop-end l = length l.text - l.place.byte
