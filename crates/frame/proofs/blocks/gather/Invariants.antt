use Rattle.std.proofs.Common.{◌≡◌, ℕ, ◌<◌, get_or}
use Rattle.frame.proofs.blocks.gather.Given as goal

abbrev pub invariant-loop-c : goal.invariant-loop-c
invariant-loop-c g l = (x : ℕ) → x < l.c → get_or l.out x 0 ≡ get_or l.v ((g.F.Field.meaning l.field).product l.k x) 0
