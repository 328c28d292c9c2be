-- Parts are counted by a division.
use Rattle.std.proofs.Common.{◌≡◌, ℕ, ◌/◌, ◌<◌, eqb, sym, arith}
use Rattle.std.proofs.lemmas.Bool.{cond-false, ne_eqb}
use Rattle.linked.specs.Frames.{parts}

pub counted : (len size : ℕ) → 0 < size → len / size ≡ parts len size
counted len size h = sym (cond-false (eqb size 0) 0 (len / size) (ne_eqb size 0 (λ e. omega (arith, e, h))))
