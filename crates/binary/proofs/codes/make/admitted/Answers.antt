use Rattle.std.proofs.Common.{◌≡◌, ℕ, ◌/◌, ◌^◌, ◌≤◌, true, false, sym, arith, eq-eqb, le-leb}
use Rattle.std.proofs.lemmas.Nat.{one_shl}
use Rattle.binary.specs.Polynomials.{reducible}
use Rattle.binary.specs.Fields.{is_binary}
use Rattle.binary.specs.Laws.{made_of}
use Rattle.binary.proofs.codes.make.admitted.Goals as goal

-- what is not refused is a binary field
granted : (p m : ℕ) → 1 ≤ p → p ≤ 6 → m / 2 ^ p ≡ 1 → reducible p m ≡ false → is_binary p m ≡ true
unfolding is_binary
granted p m lo hi degree whole = rw (le-leb 1 p lo, le-leb p 6 hi, eq-eqb (m / 2 ^ p) 1 degree, whole)

pub invariant_of-result : goal.invariant_of-result
invariant_of-result c =
    let p : ℕ = c.args.p in
    let g = granted p c.args.polynomial c.if-p-lt1.false c.if-p-gt6.false c.if-polynomial-p-ne1.false (sym c.if-splits.ensures) in
    record { admitted = g; sized = one_shl p 8 (omega (arith, (made_of p c.args.polynomial g).high)) }
