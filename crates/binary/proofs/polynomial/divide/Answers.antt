use Rattle.std.proofs.Common.{◌≡◌, ℕ, suc, ◌+◌, ◌-◌, ◌^◌, ◌<◌, subst, arith}
use lib.Count.{count_leading_zeros}
use Rattle.std.proofs.lemmas.Nat.{one_shl, shl_whole}
use Rattle.binary.specs.Degrees.{Degree, degree_bounds}
use Rattle.binary.proofs.Turns.{Dividing, degree_by, dividing_none, dividing_take, dividing_skip, dividing_all}
use Rattle.binary.proofs.polynomial.divide.Goals as goal

-- the power of this turn is one below the counter
turn : (x d i n k r : ℕ) → 0 < n → Dividing x d i n k r → Dividing x d i (suc (n - 1)) k r
turn x d i n k r h t = let e : n ≡ suc (n - 1) = omega arith in subst (λ (j : ℕ). Dividing x d i j k r) e t

pub loop-i-init : goal.loop-i-init
loop-i-init c =
    let i : ℕ = 7 - count_leading_zeros 8 c.args.d in
    let e : i + (8 - i) ≡ 8 = omega arith in
    dividing_none c.args.x c.args.d i (8 - i) e (omega arith)

pub loop-i-preserved-then-rest-degree-eq1 : goal.loop-i-preserved-then-rest-degree-eq1
loop-i-preserved-then-rest-degree-eq1 c =
    let d : ℕ = c.args.d in
    let i : ℕ = 7 - count_leading_zeros 8 d in
    let n : ℕ = c.loop-i.i - 1 in
    let g : Degree d i = degree_by d c.requires (omega arith) in
    let high : d < 2 ^ suc i = (degree_bounds d i g).1 in
    rw (one_shl n 8 (omega arith), shl_whole d (suc i) n 8 high (omega arith))
    (dividing_take c.args.x d i n c.loop-i.quotient c.loop-i.rest g
    (turn c.args.x d i c.loop-i.i c.loop-i.quotient c.loop-i.rest c.loop-i-test.true c.loop-i.invariant)
    c.if-rest-degree-eq1.true)

pub loop-i-preserved : goal.loop-i-preserved
loop-i-preserved c =
    let d : ℕ = c.args.d in
    let i : ℕ = 7 - count_leading_zeros 8 d in
    dividing_skip c.args.x d i (c.loop-i.i - 1) c.loop-i.quotient c.loop-i.rest
    (turn c.args.x d i c.loop-i.i c.loop-i.quotient c.loop-i.rest c.loop-i-test.true c.loop-i.invariant)
    c.if-rest-degree-eq1.false

pub returns : goal.returns
returns c =
    let d : ℕ = c.args.d in
    let i : ℕ = 7 - count_leading_zeros 8 d in
    let z : c.loop-i.i ≡ 0 = omega arith in
    dividing_all c.args.x d i c.loop-i.quotient c.loop-i.rest (degree_by d c.requires (omega arith))
    (subst (λ (j : ℕ). Dividing c.args.x d i j c.loop-i.quotient c.loop-i.rest) z c.loop-i.invariant)
