-- The bits of a code and of the code that is one bit longer.
use Rattle.std.proofs.Common.{◌≡◌, ℕ, suc, ◌+◌, ◌-◌, ◌*◌, ◌/◌, ◌%◌, ◌^◌, ◌<◌, true, false, eqb, sym, ap, ◌∙◌, mul_assoc, add_comm, arith, pow_pos, pow-add}
use native.Mathlib.Nat.{div-eq_of_lt, add-div_left, add-mul-div_right, add-mul-mod_self_right}
use Rattle.sampling.specs.Costs.{bit_at}

pub bit_low : (i a : ℕ) → a < 2 ^ i → bit_at i a ≡ false
bit_low i a h = ap (λ n. eqb (n % 2) 1) (div-eq_of_lt h)

pub bit_high : (i a : ℕ) → a < 2 ^ i → bit_at i (2 ^ i + a) ≡ true
bit_high i a h = ap (λ n. eqb (n % 2) 1) (add-div_left a (pow_pos i) ∙ ap (λ n. n + 1) (div-eq_of_lt h))

-- 2 ^ i is an even number of 2 ^ j
even : (i j : ℕ) → j < i → 2 ^ i ≡ 2 ^ (i - suc j) * 2 * 2 ^ j
even i j h =
    let e : i ≡ i - suc j + (1 + j) = omega arith in
    ap (λ n. 2 ^ n) e ∙ pow-add 2 (i - suc j) (1 + j) ∙ ap (λ n. 2 ^ (i - suc j) * n) (pow-add 2 1 j) ∙ sym (mul_assoc (2 ^ (i - suc j)) 2 (2 ^ j))

pub bit_same : (i j a : ℕ) → j < i → bit_at j (2 ^ i + a) ≡ bit_at j a
bit_same i j a h =
    let w = 2 ^ (i - suc j) in
    let e : (2 ^ i + a) / 2 ^ j ≡ a / 2 ^ j + w * 2 = ap (λ n. n / 2 ^ j) (add_comm (2 ^ i) a ∙ ap (λ n. a + n) (even i j h)) ∙ add-mul-div_right a (w * 2) (pow_pos j) in
    ap (λ n. eqb n 1) (ap (λ n. n % 2) e ∙ add-mul-mod_self_right (a / 2 ^ j) w 2)
