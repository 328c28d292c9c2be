-- The float product of a whole number and a step is exact, so the float test is the exact one.
use Rattle.std.proofs.Common.{◌≡◌, ℕ, ◌+◌, ◌-◌, ◌*◌, ◌^◌, ◌<◌, ◌≤◌, true, false, pos, sym, refl, ap, ◌∙◌, subst, true≢false, mul_assoc, mul_comm, mul-le-mul_left, one-mul, mul-one, mul_left_comm, arith, lit<, pow_pos, pow_mono, pow-add}
use lib.Ieee.{Float, nan, inf, fin, binary32, down, round, of_int, mul, le}
use lib.Ieee.Exact.{HasValue, round_exact}
use lib.Ieee.Positive.{positive_of_value, mul_at}
use Rattle.sampling.specs.Exact.{times, size, sized}
use Rattle.sampling.specs.Receiver.{is_step, Power}
use Rattle.sampling.specs.Levels.{reaches}
use Rattle.sampling.proofs.Order.{le_sized, under_pos, same_left}
use Rattle.sampling.proofs.Steps.{power_of}

-- k as a float
whole : (k : ℕ) → k ≤ 1023 → HasValue (of_int binary32 (pos k)) false k 1
unfolding of_int
whole k h = round_exact binary32 false k 1 k 149 (lit< tt) (omega arith) (omega arith) (sym (mul-one (k * 2 ^ 149)))

power_value : (j : ℕ) (x : Float) → Power j x → HasValue x false 1 (2 ^ j)
power_value j nan p = absurd (true≢false (sym p.finite))
power_value j (inf s) p = absurd (true≢false (sym p.finite))
power_value j (fin true m e) p = absurd (true≢false (sym p.finite))
power_value j (fin false m e) p = (refl, p.value ∙ sym (one-mul (down e)))

product : (k j : ℕ) (step : Float) → 0 < k → k ≤ 1023 → j ≤ 10 → Power j step → HasValue (mul binary32 (of_int binary32 (pos k)) step) false k (2 ^ j)
product k j step l h few s =
    let hx = whole k h in
    let hs = power_value j step s in
    let px = positive_of_value (of_int binary32 (pos k)) k 1 hx l in
    let ps = positive_of_value step 1 (2 ^ j) hs (lit< tt) in
    let is = mul_at binary32 (of_int binary32 (pos k)) step k 1 1 (2 ^ j) px ps (lit< tt) (pow_pos j) hx hs in
    let r = 149 - j in
    let back : r + j ≡ 149 = omega arith in
    let split : 2 ^ 149 ≡ 2 ^ r * 2 ^ j = ap (λ x. 2 ^ x) (sym back) ∙ pow-add 2 r j in
    let same : k * 2 ^ 149 ≡ k * 2 ^ r * 2 ^ j = ap (λ x. k * x) split ∙ sym (mul_assoc k (2 ^ r) (2 ^ j)) in
    let less : k * 2 ^ r ≤ k * 2 ^ 149 = mul-le-mul_left k (pow_mono {i = r} {j = 149} (omega arith)) in
    let v = round_exact binary32 false k (2 ^ j) k r (pow_pos j) (omega arith) (omega arith) same in
    subst (λ x. HasValue x false k (2 ^ j)) (sym (is ∙ (λ i. round binary32 false (mul-one k i) (one-mul (2 ^ j) i)))) v

value_sized : (x : Float) (a c : ℕ) → HasValue x false a c → sized x ≡ true
value_sized nan a c v = absurd v
value_sized (inf s) a c v = absurd v
value_sized (fin true p d) a c v = absurd (true≢false v.0)
value_sized (fin false p d) a c v = refl

value_size : (x : Float) (a c : ℕ) → HasValue x false a c → (size x).over * c ≡ a * (size x).under
value_size nan a c v = absurd v
value_size (inf s) a c v = absurd v
value_size (fin t p d) a c v = v.1

-- a number that is k / 2 ^ j is k times a step of 1 / 2 ^ j
crossed : (k w a b p d : ℕ) → a * w ≡ b → p * w ≡ k * d → p * b ≡ k * a * d
crossed k w a b p d e f =
    ap (λ x. p * x) (sym e)
    ∙ mul_left_comm p a w
    ∙ ap (λ x. a * x) f
    ∙ sym (mul_assoc a k d)
    ∙ ap (λ x. x * d) (mul_comm a k)

pub exact : (k : ℕ) (step m : Float) → 0 < k → k ≤ 1023 → is_step step ≡ true → sized m ≡ true → le (mul binary32 (of_int binary32 (pos k)) step) m ≡ reaches (size step) (size m) k
exact k step m l h s z =
    let r = power_of step s in
    let y = mul binary32 (of_int binary32 (pos k)) step in
    let v = product k r.0 step l h r.1 r.2 in
    le_sized y m (value_sized y k (2 ^ r.0) v) z
    ∙ same_left (size y) (times k (size step)) (size m) (under_pos y) (under_pos step) (under_pos m)
    (crossed k (2 ^ r.0) (size step).over (size step).under (size y).over (size y).under r.2.value (value_size y k (2 ^ r.0) v))
