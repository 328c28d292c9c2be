-- The product of polynomials: linear in both factors, the same in either order and either bracketing. Assumes nothing.
use Rattle.std.specs.Prelude.{◌≡◌, ℕ, zero, suc, ◌+◌, ◌*◌, ◌/◌, ◌%◌, ◌^◌, ◌<◌, ◌≤◌, Bool, true, false, cond, ◌==◌, bit_xor, refl}
use Rattle.std.proofs.Common.{sym, ap, ap₂, ◌∙◌, add-zero, add-suc, add_comm, mul-one, mul_assoc, mul_comm, mod-lt, pow-suc, arith, pow_pos, pow_mono, pow-add}
use Rattle.std.proofs.Math.Nat.{mul-mod_left, pow-zero, div_self, div-eq_of_lt}
use Rattle.std.specs.Int.Bits.{xor_self, xor_zero_r}
use Rattle.std.proofs.lemmas.Nat.{xor_shr, xor_mod, xor_lt, shl-shr}
use Rattle.binary.specs.Polynomials.{has_power, shifts_below, carryless}
use Rattle.binary.specs.Sums.{Linear, lin_zero, ext, xor_swap, xor_shift, below_pow}

-- y where b has the power i, else 0
abbrev term : ℕ → ℕ → ℕ → ℕ
term b i y = cond (has_power b i) y 0

term_l : (i y b d : ℕ) → term (bit_xor b d) i y ≡ bit_xor (term b i y) (term d i y)
term_l i y b d =
    ap (λ (x : ℕ). cond (x == 1) y 0) (ap (λ (x : ℕ). x % 2) (xor_shr b d i) ∙ xor_mod (b / 2 ^ i) (d / 2 ^ i) 1)
    ∙ go (b / 2 ^ i % 2) (d / 2 ^ i % 2) (mod-lt (b / 2 ^ i) (omega arith)) (mod-lt (d / 2 ^ i) (omega arith))
  where
    go : (v w : ℕ) → v < 2 → w < 2 → cond (bit_xor v w == 1) y 0 ≡ bit_xor (cond (v == 1) y 0) (cond (w == 1) y 0)
    go zero zero p q = refl
    go zero (suc zero) p q = refl
    go zero (suc (suc w)) p q = absurd (omega arith)
    go (suc zero) zero p q = sym (xor_zero_r y)
    go (suc zero) (suc zero) p q = sym (xor_self y)
    go (suc zero) (suc (suc w)) p q = absurd (omega arith)
    go (suc (suc v)) w p q = absurd (omega arith)

term_r : (b i : ℕ) → Linear (term b i)
term_r b i y z = go (has_power b i)
  where
    go : (v : Bool) → cond v (bit_xor y z) 0 ≡ bit_xor (cond v y 0) (cond v z 0)
    go true = refl
    go false = refl

shifts_l : (n b : ℕ) → Linear (λ a. shifts_below n a b)
unfolding shifts_below
shifts_l zero b x y = refl
shifts_l (suc n) b x y =
    ap₂ bit_xor (ap (term b n) (xor_shift n x y) ∙ term_r b n (x * 2 ^ n) (y * 2 ^ n)) (shifts_l n b x y)
    ∙ xor_swap (term b n (x * 2 ^ n)) (term b n (y * 2 ^ n)) (shifts_below n x b) (shifts_below n y b)

shifts_r : (n a : ℕ) → Linear (shifts_below n a)
unfolding shifts_below
shifts_r zero a x y = refl
shifts_r (suc n) a x y =
    ap₂ bit_xor (term_l n (a * 2 ^ n) x y) (shifts_r n a x y)
    ∙ xor_swap (term x n (a * 2 ^ n)) (term y n (a * 2 ^ n)) (shifts_below n a x) (shifts_below n a y)

-- powers that b does not have add nothing
shifts_more : (n j a b : ℕ) → b < 2 ^ n → shifts_below (n + j) a b ≡ shifts_below n a b
unfolding shifts_below
shifts_more n zero a b h = ap (λ (k : ℕ). shifts_below k a b) (add-zero n)
shifts_more n (suc j) a b h =
    ap (λ (k : ℕ). shifts_below k a b) (add-suc n j)
    ∙ ap (λ (x : ℕ). bit_xor (cond (x % 2 == 1) (a * 2 ^ (n + j)) 0) (shifts_below (n + j) a b))
    (div-eq_of_lt (let w : 2 ^ n ≤ 2 ^ (n + j) = pow_mono (omega arith) in omega arith))
    ∙ shifts_more n j a b h

pub carry_at : (n a b : ℕ) → b < 2 ^ n → carryless a b ≡ shifts_below n a b
unfolding carryless
carry_at n a b h =
    sym (shifts_more b n a b (below_pow b)) ∙ ap (λ (k : ℕ). shifts_below k a b) (add_comm b n) ∙ shifts_more n b a b h

pub carry_l : (b : ℕ) → Linear (λ a. carryless a b)
unfolding carryless
carry_l b x y = shifts_l b b x y

pub carry_r : (a : ℕ) → Linear (carryless a)
carry_r a x y =
    let hx : x < 2 ^ (x + y) = (let w : 2 ^ x ≤ 2 ^ (x + y) = pow_mono (omega arith) in let v = below_pow x in omega arith) in
    let hy : y < 2 ^ (x + y) = (let w : 2 ^ y ≤ 2 ^ (x + y) = pow_mono (omega arith) in let v = below_pow y in omega arith) in
    carry_at (x + y) a (bit_xor x y) (xor_lt (x + y) x y hx hy) ∙ shifts_r (x + y) a x y
    ∙ sym (ap₂ bit_xor (carry_at (x + y) a x hx) (carry_at (x + y) a y hy))

pub carry_zero : (a : ℕ) → carryless a 0 ≡ 0
carry_zero a = lin_zero (carryless a) (carry_r a)

-- a multiple of 2 ^ n has no power below n
shifts_none : (n a x : ℕ) → shifts_below n a (x * 2 ^ n) ≡ 0
unfolding shifts_below
shifts_none zero a x = refl
shifts_none (suc n) a x =
    let e : x * 2 ^ suc n ≡ x * 2 * 2 ^ n = ap (λ (y : ℕ). x * y) (pow-suc 2 n ∙ mul_comm (2 ^ n) 2) ∙ sym (mul_assoc x 2 (2 ^ n)) in
    let even : x * 2 ^ suc n / 2 ^ n % 2 ≡ 0 = ap (λ (y : ℕ). y / 2 ^ n % 2) e ∙ ap (λ (y : ℕ). y % 2) (shl-shr (x * 2) n) ∙ mul-mod_left x 2 in
    ap₂ bit_xor (ap (λ (y : ℕ). cond (y == 1) (a * 2 ^ n) 0) even) (ap (shifts_below n a) e ∙ shifts_none n a (x * 2))

-- a power shifts
pub carry_power : (j a : ℕ) → carryless a (2 ^ j) ≡ a * 2 ^ j
unfolding shifts_below
carry_power j a =
    let low : shifts_below j a (2 ^ j) ≡ 0 = ap (shifts_below j a) (sym (one j)) ∙ shifts_none j a 1 in
    let here : 2 ^ j / 2 ^ j % 2 ≡ 1 = ap (λ (y : ℕ). y % 2) (div_self (pow_pos j)) in
    carry_at (suc j) a (2 ^ j) (let e = two j in let h = pow_pos j in omega arith)
    ∙ ap₂ bit_xor (ap (λ (y : ℕ). cond (y == 1) (a * 2 ^ j) 0) here) low ∙ xor_zero_r (a * 2 ^ j)
  where
    one : (j : ℕ) → 1 * 2 ^ j ≡ 2 ^ j
    one j = omega arith

    two : (j : ℕ) → 2 ^ suc j ≡ 2 ^ j * 2
    two j = pow-suc 2 j

-- a factor of 2 ^ k comes out
pub carry_shift : (k a b : ℕ) → carryless a (b * 2 ^ k) ≡ carryless a b * 2 ^ k
carry_shift k a =
    ext (λ b. carryless a (b * 2 ^ k)) (λ b. carryless a b * 2 ^ k)
    (λ x y. ap (carryless a) (xor_shift k x y) ∙ carry_r a (x * 2 ^ k) (y * 2 ^ k))
    (λ x y. ap (λ (z : ℕ). z * 2 ^ k) (carry_r a x y) ∙ xor_shift k (carryless a x) (carryless a y))
    (λ j. ap (carryless a) (sym (pow-add 2 j k)) ∙ carry_power (j + k) a ∙ ap (λ (z : ℕ). a * z) (pow-add 2 j k)
    ∙ sym (mul_assoc a (2 ^ j) (2 ^ k)) ∙ ap (λ (z : ℕ). z * 2 ^ k) (sym (carry_power j a)))

pub power_carry : (i b : ℕ) → carryless (2 ^ i) b ≡ b * 2 ^ i
power_carry i =
    ext (carryless (2 ^ i)) (λ b. b * 2 ^ i) (carry_r (2 ^ i)) (xor_shift i)
    (λ j. carry_power j (2 ^ i) ∙ mul_comm (2 ^ i) (2 ^ j))

pub carry_comm : (a b : ℕ) → carryless a b ≡ carryless b a
carry_comm a b =
    ext (λ a. carryless a b) (carryless b) (carry_l b) (carry_r b) (λ i. power_carry i b ∙ sym (carry_power i b)) a

pub carry_assoc : (a b c : ℕ) → carryless (carryless a b) c ≡ carryless a (carryless b c)
carry_assoc a b =
    ext (carryless (carryless a b)) (λ c. carryless a (carryless b c)) (carry_r (carryless a b))
    (λ x y. ap (carryless a) (carry_r b x y) ∙ carry_r a (carryless b x) (carryless b y))
    (λ k. carry_power k (carryless a b) ∙ sym (carry_shift k a b) ∙ ap (carryless a) (sym (carry_power k b)))

pub one_carry : (a : ℕ) → carryless 1 a ≡ a
one_carry a = power_carry 0 a ∙ ap (λ (z : ℕ). a * z) (pow-zero 2) ∙ mul-one a
