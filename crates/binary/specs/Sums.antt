-- Exclusive or as the sum of polynomials, and functions that keep it. Assumes nothing.
use Rattle.std.specs.Prelude.{◌≡◌, ℕ, zero, suc, ◌*◌, ◌/◌, ◌%◌, ◌^◌, ◌<◌, bit_xor}
use Rattle.std.proofs.Common.{sym, ap, ap₂, subst, ◌∙◌, add-zero, zero-mul, one-mul, mod-lt, pow-suc, mul_comm, div-add-mod', arith, pow_pos}
use Rattle.std.proofs.Math.Nat.{two-pow-succ}
use Rattle.std.proofs.Math.Arith.{lt-one}
use Rattle.std.specs.Int.Bits.{xor_assoc, xor_self, xor_zero_l, xor_zero_r, xor_shifted}
use Rattle.std.proofs.lemmas.Nat.{div_below, xor_comm, xor_block}

pub xor_left : (a b c : ℕ) → bit_xor a (bit_xor b c) ≡ bit_xor b (bit_xor a c)
xor_left a b c = sym (xor_assoc a b c) ∙ ap (λ (x : ℕ). bit_xor x c) (xor_comm a b) ∙ xor_assoc b a c

pub xor_swap : (a b c d : ℕ) → bit_xor (bit_xor a b) (bit_xor c d) ≡ bit_xor (bit_xor a c) (bit_xor b d)
xor_swap a b c d = xor_assoc a b (bit_xor c d) ∙ ap (bit_xor a) (xor_left b c d) ∙ sym (xor_assoc a c (bit_xor b d))

-- a polynomial is its own opposite
pub xor_back : (a b : ℕ) → bit_xor a (bit_xor a b) ≡ b
xor_back a b = sym (xor_assoc a a b) ∙ ap (λ (x : ℕ). bit_xor x b) (xor_self a) ∙ xor_zero_l b

pub xor_same : (a b : ℕ) → bit_xor a b ≡ 0 → a ≡ b
xor_same a b e = sym (xor_zero_r a) ∙ ap (bit_xor a) (sym e) ∙ xor_back a b

-- x + y and x + z differ as y and z do
pub xor_drop : (x y z : ℕ) → bit_xor (bit_xor x y) (bit_xor x z) ≡ bit_xor y z
xor_drop x y z = xor_swap x y x z ∙ ap (λ (w : ℕ). bit_xor w (bit_xor y z)) (xor_self x) ∙ xor_zero_l (bit_xor y z)

pub xor_shift : (k a b : ℕ) → bit_xor a b * 2 ^ k ≡ bit_xor (a * 2 ^ k) (b * 2 ^ k)
xor_shift k a b =
    sym (ap₂ bit_xor (sym (add-zero (a * 2 ^ k))) (sym (add-zero (b * 2 ^ k))) ∙ xor_block k a b 0 0 (pow_pos k) (pow_pos k) ∙ add-zero (bit_xor a b * 2 ^ k))

pub below_pow : (n : ℕ) → n < 2 ^ n
below_pow zero = pow_pos 0
below_pow (suc n) = let h : n < 2 ^ n = below_pow n in let e = two-pow-succ n in omega arith

abbrev pub Linear : (ℕ → ℕ) → Type 0
Linear f = (a b : ℕ) → f (bit_xor a b) ≡ bit_xor (f a) (f b)

pub lin_zero : (f : ℕ → ℕ) → Linear f → f 0 ≡ 0
lin_zero f l = l 0 0 ∙ xor_self (f 0)

-- what holds of the powers and of sums holds of each polynomial
below_ind : (P : ℕ → Type 0) → P 0 → ((a b : ℕ) → P a → P b → P (bit_xor a b)) → ((i : ℕ) → P (2 ^ i)) → (n a : ℕ) → a < 2 ^ n → P a
below_ind P z s powers zero a h = subst P (sym (lt-one h)) z
below_ind P z s powers (suc n) a h =
    subst P (xor_shifted (a / 2 ^ n) n (a % 2 ^ n) (mod-lt a (pow_pos n)) ∙ div-add-mod' a (2 ^ n))
    (s ((a / 2 ^ n) * 2 ^ n) (a % 2 ^ n)
    (top (a / 2 ^ n) (div_below a (2 ^ n) 2 (pow_pos n) (subst (λ (x : ℕ). a < x) (pow-suc 2 n ∙ mul_comm (2 ^ n) 2) h)))
    (below_ind P z s powers n (a % 2 ^ n) (mod-lt a (pow_pos n))))
  where
    top : (q : ℕ) → q < 2 → P (q * 2 ^ n)
    top zero k = subst P (sym (zero-mul (2 ^ n))) z
    top (suc zero) k = subst P (sym (one-mul (2 ^ n))) (powers n)
    top (suc (suc q)) k = absurd (omega arith)

-- linear functions that agree at the powers agree
pub ext : (f g : ℕ → ℕ) → Linear f → Linear g → ((i : ℕ) → f (2 ^ i) ≡ g (2 ^ i)) → (a : ℕ) → f a ≡ g a
ext f g lf lg powers a =
    below_ind (λ a. f a ≡ g a) (lin_zero f lf ∙ sym (lin_zero g lg)) (λ a b x y. lf a b ∙ ap₂ bit_xor x y ∙ sym (lg a b)) powers a a (below_pow a)
