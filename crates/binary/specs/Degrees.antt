-- Degrees add, and each polynomial divides with a rest of lower degree. Assumes nothing.
use Rattle.std.specs.Prelude.{◌≡◌, ℕ, zero, suc, ◌+◌, ◌*◌, ◌/◌, ◌%◌, ◌^◌, ◌<◌, ◌≤◌, Bool, true, false, cond, ◌⊎◌, bit_xor, refl}
use Rattle.std.proofs.Common.{sym, ap, ap₂, subst, ◌∙◌, inl, inr, add-zero, add-suc, suc-add, add_comm, one-mul, mul_comm, mod-lt, pow-suc, div-add-mod', arith, pow_pos, pow_mono, shr-shr, shl_lt, eqb-true}
use Rattle.std.proofs.Math.Nat.{div-eq_of_lt}
use Rattle.std.specs.Int.Bits.{xor_zero_r, xor_assoc, xor_shifted}
use Rattle.std.proofs.lemmas.Nat.{div_below, xor_shr, xor_lt, shl-shr}
use Rattle.std.proofs.lemmas.Bool.{cases_lt}
use Rattle.binary.specs.Polynomials.{has_power, shifts_below, carryless, Divided}
use Rattle.binary.specs.Sums.{below_pow}
use Rattle.binary.specs.Carryless.{carry_at, carry_r, carry_zero, carry_power}

-- the highest power of m is i
abbrev pub Degree : ℕ → ℕ → Type 0
Degree m i = m / 2 ^ i ≡ 1

pub degree_bounds : (m i : ℕ) → Degree m i → (2 ^ i ≤ m) × (m < 2 ^ suc i)
degree_bounds m i e =
    let split : 1 * 2 ^ i + m % 2 ^ i ≡ m = ap (λ (x : ℕ). x * 2 ^ i + m % 2 ^ i) (sym e) ∙ div-add-mod' m (2 ^ i) in
    let low : m % 2 ^ i < 2 ^ i = mod-lt m (pow_pos i) in
    let two : 2 ^ suc i ≡ 2 ^ i * 2 = pow-suc 2 i in
    (omega arith, omega arith)

-- without the power n and higher ones
pub below_top : (n y : ℕ) → y / 2 ^ n ≡ 0 → y < 2 ^ n
below_top n y e =
    let split : 0 * 2 ^ n + y % 2 ^ n ≡ y = ap (λ (z : ℕ). z * 2 ^ n + y % 2 ^ n) (sym e) ∙ div-add-mod' y (2 ^ n) in
    let b : y % 2 ^ n < 2 ^ n = mod-lt y (pow_pos n) in
    omega arith

half_below : (n a : ℕ) → a < 2 ^ suc n → a / 2 ^ n < 2
half_below n a h = div_below a (2 ^ n) 2 (pow_pos n) (subst (λ (x : ℕ). a < x) (pow-suc 2 n ∙ mul_comm (2 ^ n) 2) h)

-- a polynomial below 2 ^ (n + 1) has the degree n, or is below 2 ^ n
pub top_or : (n a : ℕ) → a < 2 ^ suc n → Degree a n ⊎ (a < 2 ^ n)
top_or n a h = go (a / 2 ^ n) refl (half_below n a h)
  where
    go : (q : ℕ) → a / 2 ^ n ≡ q → q < 2 → Degree a n ⊎ (a < 2 ^ n)
    go zero e l = inr (below_top n a e)
    go (suc zero) e l = inl e
    go (suc (suc q)) e l = absurd (omega arith)

pub degree_of : (n a : ℕ) → 0 < a → a < 2 ^ n → (i : ℕ) × (i < n) × Degree a i
degree_of zero a p h = absurd (omega arith)
degree_of (suc n) a p h = elim (top_or n a h) [ inl d ↦ (n, omega arith, d) | inr l ↦ (let r = degree_of n a p l in (r.0, omega arith, r.2)) ]

-- 1 is the only polynomial of degree 0
pub degree_up : (a i : ℕ) → 1 < a → Degree a i → 0 < i
degree_up a zero h d = let b : a < 2 = (degree_bounds a 0 d).1 in absurd (omega arith)
degree_up a (suc i) h d = omega arith

-- a product is below the bound of its factors
pub shifts_below_is : (i n a b : ℕ) → a < 2 ^ suc i → shifts_below n a b < 2 ^ (i + n)
unfolding shifts_below
shifts_below_is i zero a b h = pow_pos (i + 0)
shifts_below_is i (suc n) a b h =
    subst (λ (k : ℕ). shifts_below (suc n) a b < 2 ^ k) (sym (add-suc i n))
    (xor_lt (suc (i + n)) (cond (has_power b n) (a * 2 ^ n) 0) (shifts_below n a b) (part (has_power b n))
    (let w : 2 ^ (i + n) ≤ 2 ^ suc (i + n) = pow_mono (omega arith) in let r = shifts_below_is i n a b h in omega arith))
  where
    part : (v : Bool) → cond v (a * 2 ^ n) 0 < 2 ^ suc (i + n)
    part true = subst (λ (k : ℕ). a * 2 ^ n < 2 ^ k) (suc-add i n) (shl_lt (suc i) n h)
    part false = pow_pos (suc (i + n))

pub carry_below : (i n a b : ℕ) → a < 2 ^ suc i → b < 2 ^ n → carryless a b < 2 ^ (i + n)
carry_below i n a b ha hb = subst (λ (x : ℕ). x < 2 ^ (i + n)) (sym (carry_at n a b hb)) (shifts_below_is i n a b ha)

-- a shifted polynomial has its degree shifted
shift_degree : (m p j : ℕ) → Degree m p → Degree (m * 2 ^ j) (p + j)
shift_degree m p j e =
    ap (λ (k : ℕ). m * 2 ^ j / 2 ^ k) (add_comm p j) ∙ sym (shr-shr (m * 2 ^ j) j p) ∙ ap (λ (x : ℕ). x / 2 ^ p) (shl-shr m j) ∙ e

-- b is its highest power and the rest
top_rest : (b j : ℕ) → Degree b j → (bit_xor (2 ^ j) (b % 2 ^ j) ≡ b)
top_rest b j e =
    ap (λ (x : ℕ). bit_xor x (b % 2 ^ j)) (sym (one-mul (2 ^ j))) ∙ xor_shifted 1 j (b % 2 ^ j) (mod-lt b (pow_pos j))
    ∙ ap (λ (x : ℕ). x * 2 ^ j + b % 2 ^ j) (sym e) ∙ div-add-mod' b (2 ^ j)

-- the degree of a product is the sum of the degrees
pub degrees_add : (m p b j : ℕ) → Degree m p → Degree b j → Degree (carryless m b) (p + j)
degrees_add m p b j dm db =
    let rest : carryless m (b % 2 ^ j) < 2 ^ (p + j) = carry_below p j m (b % 2 ^ j) (degree_bounds m p dm).1 (mod-lt b (pow_pos j)) in
    ap (λ (x : ℕ). x / 2 ^ (p + j)) (ap (carryless m) (sym (top_rest b j db)) ∙ carry_r m (2 ^ j) (b % 2 ^ j))
    ∙ xor_shr (carryless m (2 ^ j)) (carryless m (b % 2 ^ j)) (p + j)
    ∙ ap₂ bit_xor (ap (λ (x : ℕ). x / 2 ^ (p + j)) (carry_power j m) ∙ shift_degree m p j dm) (div-eq_of_lt rest)

-- a multiple of m below the degree of m is 0
pub low_multiple : (m p k : ℕ) → Degree m p → carryless m k < 2 ^ p → carryless m k ≡ 0
low_multiple m p zero d h = carry_zero m
low_multiple m p (suc k) d h =
    let r = degree_of (suc k) (suc k) (omega arith) (below_pow (suc k)) in
    let b = (degree_bounds (carryless m (suc k)) (p + r.0) (degrees_add m p (suc k) r.0 d r.2)).0 in
    let w : 2 ^ p ≤ 2 ^ (p + r.0) = pow_mono (omega arith) in
    absurd (omega arith)

-- m, shifted to the degree of x, takes the highest power of x away
pub top_gone : (m p n x : ℕ) → Degree m p → Degree x (p + n) → bit_xor x (m * 2 ^ n) < 2 ^ (p + n)
top_gone m p n x d e = below_top (p + n) (bit_xor x (m * 2 ^ n)) (xor_shr x (m * 2 ^ n) (p + n) ∙ ap₂ bit_xor e (shift_degree m p n d))

-- x less a multiple of m is below the degree of m
pub divide : (m p n x : ℕ) → Degree m p → x < 2 ^ (p + n) → (k : ℕ) × (k < 2 ^ n) × (bit_xor x (carryless m k) < 2 ^ p)
divide m p zero x d h =
    (0, pow_pos 0, subst (λ (y : ℕ). y < 2 ^ p) (sym (ap (bit_xor x) (carry_zero m) ∙ xor_zero_r x)) (subst (λ (y : ℕ). x < 2 ^ y) (add-zero p) h))
divide m p (suc n) x d h =
    let l : x < 2 ^ suc (p + n) = subst (λ (y : ℕ). x < 2 ^ y) (add-suc p n) h in
    let down : (y : ℕ) → y < 2 ^ (p + n) → (k : ℕ) × (k < 2 ^ n) × (bit_xor y (carryless m k) < 2 ^ p) = λ y. divide m p n y d in
    elim (top_or (p + n) x l) [ inl e ↦ one e down | inr s ↦ none (down x s) ]
  where
    wider : 2 ^ n < 2 ^ suc n
    wider = let e : 2 ^ suc n ≡ 2 ^ n * 2 = pow-suc 2 n in let h = pow_pos n in omega arith

    none : (k : ℕ) × (k < 2 ^ n) × (bit_xor x (carryless m k) < 2 ^ p) → (k : ℕ) × (k < 2 ^ suc n) × (bit_xor x (carryless m k) < 2 ^ p)
    none r = (r.0, (let w = wider in let b = r.1 in omega arith), r.2)

    one : Degree x (p + n) → ((y : ℕ) → y < 2 ^ (p + n) → (k : ℕ) × (k < 2 ^ n) × (bit_xor y (carryless m k) < 2 ^ p)) → (k : ℕ) × (k < 2 ^ suc n) × (bit_xor x (carryless m k) < 2 ^ p)
    one e down =
        let r = down (bit_xor x (m * 2 ^ n)) (top_gone m p n x d e) in (
          bit_xor (2 ^ n) r.0,
          xor_lt (suc n) (2 ^ n) r.0 wider (let w = wider in let b = r.1 in omega arith),
          subst (λ (z : ℕ). z < 2 ^ p)
              (xor_assoc x (m * 2 ^ n) (carryless m r.0) ∙ ap (bit_xor x) (sym (carry_r m (2 ^ n) r.0 ∙ ap (λ (z : ℕ). bit_xor z (carryless m r.0)) (carry_power n m))))
              r.2,
        )

-- a factor is below the bound of the product, less the degree of the other
pub quotient_below : (m p k n : ℕ) → Degree m p → carryless m k < 2 ^ (p + n) → k < 2 ^ n
quotient_below m p zero n d h = pow_pos n
quotient_below m p (suc k) n d h =
    let r = degree_of (suc k) (suc k) (omega arith) (below_pow (suc k)) in
    let j : ℕ = r.0 in
    let b : 2 ^ (p + j) ≤ carryless m (suc k) = (degree_bounds (carryless m (suc k)) (p + j) (degrees_add m p (suc k) j d r.2)).0 in
    let u : suc k < 2 ^ suc j = (degree_bounds (suc k) j r.2).1 in
    elim (cases_lt j n) [
      | inl l ↦ let w : 2 ^ suc j ≤ 2 ^ n = pow_mono l in omega arith
      | inr l ↦ let w : 2 ^ (p + n) ≤ 2 ^ (p + j) = pow_mono (omega arith) in absurd (omega arith)
    ]

-- a polynomial has one degree
pub degree_one : (m i j : ℕ) → Degree m i → Degree m j → i ≡ j
degree_one m i j d e =
    elim (cases_lt i j) [ inl l ↦ absurd (apart i j l d e) | inr g ↦ elim (cases_lt j i) [ inl l ↦ absurd (apart j i l e d) | inr h ↦ omega arith ] ]
  where
    apart : (i j : ℕ) → i < j → Degree m i → Degree m j → ⊥
    apart i j l d e =
        let u : m < 2 ^ suc i = (degree_bounds m i d).1 in
        let v : 2 ^ j ≤ m = (degree_bounds m j e).0 in
        let w : 2 ^ suc i ≤ 2 ^ j = pow_mono l in
        omega arith

pub divided : (x d i k r : ℕ) → Degree d i → bit_xor x (carryless d k) ≡ r → r < 2 ^ i → Divided x d k r
divided x d i k r g e l = record {
  equal = e;
  lower = λ j h. subst (λ (n : ℕ). r < 2 ^ n) (degree_one d i j g (eqb-true _ 1 h)) l;
}

-- each polynomial divides by each that is not 0
pub division : (x d : ℕ) → 0 < d → (k : ℕ) × (r : ℕ) × Divided x d k r
division x d h =
    let g = degree_of d d h (below_pow d) in
    let i : ℕ = g.0 in
    let r = divide d i x x g.2 (let w : 2 ^ x ≤ 2 ^ (i + x) = pow_mono (omega arith) in let b = below_pow x in omega arith) in
    (r.0, bit_xor x (carryless d r.0), divided x d i r.0 (bit_xor x (carryless d r.0)) g.2 refl r.2)
